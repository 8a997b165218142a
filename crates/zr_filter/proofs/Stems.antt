use Rattle.std.proofs.Common.{◌≡◌, ℕ, ◌-◌, ◌<◌, Bool, true, false, cond, List, [], ◌∷◌, ◌++◌, length, get_or, take, refl, sym, arith}
use Rattle.std.proofs.lemmas.List.{take_more, append-nil}
use Rattle.std.proofs.lemmas.Bool.Decides.{Decides-eqb}
use Rattle.std.proofs.lemmas.Grind.{common_steps}
use Rattle.zr_filter.specs.Patterns.{mark, stem, ends_in_mark}

-- a text whose last byte is `<` has a byte
some_byte : (text : List ℕ) → ends_in_mark text ≡ true → 0 < length text
some_byte [] e = cc
some_byte (b ∷ text) e = omega arith

-- a text is its stem with the mark behind, where it ends in one
pub stem-mark : (text : List ℕ) → text ≡ stem text ++ mark (ends_in_mark text)
stem-mark text = choose (ends_in_mark text) refl where
  choose : (b : Bool) → ends_in_mark text ≡ b → text ≡ cond b (take (length text - 1) text) text ++ mark b
  choose true e =
      let some = some_byte text e in
      let last : get_or text (length text - 1) 0 ≡ 60 = (Decides-eqb (get_or text (length text - 1) 0) 60).0 e in
      let more = take_more text (length text - 1) 0 (omega arith) in
      grind (arith, common_steps)
  choose false e = sym (append-nil text)
