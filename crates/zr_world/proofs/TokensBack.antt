use Rattle.std.proofs.Common.{◌≡◌, ◌==◌, ◌&&◌, ℕ, zero, suc, ◌+◌, ◌*◌, ◌/◌, ◌%◌, ◌^◌, ◌<◌, ◌≤◌, Bool, true, false, List, [], ◌∷◌, ◌++◌, Option, Some, None, length, slice_index, take, drop, nat_lt, refl, arith, ap, ◌∙◌, sym, subst, append_assoc}
use Rattle.std.specs.Prelude.{codes, if◌then◌else◌}
use Rattle.std.proofs.Math.Seq.{drop-append-add, take-append_seam}
use Rattle.std.proofs.lemmas.Bool.Decides.{nat_tests}
use Rattle.zr_names.specs.Hex.{digit_number, hex_digit, hex_text}
use Rattle.zr_names.proofs.HexText.{length-hex_text, number-of_digit}
use Rattle.zr_names.specs.declared.unit.Guid.{Guid}
use Rattle.std.specs.Cmp.Lexicographic.{nat_list_eq_equiv}
use Rattle.std.specs.Prelude.{IfSome}
use Rattle.std.proofs.Common.{get_or}
use Rattle.std.proofs.lemmas.List.{get_or-append-add}
use Rattle.zr_command.specs.Names.{same_text}
use Rattle.zr_names.specs.Names.{IsName, path_is_bad}
use Rattle.zr_names.specs.declared.names.TheConstants.{PATH_LIMIT}
use Rattle.zr_world.specs.declared.pools.Partial.{Partial}
use Rattle.zr_world.specs.Rows.{token_text}
use Rattle.zr_world.specs.Tokens.{if_shown, is_path, number_behind, partial_by, partial_of_token, partial_told, says_none, with_digit}
use Rattle.zr_world.proofs.TokensRead.{path_passes}

abbrev the-guid : ℕ → Guid
the-guid n = record { 0 = n }

abbrev the-partial : ℕ → Option Guid → List ℕ → Partial
the-partial to from source = record { to = the-guid to; from = from; source = source }

behind-append : (xs ys : List ℕ) (n : ℕ) → number_behind n (xs ++ ys) ≡ number_behind (number_behind n xs) ys
behind-append [] ys n = refl
behind-append (x ∷ xs) ys n = behind-append xs ys (with_digit n x)

small-mod : (x : ℕ) → x < 2 ^ 64 → x % 2 ^ 64 ≡ x
small-mod x small = omega arith

-- one digit behind those of a number of 64 bits
one-digit : (n : ℕ) → n < 2 ^ 64 → with_digit (n / 16) (hex_digit (n % 16)) ≡ n
one-digit n small =
    let last = number-of_digit (n % 16) (omega arith) in
    let front = small-mod (n / 16 * 16) (omega arith) in
    rw (last, front) (small-mod (n / 16 * 16 + n % 16) (omega arith) ∙ omega arith)

-- the digits of a number of 64 bits are read as it
hex-number : (digits n : ℕ) → n < 16 ^ digits → n < 2 ^ 64 → number_behind 0 (hex_text digits n) ≡ n
unfolding hex_text
hex-number zero n below small = omega arith
hex-number (suc digits) n below small =
    behind-append (hex_text digits (n / 16)) (hex_digit (n % 16) ∷ []) 0
    ∙ ap (λ m. with_digit m (hex_digit (n % 16))) (hex-number digits (n / 16) (omega arith) (omega arith))
    ∙ one-digit n small

pub guid-read : (n : ℕ) → n < 2 ^ 64 → number_behind 0 (hex_text 16 n) ≡ n
guid-read n small = hex-number 16 n (omega arith) small

-- the parts of a token, one behind the other
layout : (to from source : List ℕ) → codes "1-" ++ to ++ 45 ∷ [] ++ from ++ 45 ∷ [] ++ source ≡ 49 ∷ 45 ∷ (to ++ 45 ∷ (from ++ 45 ∷ source))
layout to from source =
    let last = append_assoc (to ++ 45 ∷ [] ++ from) (45 ∷ []) source in
    let middle = append_assoc (to ++ 45 ∷ []) from (45 ∷ source) in
    let first = append_assoc to (45 ∷ []) (from ++ 45 ∷ source) in
    ap (λ (rest : List ℕ). 49 ∷ 45 ∷ rest) (last ∙ middle ∙ first)

front-16 : (digits rest : List ℕ) → length digits ≡ 16 → take 16 (digits ++ rest) ≡ digits
front-16 digits rest long = subst (λ (n : ℕ). take n (digits ++ rest) ≡ digits) long (take-append_seam digits rest)

behind-16 : (digits rest : List ℕ) (more : ℕ) → length digits ≡ 16 → drop (16 + more) (digits ++ rest) ≡ drop more rest
behind-16 digits rest more long = subst (λ (n : ℕ). drop (n + more) (digits ++ rest) ≡ drop more rest) long (drop-append-add digits rest more)

at-17 : (digits rest : List ℕ) → length digits ≡ 16 → slice_index (49 ∷ 45 ∷ (digits ++ 45 ∷ rest)) 19 ≡ slice_index rest 0
at-17 digits rest long = subst (λ (n : ℕ). get_or (digits ++ 45 ∷ rest) (n + 1) 0 ≡ get_or rest 0 0) long (get_or-append-add digits (45 ∷ rest) 1 0)

no-n : (n : ℕ) → n < 16 → (hex_digit n == 110) ≡ false
no-n n small = grind (arith, nat_tests)

-- digits do not begin with an `n`
digits-begin : (digits n : ℕ) (rest : List ℕ) → 0 < digits → (slice_index (hex_text digits n ++ rest) 0 == 110) ≡ false
unfolding hex_text
digits-begin zero n rest some = absurd (omega arith)
digits-begin (suc zero) n rest some = no-n (n % 16) (omega arith)
digits-begin (suc (suc digits)) n rest some =
    let whole = append_assoc (hex_text (suc digits) (n / 16)) (hex_digit (n % 16) ∷ []) rest in
    let first = digits-begin (suc digits) (n / 16) (hex_digit (n % 16) ∷ rest) (omega arith) in
    subst (λ (l : List ℕ). (slice_index l 0 == 110) ≡ false) (sym whole) first

same-partial : (to to' : ℕ) (from from' : Option Guid) (source source' : List ℕ) → to ≡ to' → from ≡ from' → source ≡ source' → record { to = record { 0 = to }; from = from; source = source } ≡ the-partial to' from' source'
same-partial to to' from from' source source' one two three = cc

in-full : (to : ℕ) (source : List ℕ) → to < 2 ^ 64 → partial_by (token_text (the-partial to None source)) ≡ the-partial to None source
in-full to source small =
    let digits = hex_text 16 to in
    let long = length-hex_text 16 to in
    let rest = codes "none" ++ 45 ∷ source in
    let says : says_none (49 ∷ 45 ∷ (digits ++ 45 ∷ rest)) ≡ true = ap (λ b. b == 110) (at-17 digits rest long) in
    subst (λ (text : List ℕ). partial_by text ≡ the-partial to None source) (sym (layout digits (codes "none") source))
    (rw says (same-partial _ to None None _ source (ap (number_behind 0) (front-16 digits (45 ∷ rest) long) ∙ guid-read to small) refl (behind-16 digits (45 ∷ rest) 6 long)))

going-on : (to from : ℕ) (source : List ℕ) → to < 2 ^ 64 → from < 2 ^ 64 → partial_by (token_text (the-partial to (Some (record { 0 = from })) source)) ≡ the-partial to (Some (record { 0 = from })) source
going-on to from source small low =
    let digits = hex_text 16 to in
    let long = length-hex_text 16 to in
    let others = hex_text 16 from in
    let other_long = length-hex_text 16 from in
    let rest = others ++ 45 ∷ source in
    let says : says_none (49 ∷ 45 ∷ (digits ++ 45 ∷ rest)) ≡ false = ap (λ b. b == 110) (at-17 digits rest long) ∙ digits-begin 16 from (45 ∷ source) (omega arith) in
    let second : number_behind 0 (take 16 (drop 19 (49 ∷ 45 ∷ (digits ++ 45 ∷ rest)))) ≡ from =
    ap (λ l. number_behind 0 (take 16 l)) (behind-16 digits (45 ∷ rest) 1 long) ∙ ap (number_behind 0) (front-16 others (45 ∷ source) other_long) ∙ guid-read from low in
    let third : drop 36 (49 ∷ 45 ∷ (digits ++ 45 ∷ rest)) ≡ source =
    behind-16 digits (45 ∷ rest) 18 long ∙ behind-16 others (45 ∷ source) 1 other_long in
    subst (λ (text : List ℕ). partial_by text ≡ the-partial to (Some (record { 0 = from })) source) (sym (layout digits others source))
    (rw says (same-partial _ to _ (Some (record { 0 = from })) _ source (ap (number_behind 0) (front-16 digits (45 ∷ rest) long) ∙ guid-read to small) (ap (λ (n : ℕ). Some (the-guid n)) second) third))

-- a token that is shown is read by its places as what it was shown for
by-places : (partial : Partial) → partial.to.0 < 2 ^ 64 → IfSome partial.from (λ guid. guid.0 < 2 ^ 64) → partial_by (token_text partial) ≡ partial
by-places partial small others = choose partial.from others where
  choose : (from : Option Guid) → IfSome from (λ guid. guid.0 < 2 ^ 64) → partial_by (token_text (the-partial partial.to.0 from partial.source)) ≡ the-partial partial.to.0 from partial.source
  choose None others = in-full partial.to.0 partial.source small
  choose (Some guid) others = going-on partial.to.0 guid.0 partial.source small others

pub shown-read : (partial : Partial) → IsName path_is_bad PATH_LIMIT partial.source → partial.to.0 < 2 ^ 64 → IfSome partial.from (λ guid. guid.0 < 2 ^ 64) → partial_of_token (token_text partial) ≡ Some partial
unfolding partial_of_token
shown-read partial name small others =
    let places = by-places partial small others in
    let path : is_path (partial_by (token_text partial)).source ≡ true = ap (λ (p : Partial). is_path p.source) places ∙ path_passes partial.source name in
    let own : same_text (token_text partial) (token_text partial) ≡ true = nat_list_eq_equiv.refl (token_text partial) in
    let told : partial_told (token_text partial) ≡ Some partial = rw path (ap (λ (p : Partial). Some p) places) in
    ap (if_shown (token_text partial)) told ∙ rw own refl
