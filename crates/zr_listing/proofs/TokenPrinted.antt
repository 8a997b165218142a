use Rattle.std.proofs.Common.{◌≡◌, ◌==◌, ◌+◌, ◌<◌, ◌≤◌, ◌/◌, ◌%◌, ◌^◌, ℕ, zero, suc, Bool, true, false, List, [], ◌∷◌, ◌++◌, Option, Some, None, map, refl, arith, sym, subst, length, lit≤, IfSome}
use Rattle.std.specs.Prelude.{if◌then◌else◌}
use Rattle.std.specs.Char.{digit_value}
use Rattle.std.specs.Fmt.{digit_glyph, digits, digits_onto}
use Rattle.std.specs.List.{AllByRecursion}
use Rattle.std.specs.Str.Parse.{AllDigits}
use Rattle.std.proofs.lemmas.Bool.Decides.{nat_tests}
use Rattle.std.proofs.lemmas.Fmt.{digits_is_IsNumeral}
use Rattle.std.proofs.lemmas.Grind.{pow_more}
use Rattle.std.proofs.lemmas.List.Elements.{All-from_recursion}
use Rattle.zr_names.specs.declared.unit.Guid.{Guid}
use Rattle.zr_command.specs.declared.version.TokenInfo.{TokenInfo}
use Rattle.zr_listing.specs.declared.token.TokenLine.{TokenLine}
use Rattle.zr_listing.specs.declared.token.TokenLine.TheVariants as line
use Rattle.zr_listing.specs.Token.{IsHexGuid, IsTokenLine, IsTokenListing, from_guids, guids_of, to_guids}
use Rattle.zr_listing.specs.TokenPrinting.{Fits, IsContentsLine, contents_line, contents_lines, contents_text, guid_text}
use Rattle.zr_listing.proofs.Printed.{Lacks, Spelled, printed}

shorter : (b : Bool) (one other : List ℕ) (most : ℕ) → (b ≡ true → length one ≤ most) → (b ≡ false → length other ≤ most) → length (if b then one else other) ≤ most
shorter true one other most first second = first refl
shorter false one other most first second = second refl

-- as many digits as the number has, at most
onto-short : (k m n : ℕ) (acc : List ℕ) → n < 16 ^ (m + 1) → length (digits_onto k 16 false n acc) ≤ m + 1 + length acc
onto-short zero m n acc small = omega arith
onto-short (suc k) zero n acc small =
    let acc' = digit_glyph false (n % 16) ∷ acc in
    shorter (n / 16 == 0) acc' (digits_onto k 16 false (n / 16) acc') (0 + 1 + length acc) (λ last. omega arith)
    (λ on. absurd (grind (arith, nat_tests)))
onto-short (suc k) (suc m) n acc small =
    let acc' = digit_glyph false (n % 16) ∷ acc in
    let power = pow_more 16 (m + 1) in
    let longer : suc m + 1 ≡ m + 1 + 1 = omega arith in
    let few : n < 16 ^ (m + 1 + 1) = subst (λ (k : ℕ). n < 16 ^ k) longer small in
    let low : n / 16 < 16 ^ (m + 1) = omega (arith, power, few) in
    let rest = onto-short k m (n / 16) acc' low in
    shorter (n / 16 == 0) acc' (digits_onto k 16 false (n / 16) acc') (suc m + 1 + length acc) (λ last. omega arith) (λ on. omega (arith, rest))

digits-short : (n : ℕ) → n < 2 ^ 64 → length (digits 16 false n) ≤ 16
unfolding digits
digits-short n small = omega (arith, onto-short 64 15 n [] (omega (arith, small)))

digit-lacks : (c : ℕ) → digit_value c < 16 → (c == 10) ≡ false
digit-lacks c small = grind (arith, nat_tests)

digits-lack : (ds : List ℕ) → AllDigits 16 ds → Lacks 10 ds
digits-lack [] h = tt
digits-lack (c ∷ cs) h = (digit-lacks c h.0, digits-lack cs h.1)

-- a printed guid is read back
guid-spelled : (guid : Guid) → guid.0 < 2 ^ 64 → IsHexGuid (guid_text guid) guid
guid-spelled guid small =
    let is = digits_is_IsNumeral 16 false (lit≤ tt) (lit≤ tt) guid.0 (omega (arith, small)) in
    record {
      digits = digits 16 false guid.0;
      spelled = refl;
      is_number = record { short = digits-short guid.0 small; digits = is.0; value = sym is.1 };
    }

guid-lacks : (guid : Guid) → guid.0 < 2 ^ 64 → Lacks 10 (guid_text guid)
guid-lacks guid small =
    let is = digits_is_IsNumeral 16 false (lit≤ tt) (lit≤ tt) guid.0 (omega (arith, small)) in
    (refl, (refl, digits-lack (digits 16 false guid.0) is.0.1))

-- a printed line is read back
line-spelled : (said : TokenLine) → IsContentsLine said → Spelled IsTokenLine (contents_line said) said
line-spelled (line.To guid) small = record {
  spelled = record { value = guid_text guid; has_key = refl; is_guid = guid-spelled guid small };
  lacks = (refl, (refl, (refl, (refl, (refl, (refl, (refl, (refl, (refl, (refl, guid-lacks guid small))))))))));
}
line-spelled (line.From guid) small = record {
  spelled = record { value = guid_text guid; has_key = refl; is_guid = guid-spelled guid small };
  lacks = (refl, (refl, (refl, (refl, (refl, (refl, (refl, (refl, (refl, (refl, (refl, (refl, guid-lacks guid small))))))))))));
}
line-spelled line.Other small = record {
  spelled = (λ value has. cc, λ value has. cc);
  lacks = (refl, (refl, (refl, (refl, (refl, (refl, (refl, (refl, (refl, (refl, (refl, (refl, (refl, (refl, (refl, (refl, (refl, (refl, (refl, (refl, (refl, (refl, tt))))))))))))))))))))));
}

all-spelled : (from : Option Guid) (to : Guid) → AllByRecursion IsContentsLine (line.Other ∷ map line.From (guids_of from) ++ line.To to ∷ []) → AllByRecursion (λ said. Spelled IsTokenLine (contents_line said) said) (line.Other ∷ map line.From (guids_of from) ++ line.To to ∷ [])
all-spelled None to h = (line-spelled line.Other h.0, (line-spelled (line.To to) h.1.0, tt))
all-spelled (Some from) to h = (line-spelled line.Other h.0, (line-spelled (line.From from) h.1.0, (line-spelled (line.To to) h.1.1.0, tt)))

tos : (from : Option Guid) (to : Guid) → to_guids (line.Other ∷ map line.From (guids_of from) ++ line.To to ∷ []) ≡ to ∷ []
tos None to = refl
tos (Some from) to = refl

froms : (from : Option Guid) (to : Guid) → from_guids (line.Other ∷ map line.From (guids_of from) ++ line.To to ∷ []) ≡ guids_of from
froms None to = refl
froms (Some from) to = refl

fit-lines : (from : Option Guid) (to : Guid) → to.0 < 2 ^ 64 → IfSome from (λ guid. guid.0 < 2 ^ 64) → AllByRecursion IsContentsLine (line.Other ∷ map line.From (guids_of from) ++ line.To to ∷ [])
fit-lines None to h k = (tt, (h, tt))
fit-lines (Some from) to h k = (tt, (k, (h, tt)))

-- what is printed of a token shows it
pub contents_shown : (info : TokenInfo) → Fits info → IsTokenListing (contents_text info) info
contents_shown info fits =
    let fit = fit-lines info.from info.to fits.to fits.from in
    record {
      said = contents_lines info;
      lines = printed IsTokenLine contents_line (contents_lines info)
          (All-from_recursion (λ said. Spelled IsTokenLine (contents_line said) said) (contents_lines info) (all-spelled info.from info.to fit));
      to = tos info.from info.to;
      from = froms info.from info.to;
    }
