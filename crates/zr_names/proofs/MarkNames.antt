use Rattle.std.proofs.Common.{◌≡◌, ℕ, zero, suc, ◌<◌, ◌≤◌, ◌/◌, ◌%◌, ◌==◌, ◌||◌, Bool, true, false, not, List, [], ◌∷◌, ◌++◌, length, get_or, codes, refl, lit≤, ◌∙◌, subst, arith, length-append}
use Rattle.std.specs.List.{list_all}
use Rattle.std.proofs.lemmas.Bool.{agree_below_at, and_from, eqb-true, not_from_true}
use Rattle.std.proofs.lemmas.List.Elements.{All-from_get_or, All-get_or}
use Rattle.std.proofs.lemmas.List.Folds.{list_all-append}
use Rattle.std.proofs.lemmas.List.Sums.{AllPass-from_list_all, list_all-from_AllPass}
use Rattle.zr_names.specs.Hex.{hex_digit, hex_text}
use Rattle.zr_names.specs.Marks.{cursor_text, tentative_text, tag_text, guid_and_job}
use Rattle.zr_names.specs.Names.{IsName, is_name_byte, name_is_bad, tag_is_bad}
use Rattle.zr_names.specs.declared.marks.TagKind.{TagKind}
use Rattle.zr_names.specs.declared.marks.TagKind.TheVariants.{Step, Last}
use Rattle.zr_names.specs.declared.names.TheConstants.{JOB_LIMIT, NAME_LIMIT}
use Rattle.zr_names.proofs.HexText.{length-hex_text}

from_not : (b : Bool) → not b ≡ false → b ≡ true
from_not true e = refl
from_not false e = cc

-- the bytes of a name are name bytes
bytes_of_name : (limit : ℕ) (text : List ℕ) → IsName name_is_bad limit text → list_all is_name_byte text ≡ true
bytes_of_name limit text name =
    list_all-from_AllPass is_name_byte text (All-from_get_or (λ b. is_name_byte b ≡ true) text 0 (λ i inside. from_not (is_name_byte (get_or text i 0)) (name.no_place_bad i inside)))

-- some name bytes are a name
name_of_bytes : (limit : ℕ) (text : List ℕ) → 0 < length text → length text ≤ limit → list_all is_name_byte text ≡ true → IsName name_is_bad limit text
name_of_bytes limit text some short each = record {
  not_empty = some;
  not_long = short;
  no_place_bad = λ place inside. not_from_true (is_name_byte (get_or text place 0)) (All-get_or (λ b. is_name_byte b ≡ true) text place 0 inside (AllPass-from_list_all is_name_byte text each));
}

bytes_of_both : (front rest : List ℕ) → list_all is_name_byte front ≡ true → list_all is_name_byte rest ≡ true → list_all is_name_byte (front ++ rest) ≡ true
bytes_of_both front rest in_front in_rest =
    list_all-append is_name_byte front rest ∙ and_from (list_all is_name_byte front) (list_all is_name_byte rest) in_front in_rest

digit_is_name_byte : (n : ℕ) → n < 16 → is_name_byte (hex_digit n) ≡ true
digit_is_name_byte n small = agree_below_at (λ k. is_name_byte (hex_digit k)) (λ k. true) 16 n refl small

bytes_of_hex : (digits n : ℕ) → list_all is_name_byte (hex_text digits n) ≡ true
unfolding hex_text
bytes_of_hex zero n = refl
bytes_of_hex (suc digits) n =
    bytes_of_both (hex_text digits (n / 16)) (hex_digit (n % 16) ∷ []) (bytes_of_hex digits (n / 16)) (and_from (is_name_byte (hex_digit (n % 16))) true (digit_is_name_byte (n % 16) (omega arith)) refl)

-- a short front of name bytes, a guid and a job are a name
mark_is_name : (front : List ℕ) (guid : ℕ) (job : List ℕ) → length front ≤ 100 → list_all is_name_byte front ≡ true → IsName name_is_bad JOB_LIMIT job → IsName name_is_bad NAME_LIMIT (front ++ guid_and_job guid job)
mark_is_name front guid job short in_front name =
    let hex = hex_text 16 guid in
    let own = codes "_J_" ++ job in
    let sixteen = length-hex_text 16 guid in
    let whole = length-append front (hex ++ own) in
    let behind = length-append hex own in
    let end = length-append (codes "_J_") job in
    let in_own = bytes_of_both (codes "_J_") job refl (bytes_of_name JOB_LIMIT job name) in
    name_of_bytes NAME_LIMIT (front ++ guid_and_job guid job) (omega (arith, sixteen, whole, behind, end)) (omega (arith, sixteen, whole, behind, end, name.not_long)) (bytes_of_both front (hex ++ own) in_front (bytes_of_both hex own (bytes_of_hex 16 guid) in_own))

pub cursor_is_name : (guid : ℕ) (job : List ℕ) → IsName name_is_bad JOB_LIMIT job → IsName name_is_bad NAME_LIMIT (cursor_text guid job)
cursor_is_name guid job name = mark_is_name (codes "zrepl_CURSOR_G_") guid job (lit≤ tt) refl name

pub tentative_is_name : (guid : ℕ) (job : List ℕ) → IsName name_is_bad JOB_LIMIT job → IsName name_is_bad NAME_LIMIT (tentative_text guid job)
tentative_is_name guid job name = mark_is_name (codes "zrepl_CURSORTENTATIVE_G_") guid job (lit≤ tt) refl name

or_none : (x y : Bool) → (x ≡ true → ⊥) → (y ≡ true → ⊥) → (x || y) ≡ false
or_none true y not_x not_y = absurd (not_x refl)
or_none false true not_x not_y = absurd (not_y refl)
or_none false false not_x not_y = refl

name_byte_in_tag : (b : ℕ) → is_name_byte b ≡ true → ((b == 9) || (b == 10)) ≡ false
name_byte_in_tag b named =
    or_none (b == 9) (b == 10) (λ is. other 9 refl (eqb-true b 9 is)) (λ is. other 10 refl (eqb-true b 10 is)) where
      other : (k : ℕ) → is_name_byte k ≡ false → b ≡ k → ⊥
      other k unnamed same = let at : is_name_byte k ≡ true = subst (λ v. is_name_byte v ≡ true) same named in cc

-- a name is a tag
tag_of_name : (limit : ℕ) (text : List ℕ) → IsName name_is_bad limit text → IsName tag_is_bad limit text
tag_of_name limit text name = record {
  not_empty = name.not_empty;
  not_long = name.not_long;
  no_place_bad = λ place inside. name_byte_in_tag (get_or text place 0) (from_not (is_name_byte (get_or text place 0)) (name.no_place_bad place inside));
}

own_is_name : (front job : List ℕ) → length front ≤ 100 → list_all is_name_byte front ≡ true → IsName name_is_bad JOB_LIMIT job → IsName name_is_bad NAME_LIMIT (front ++ job)
own_is_name front job short in_front name =
    let both = length-append front job in
    name_of_bytes NAME_LIMIT (front ++ job) (omega (arith, both, name.not_empty)) (omega (arith, both, name.not_long)) (bytes_of_both front job in_front (bytes_of_name JOB_LIMIT job name))

pub tag_is_tag : (kind : TagKind) (job : List ℕ) → IsName name_is_bad JOB_LIMIT job → IsName tag_is_bad NAME_LIMIT (tag_text kind job)
tag_is_tag Step job name = tag_of_name NAME_LIMIT (tag_text Step job) (own_is_name (codes "zrepl_STEP_J_") job (lit≤ tt) refl name)
tag_is_tag Last job name = tag_of_name NAME_LIMIT (tag_text Last job) (own_is_name (codes "zrepl_last_received_J_") job (lit≤ tt) refl name)
