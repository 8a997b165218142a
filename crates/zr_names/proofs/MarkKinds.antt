use Rattle.std.proofs.Common.{◌≡◌, ℕ, zero, suc, ◌+◌, ◌*◌, ◌<◌, ◌/◌, ◌%◌, ◌^◌, Bool, true, false, cond, List, [], ◌∷◌, ◌++◌, codes, drop, length, take, refl, sym, ◌∙◌, ap, arith}
use Rattle.std.proofs.lemmas.List.{drop_at}
use Rattle.std.proofs.lemmas.List.Sums.{fold_push}
use Rattle.std.proofs.lemmas.Slice.Eq.{bytes_eq-Decides}
use Rattle.std.specs.Bool.{Decides}
use Rattle.std.specs.Str.{bytes_eq}
use Rattle.zr_names.specs.Hex.{digit_number, hex_digit, hex_number, hex_text}
use Rattle.zr_names.specs.Marks.{HasGuid, IsMark, cursor_text, guid_and_job, guid_at, mark_kind, old_cursor_text, tentative_text}
use Rattle.zr_names.specs.declared.marks.MarkKind.{MarkKind}
use Rattle.zr_names.specs.declared.marks.MarkKind.TheVariants.{Cursor, Tentative, OldCursor, Other}
use Rattle.zr_names.proofs.HexText.{hex_text-none, hex_text-push, number-of_digit, pow_suc}
use Rattle.zr_names.proofs.Parts.{parts_of}
use Rattle.zr_names.proofs.Unique.{one_mark}

hex_number-push : (digits : List ℕ) (b : ℕ) → hex_number (digits ++ b ∷ []) ≡ hex_number digits * 16 + digit_number b
unfolding hex_number
hex_number-push digits b = fold_push (λ before c. before * 16 + digit_number c) 0 digits b

hex_text-suc : (digits n : ℕ) → hex_text (suc digits) n ≡ hex_text digits (n / 16) ++ hex_digit (n % 16) ∷ []
unfolding hex_text
hex_text-suc digits n = refl

-- the number of one more digit
number-suc : (digits n : ℕ) → hex_number (hex_text (suc digits) n) ≡ hex_number (hex_text digits (n / 16)) * 16 + n % 16
number-suc digits n =
    let front = hex_text digits (n / 16) in
    ap hex_number (hex_text-suc digits n) ∙ hex_number-push front (hex_digit (n % 16)) ∙ ap (λ d. hex_number front * 16 + d) (number-of_digit (n % 16) (omega arith))

-- what was read from some digits is written as they are
again : (digits n : ℕ) → hex_text digits (hex_number (hex_text digits n)) ≡ hex_text digits n
again zero n = hex_text-none 0 (hex_number (hex_text 0 n)) refl ∙ sym (hex_text-none 0 n refl)
again (suc digits) n =
    let front = hex_number (hex_text digits (n / 16)) in
    let count : suc digits ≡ digits + 1 = omega arith in
    let pushed = hex_text-push digits front (n % 16) (omega arith) in
    let rest = again digits (n / 16) in
    ap (hex_text (suc digits)) (number-suc digits n)
    ∙ ap (λ k. hex_text k (front * 16 + n % 16)) count
    ∙ pushed
    ∙ ap (λ t. t ++ hex_digit (n % 16) ∷ []) rest
    ∙ sym (hex_text-suc digits n)

number-none : (n : ℕ) → hex_number (hex_text 0 n) ≡ 0
unfolding hex_text hex_number
number-none n = refl

number-below : (digits n : ℕ) → hex_number (hex_text digits n) < 16 ^ digits
number-below zero n = let none = number-none n in omega arith
number-below (suc digits) n =
    let power = pow_suc digits in
    let more = number-suc digits n in
    let below = number-below digits (n / 16) in
    omega arith

-- the guid that stands behind a front
guid_behind : (place : ℕ) (front name job : List ℕ) (guid : ℕ) → length front ≡ place → name ≡ front ++ guid_and_job guid job → guid_at place name ≡ hex_number (hex_text 16 guid)
guid_behind place front name job guid long same =
    let behind = ap (drop place) same ∙ drop_at front (guid_and_job guid job) place long in
    ap hex_number (ap (take 16) behind ∙ (parts_of (guid_and_job guid job) guid job refl).digits)

respelled : (place : ℕ) (front name job : List ℕ) (guid : ℕ) → length front ≡ place → name ≡ front ++ guid_and_job guid job → name ≡ front ++ guid_and_job (guid_at place name) job
respelled place front name job guid long same =
    let digits = ap (hex_text 16) (guid_behind place front name job guid long same) ∙ again 16 guid in
    same ∙ ap (λ t. front ++ (t ++ (codes "_J_" ++ job))) (sym digits)

fits : (place : ℕ) (front name job : List ℕ) (guid : ℕ) → length front ≡ place → name ≡ front ++ guid_and_job guid job → guid_at place name < 2 ^ 64
fits place front name job guid long same =
    let is = guid_behind place front name job guid long same in
    let below = number-below 16 guid in
    omega arith

record KindFacts (name job : List ℕ) (kind : MarkKind) : Type 0 where
  is : IsMark name job kind
  has_guid : HasGuid kind

chosen : (name job : List ℕ) (b d e : Bool)
    → Decides b (name ≡ cursor_text (guid_at 15 name) job)
    → Decides d (name ≡ tentative_text (guid_at 24 name) job)
    → Decides e (name ≡ old_cursor_text)
    → KindFacts name job (cond b (Cursor (record { 0 = guid_at 15 name })) (cond d (Tentative (record { 0 = guid_at 24 name })) (cond e OldCursor Other)))
chosen name job true d e cursor tentative old =
    record { is = cursor.0 refl; has_guid = fits 15 (codes "zrepl_CURSOR_G_") name job (guid_at 15 name) refl (cursor.0 refl) }
chosen name job false true e cursor tentative old =
    record { is = tentative.0 refl; has_guid = fits 24 (codes "zrepl_CURSORTENTATIVE_G_") name job (guid_at 24 name) refl (tentative.0 refl) }
chosen name job false false true cursor tentative old = record { is = old.0 refl; has_guid = tt }
chosen name job false false false cursor tentative old = record {
  is = record {
    no_cursor = λ guid same. not_both (cursor.1 (respelled 15 (codes "zrepl_CURSOR_G_") name job guid refl same));
    no_tentative = λ guid same. not_both (tentative.1 (respelled 24 (codes "zrepl_CURSORTENTATIVE_G_") name job guid refl same));
    not_old = λ same. not_both (old.1 same);
  };
  has_guid = tt;
} where
  not_both : false ≡ true → ⊥
  not_both same = cc

kind_facts : (name job : List ℕ) → KindFacts name job (mark_kind name job)
unfolding mark_kind
kind_facts name job =
    let cursor = cursor_text (guid_at 15 name) job in
    let tentative = tentative_text (guid_at 24 name) job in
    chosen name job (bytes_eq name cursor) (bytes_eq name tentative) (bytes_eq name old_cursor_text) (bytes_eq-Decides name cursor) (bytes_eq-Decides name tentative) (bytes_eq-Decides name old_cursor_text)

-- each name has its kind
pub mark_kind-is : (name job : List ℕ) → IsMark name job (mark_kind name job)
mark_kind-is name job = (kind_facts name job).is

-- a name that is a mark has that kind
pub kind_of_mark : (name job : List ℕ) (kind : MarkKind) → HasGuid kind → IsMark name job kind → kind ≡ mark_kind name job
kind_of_mark name job kind has_guid is =
    let own = kind_facts name job in
    one_mark name job kind (mark_kind name job) has_guid own.has_guid is own.is
