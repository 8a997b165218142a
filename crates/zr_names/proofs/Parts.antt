use Rattle.std.proofs.Common.{◌≡◌, ◌≢◌, ℕ, ◌≤◌, List, ◌++◌, length, take, drop, codes, Option, Some, None, MatchOption, sym, ◌∙◌, ap, subst, arith, length-append}
use Rattle.std.proofs.lemmas.List.{take_at, drop_at, append_cancel_left}
use Rattle.zr_names.specs.Hex.{hex_text}
use Rattle.zr_names.specs.Marks.{guid_and_job}
use Rattle.zr_names.specs.declared.unit.Guid.{Guid}
use Rattle.zr_names.proofs.HexText.{length-hex_text}

-- the parts of what follows a front in the name of a job's bookmark
pub record Parts (text : List ℕ) (guid : ℕ) (job : List ℕ) : Type 0 where
  pub long : 16 ≤ length text
  pub digits : take 16 text ≡ hex_text 16 guid
  pub rest : drop 16 text ≡ codes "_J_" ++ job

pub parts_of : (text : List ℕ) (guid : ℕ) (job : List ℕ) → text ≡ guid_and_job guid job → Parts text guid job
parts_of text guid job same =
    let hex = hex_text 16 guid in
    let own = codes "_J_" ++ job in
    let sixteen = length-hex_text 16 guid in
    let whole = length-append hex own in
    record {
      long = subst (λ (t : List ℕ). 16 ≤ length t) (sym same) (omega (arith, sixteen, whole));
      digits = ap (take 16) same ∙ take_at hex own 16 sixteen;
      rest = ap (drop 16) same ∙ drop_at hex own 16 sixteen;
    }

-- what is known behind a front is known of the whole name
pub behind_front : (name front rest job : List ℕ) (found : Option Guid) → name ≡ front ++ rest
    → MatchOption found ((guid : ℕ) → rest ≢ guid_and_job guid job) (λ guid. rest ≡ guid_and_job guid.0 job)
    → MatchOption found ((guid : ℕ) → name ≢ front ++ guid_and_job guid job) (λ guid. name ≡ front ++ guid_and_job guid.0 job)
behind_front name front rest job None cut none = λ guid same. none guid (append_cancel_left front rest (guid_and_job guid job) (sym cut ∙ same))
behind_front name front rest job (Some guid) cut some = cut ∙ ap (λ r. front ++ r) some
