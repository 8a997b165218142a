use Rattle.std.proofs.Common.{◌≡◌, ◌++◌, ℕ, List}
use Rattle.std.proofs.lemmas.Bool.Decides.{Decides-eqb}
use Rattle.std.proofs.lemmas.Slice.Eq.{strip_prefix_is}
use Rattle.zr_listing.proofs.Rows.{match-parts}
use Rattle.zr_listing.proofs.versions.without_path.Goals as goal

pub returns : goal.returns
returns c =
    let column = c.args.column.now in
    let is = strip_prefix_is Decides-eqb column c.as_bytes.result.now c.strip_prefix.result c.strip_prefix.ensures.cases in
    let parts = match-parts ((rest : List ℕ) → column ≡ c.as_bytes.result.now ++ rest → ⊥) (λ x. column ≡ c.as_bytes.result.now ++ x.now) c.strip_prefix.result is in
    let parts_of_path = rw c.as_bytes.ensures.value at parts in
    record { some = parts_of_path.0; none = parts_of_path.1 }
