use Rattle.std.proofs.Common.{◌≡◌, ◌++◌, ℕ, List}
use Rattle.std.proofs.lemmas.Bool.Decides.{Decides-eqb}
use Rattle.std.proofs.lemmas.Slice.Eq.{strip_prefix_is}
use Rattle.zr_listing.proofs.Rows.{match-parts}
use Rattle.zr_listing.proofs.token.behind_key.Goals as goal

pub returns : goal.returns
returns c =
    let text = c.args.text.now in
    let key = c.args.key.now in
    let is = strip_prefix_is Decides-eqb text key c.strip_prefix.result c.strip_prefix.ensures.cases in
    let parts = match-parts ((rest : List ℕ) → text ≡ key ++ rest → ⊥) (λ x. text ≡ key ++ x.now) c.strip_prefix.result is in
    record { some = parts.0; none = parts.1 }
