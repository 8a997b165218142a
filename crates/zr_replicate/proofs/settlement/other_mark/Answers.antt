use Rattle.std.proofs.Common.{◌∙◌, ap, sym, subst, List, ℕ}
use Rattle.zr_replicate.specs.Settlement.{first_other, IsOtherMark}
use Rattle.zr_replicate.proofs.Marking.{no-other-mark, other-is-bookmark, other-mark}
use Rattle.zr_replicate.proofs.settlement.other_mark.Goals as goal

pub unreachable-requires : goal.unreachable-requires
unreachable-requires c =
    let job = c.args.pair.now.job in
    let guid = c.args.newest.now.guid in
    other-is-bookmark job guid c.args.known.now.marks c.in-Some.row.now c.in-Snap.field-0 c.requires (ap (first_other job guid) (sym c.as_slice.ensures) ∙ sym c.in-Some.ensures) c.in-Snap.is

pub returns-in_ok-same-in-Mark : goal.returns-in_ok-same-in-Mark
returns-in_ok-same-in-Mark c =
    let job = c.args.pair.now.job in
    let newest = c.args.newest.now in
    let found = ap (first_other job newest.guid) (sym c.as_slice.ensures) ∙ sym c.in-Some.ensures in
    subst (λ (name : List ℕ). IsOtherMark c.args.pair.now c.args.known.now newest name) (sym c.in_ok-same-in-Mark.ensures)
    (other-mark c.args.pair.now c.args.known.now newest c.in-Some.row.now c.in-Mark.name found c.in-Mark.is)

pub returns-in-None : goal.returns-in-None
returns-in-None c =
    let job = c.args.pair.now.job in
    let guid = c.args.newest.now.guid in
    no-other-mark job guid c.args.known.now.marks (ap (first_other job guid) (sym c.as_slice.ensures) ∙ sym c.in-None.ensures)
