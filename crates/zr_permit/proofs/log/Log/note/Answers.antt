use Rattle.std.proofs.Common.{subst, sym}
use Rattle.zr_permit.specs.Seen.{Seen}
use Rattle.zr_permit.specs.Transcript.{Allowed}
use Rattle.zr_permit.proofs.Legality.{legal-more}
use Rattle.zr_permit.proofs.log.Log.note.Goals as goal

pub invariant_of-self : goal.invariant_of-self
invariant_of-self c =
    let allows : Seen → Type 0 = λ seen. Allowed seen.jobs seen.unit seen.turns c.args.cmd in
    let allowed = subst allows (sym c.self.view_is) c.requires.allowed in
    rw c.push_reserved.ensures.items (legal-more _ _ _ _ c.args.answer c.self.invariant allowed)
