use Rattle.std.proofs.Common.{◌≡◌, ◌∙◌, ℕ, None, Some, sym}
use Rattle.zr_jobs.specs.declared.target.TargetFault.TheVariants as target_fault
use Rattle.zr_jobs.specs.declared.pair.Pair.{Pair}
use Rattle.zr_jobset.proofs.Pairs.{unit-pair}
use Rattle.zr_jobset.proofs.set.JobSet.unit_pair.Goals as goal

no-pair : (pair : Pair) → None ≡ Some pair → ⊥
no-pair pair e = cc

not-memory : (n : ℕ) → target_fault.NameTooLong n ≡ target_fault.NoMemory → ⊥
not-memory n e = cc

pub unreachable-requires : goal.unreachable-requires
unreachable-requires c =
    let replicated = unit-pair c.args.self.now c.args.unit.now c.args.source.now c.requires.of_file c.requires.kind in
    no-pair replicated.pair (sym c.in-Ok-None.field-0-is ∙ c.in-Ok-None.ensures.pair ∙ replicated.pair_is)

pub unreachable-requires-in-Err-NameTooLong : goal.unreachable-requires-in-Err-NameTooLong
unreachable-requires-in-Err-NameTooLong c =
    let replicated = unit-pair c.args.self.now c.args.unit.now c.args.source.now c.requires.of_file c.requires.kind in
    not-memory c.in-Err-NameTooLong.field-0-0 (sym c.in-Err-NameTooLong.field-0-is ∙ c.in-Err-NameTooLong.ensures.fault replicated.fits)
