use Rattle.std.proofs.Common.{map}
use Rattle.std.proofs.lemmas.List.{at_drop_all}
use Rattle.zr_jobwalk.specs.Lines.{pair_of}
use Rattle.zr_jobrules.proofs.Lines.{all_read}
use Rattle.zr_jobrules.proofs.filesystems.entries.Goals as goal

pub returns-clause-entries : goal.returns-clause-entries
returns-clause-entries c =
    all_read _ _ _ c.loop-line.entries c.loop-line.invariant
    (at_drop_all (map pair_of) c.args.lines.now c.loop-line.line-index c.loop-line-test.false)
