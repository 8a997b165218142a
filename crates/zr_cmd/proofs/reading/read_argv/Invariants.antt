use Rattle.std.proofs.Common.{◌≡◌}
use Rattle.zr_cmd.specs.Steps.{texts}
use Rattle.zr_cmd.proofs.Longest.{Tried}
use Rattle.zr_cmd.proofs.reading.read_argv.Given as goal

-- the forms so far were tried
abbrev pub invariant-loop-form : goal.invariant-loop-form
invariant-loop-form l = record {
  tried : Tried (texts l.words) l.form-index l.most;
  same : l.form-items ≡ l.initial.form-items;
}
