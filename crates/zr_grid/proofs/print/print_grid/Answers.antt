use Rattle.std.proofs.Common.{◌≡◌, ◌∙◌, ap}
use Rattle.std.proofs.lemmas.Result.{IfOk-weaker}
use Rattle.zr_grid.specs.Canonical.{grid_text}
use Rattle.zr_grid.proofs.Printed.{grid_printed}
use Rattle.zr_grid.proofs.print.print_grid.Goals as goal

pub returns-clause-read_again : goal.returns-clause-read_again
returns-clause-read_again c = λ grid. IfOk-weaker c.print_intervals.result (λ text. text.items ≡ grid_text c.as_slice.result.now) _ (λ text e. grid_printed c.args.spec.now.intervals text.items (e ∙ ap grid_text c.as_slice.ensures) grid) c.print_intervals.ensures
