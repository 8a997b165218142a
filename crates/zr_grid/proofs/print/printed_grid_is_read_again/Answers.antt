use Rattle.zr_grid.proofs.Printed.{read_again}
use Rattle.zr_grid.proofs.print.printed_grid_is_read_again.Goals as goal

pub returns : goal.returns
returns c = read_again
