use Rattle.std.proofs.Common.{◌≡◌, All, take}
use Rattle.std.specs.List.{flat_map}
use Rattle.zr_listing.specs.Printing.{ended, set_line, IsSetRow}
use Rattle.zr_listing.proofs.print.print_sets.Given as goal

-- the rows so far are printed, and their names are names
abbrev pub invariant-loop-row : goal.invariant-loop-row
invariant-loop-row l = record {
  text : l.out.items ≡ flat_map (λ row. ended (set_line row)) (take l.row-index l.rows);
  valid : All IsSetRow (take l.row-index l.rows);
}
