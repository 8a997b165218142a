use Rattle.std.proofs.Common.{◌≡◌, All, take}
use Rattle.std.specs.List.{flat_map}
use Rattle.zr_listing.specs.Printing.{ended, version_line, IsVersionRow}
use Rattle.zr_listing.proofs.print.print_versions.Given as goal

-- the rows so far are printed, and they are valid
abbrev pub invariant-loop-row : goal.invariant-loop-row
invariant-loop-row l = record {
  text : l.out.items ≡ flat_map (λ row. ended (version_line l.dataset row)) (take l.row-index l.rows);
  valid : All IsVersionRow (take l.row-index l.rows);
}
