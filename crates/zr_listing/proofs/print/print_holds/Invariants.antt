use Rattle.std.proofs.Common.{◌≡◌, All, take}
use Rattle.std.specs.List.{flat_map}
use Rattle.zr_names.specs.Names.{IsName, tag_is_bad}
use Rattle.zr_names.specs.declared.names.TheConstants.{NAME_LIMIT}
use Rattle.zr_listing.specs.Printing.{ended, hold_line}
use Rattle.zr_listing.proofs.print.print_holds.Given as goal

-- the holds so far are printed, and their tags are tags
abbrev pub invariant-loop-tag : goal.invariant-loop-tag
invariant-loop-tag l = record {
  text : l.out.items ≡ flat_map (λ tag. ended (hold_line l.dataset l.name tag)) (take l.tag-index l.tags);
  valid : All (IsName tag_is_bad NAME_LIMIT) (take l.tag-index l.tags);
}
