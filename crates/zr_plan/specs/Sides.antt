use Rattle.std.specs.Prelude.{Bool, List, ◌++◌, Option, filter}
use Rattle.zr_command.specs.Kinds.{is_snap}
use Rattle.zr_command.specs.declared.version.VersionRow.{VersionRow}
use Rattle.zr_plan.specs.declared.source.Source.{Source}
use Rattle.zr_plan.specs.declared.target.Target.{Target}
use Rattle.zr_plan.specs.declared.target.TokenInfo.{TokenInfo}

-- the source's rows for a plan: the snapshots of its listing, and then the job's marks as they are now
abbrev pub rows_of_source : List VersionRow → List VersionRow → List VersionRow
rows_of_source listing marks = filter is_snap listing ++ marks

abbrev pub rows_of : Source → List VersionRow
rows_of source = rows_of_source source.listing.now source.marks.now

-- what is known of a target, its versions as one list
pub record Onto : Type 0 where
  pub there : Bool
  pub placeholder : Bool
  pub rows : List VersionRow
  pub partial : Option TokenInfo

-- the versions of a target: those that were listed, and then what arrived since
abbrev pub onto : Target → Onto
onto target = record {
  there = target.there;
  placeholder = target.placeholder;
  rows = target.listing.now ++ target.arrived.now;
  partial = target.partial;
}
