use Rattle.std.specs.Prelude.{ℕ, List}
use Rattle.std.specs.Ordering.{nat_cmp, ordering_then}
use Rattle.std.specs.declared.cmp.Ordering.{Ordering}
use Rattle.std.specs.Cmp.Lexicographic.{slice_cmp}
use Rattle.zr_command.specs.declared.version.VersionName.{VersionName}
use Rattle.zr_command.specs.declared.version.VersionName.TheVariants.{Snap, Mark}
use Rattle.zr_command.specs.declared.version.VersionRow.{VersionRow}

-- snapshots come first
abbrev pub kind_rank : VersionName → ℕ
kind_rank (Snap name) = 0
kind_rank (Mark name) = 1

-- a name without its kind
abbrev pub bare_name : VersionName → List ℕ
bare_name (Snap name) = name
bare_name (Mark name) = name

-- by transaction group, then snapshots before bookmarks, then by name
abbrev pub row_cmp : VersionRow → VersionRow → Ordering
row_cmp a b =
    ordering_then (nat_cmp a.txg b.txg)
    (ordering_then (nat_cmp (kind_rank a.name) (kind_rank b.name))
    (slice_cmp nat_cmp (bare_name a.name) (bare_name b.name)))
