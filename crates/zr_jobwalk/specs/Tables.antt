-- A table as the walk sees it.
use Rattle.std.specs.Prelude.{ℕ, List, Option, Some, None}
use Rattle.zr_names.specs.Tree.{Members, Tree, members_tree, no_members}
use Rattle.zr_jobwalk.specs.Values.{table_in}
use Rattle.zr_jobwalk.specs.declared.table.Table.{Table}

-- what the dotted names of a table's fields begin with, and what the table has
pub record Section : Type 0 where
  pub front : List ℕ
  pub members : Members

abbrev pub section : Table → Section
section table = record { front = table.front; members = members_tree table.pairs.now }

-- what a table has; what is none is as one without keys
abbrev pub members_or_none : Option Members → Members
members_or_none None = no_members
members_or_none (Some members) = members

abbrev pub members_in : Tree → Members
members_in tree = members_or_none (table_in tree)
