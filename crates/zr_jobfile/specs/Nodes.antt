use Rattle.std.specs.Prelude.{ℤ, pos, negsuc}
use Rattle.toml.specs.Data.{Data, string, integer, float, boolean, datetime, array, table, Items as DataItems, Members as DataMembers}
use Rattle.toml.specs.Data as document
use Rattle.zr_names.specs.Tree.{Tree, Items, Members, flag, number, text, mapping, sequence, other, no_items, item, no_members, member}

-- a whole number that a field may take
abbrev pub number_tree : ℤ → Tree
number_tree (pos n) = number n
number_tree (negsuc n) = other

-- the tree of what a TOML document says: tables are maps, arrays sequences, and what no field of a job file takes is one thing
abbrev mutual
  pub data_tree : Data → Tree
  data_tree (string s) = text s
  data_tree (integer z) = number_tree z
  data_tree (float x) = other
  data_tree (boolean b) = flag b
  data_tree (datetime dt) = other
  data_tree (array ds) = sequence (items_of_data ds)
  data_tree (table ms) = mapping (members_of_data ms)

  pub items_of_data : DataItems → Items
  items_of_data document.no_items = no_items
  items_of_data (document.item d ds) = item (data_tree d) (items_of_data ds)

  pub members_of_data : DataMembers → Members
  members_of_data document.no_members = no_members
  members_of_data (document.member key d ms) = member key (data_tree d) (members_of_data ms)
