-- What the job files have in common. A table's members stand in byte order of their keys.
use Rattle.std.specs.Prelude.{ℕ, true, codes, List}
use Rattle.zr_names.specs.declared.policy.Initial.TheVariants.{MostRecent}
use Rattle.zr_names.specs.declared.policy.Protection.TheVariants.{Resumability}
use Rattle.zr_jobset.specs.declared.job.Policy.{Policy}
use Rattle.toml.specs.Data.{Data, string, boolean, table, Members, no_members, member}

-- a table with one key
abbrev pub only : List ℕ → Data → Data
only key value = table (member key value no_members)

-- `{ "PATTERN" = true }`
abbrev pub filter_tree : List ℕ → Data
filter_tree pattern = only pattern (boolean true)

-- `{ type = "manual" }`
abbrev pub manual_tree : Data
manual_tree = only (codes "type") (string (codes "manual"))

-- `type = "KIND"`, with which a table ends
abbrev pub type_end : List ℕ → Members
type_end kind = member (codes "type") (string kind) no_members

-- `snapshotting = { type = "manual" }, type = "KIND"`, with which a job ends that works on filesystems
abbrev pub job_end : List ℕ → Members
job_end kind = member (codes "snapshotting") manual_tree (type_end kind)

-- a job replicates so where its file says nothing of it
abbrev pub default_policy : Policy
default_policy = record { initial = MostRecent; first = Resumability; later = Resumability }
