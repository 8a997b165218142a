-- The fields of the tables of a job file, and what a table gives for each.
use Rattle.std.specs.Prelude.{◌≡◌, ◌&&◌, ◌||◌, ℕ, Bool, true, false, not, if◌then◌else◌, List, [], ◌∷◌, ◌++◌, Option, Some, None, codes, fold, nat_lt, map}
use Rattle.std.specs.List.{list_any}
use Rattle.std.specs.Str.{bytes_eq}
use Rattle.std.specs.Ordering.{is_lt, nat_cmp}
use Rattle.std.specs.Cmp.Lexicographic.{slice_cmp}
use Rattle.zr_names.specs.Tree.{Tree, null, flag, number, text, mapping, sequence, other, Members, no_members, member}
use Rattle.zr_jobwalk.specs.declared.field.Field.{Field}
use Rattle.zr_jobwalk.specs.declared.field.Field.TheVariants as field

-- the key of a field
abbrev pub name_of : Field → List ℕ
name_of field.Jobs = codes "jobs"
name_of field.Global = codes "global"
name_of field.Name = codes "name"
name_of field.Type = codes "type"
name_of field.Connect = codes "connect"
name_of field.Serve = codes "serve"
name_of field.RootFs = codes "root_fs"
name_of field.Interval = codes "interval"
name_of field.Filesystems = codes "filesystems"
name_of field.Snapshotting = codes "snapshotting"
name_of field.Replication = codes "replication"
name_of field.ConflictResolution = codes "conflict_resolution"
name_of field.Pruning = codes "pruning"
name_of field.ListenerName = codes "listener_name"
name_of field.ClientIdentity = codes "client_identity"
name_of field.Prefix = codes "prefix"
name_of field.Cron = codes "cron"
name_of field.Protection = codes "protection"
name_of field.Concurrency = codes "concurrency"
name_of field.MigrateOldCursor = codes "migrate_old_cursor"
name_of field.Initial = codes "initial"
name_of field.Incremental = codes "incremental"
name_of field.Steps = codes "steps"
name_of field.InitialReplication = codes "initial_replication"
name_of field.KeepSender = codes "keep_sender"
name_of field.KeepReceiver = codes "keep_receiver"
name_of field.Keep = codes "keep"
name_of field.Grid = codes "grid"
name_of field.Regex = codes "regex"
name_of field.Count = codes "count"
name_of field.KeepSnapshotAtCursor = codes "keep_snapshot_at_cursor"
name_of field.Negate = codes "negate"

-- a value that is there; a null is as if its key were not there
abbrev pub is_null : Tree → Bool
is_null null = true
is_null tree = false

-- what a table gives for a key
abbrev pub given : List ℕ → Members → Option Tree
given key no_members = None
given key (member own tree rest) =
    if bytes_eq own key && not (is_null tree) then Some tree else given key rest

abbrev pub value_of : Members → Field → Option Tree
value_of members f = given (name_of f) members

-- a key is that of one of these fields
abbrev pub is_listed : List Field → List ℕ → Bool
is_listed fields key = list_any (λ f. bytes_eq key (name_of f)) fields

-- the keys of a table that are there and not those of its fields
abbrev pub strangers : List Field → Members → List (List ℕ)
strangers fields no_members = []
strangers fields (member key tree rest) =
    if is_null tree || is_listed fields key then strangers fields rest
    else key ∷ strangers fields rest

-- the lesser in byte order of two texts, and of a text and one that there may be
abbrev pub lesser_of : List ℕ → List ℕ → List ℕ
lesser_of one key = if is_lt (slice_cmp nat_cmp key one) then key else one

abbrev pub lesser : Option (List ℕ) → List ℕ → Option (List ℕ)
lesser None key = Some key
lesser (Some one) key = Some (lesser_of one key)

-- the least of these texts in byte order
abbrev pub least : List (List ℕ) → Option (List ℕ)
least keys = fold lesser None keys

-- a key as a fault names it: `?` for each byte that is no printable ASCII
abbrev pub shown_byte : ℕ → ℕ
shown_byte b = if nat_lt b 32 || nat_lt 126 b then 63 else b

abbrev pub shown : List ℕ → List ℕ
shown key = map shown_byte key
