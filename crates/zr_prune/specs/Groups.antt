use Rattle.std.specs.Prelude.{ℕ, List, length}
use Rattle.std.specs.Simd.{first_chunks}
use Rattle.std.specs.Slice.Iter.{chunk_count}
use Rattle.zr_command.specs.declared.command.Cmd.{Cmd}
use Rattle.zr_command.specs.declared.command.Cmd.TheVariants as cmd
use Rattle.zr_command.specs.declared.names.TheConstants.{NAMES_LIMIT}

-- names in their order, cut into groups of as many as one command names at most; the last group may be shorter
abbrev pub groups : List (List ℕ) → List (List (List ℕ))
groups names = first_chunks NAMES_LIMIT (chunk_count (length names) NAMES_LIMIT) names

-- the destroy of a group of snapshots of a dataset
abbrev pub destroy_of : List ℕ → List (List ℕ) → Cmd
destroy_of path group = cmd.DestroySnaps path group
