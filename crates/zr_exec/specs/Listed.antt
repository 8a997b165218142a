use Rattle.std.specs.Prelude.{ℕ, List}
use Rattle.zr_command.specs.declared.command.Cmd.{Cmd}
use Rattle.zr_command.specs.declared.command.Cmd.TheVariants as cmd

-- what a child is to write: a listing of datasets, of versions or of holds, what a token says, or nothing
pub data Listed : Type 0 where
  sets : Listed
  versions : List ℕ → Listed
  holds : List ℕ → List ℕ → Listed
  token : Listed
  nothing : Listed

-- what a command lists
abbrev pub listed_by : Cmd → Listed
listed_by cmd.Sets = sets
listed_by (cmd.Versions path) = versions path
listed_by (cmd.Holds path name) = holds path name
listed_by (cmd.Token text) = token
listed_by command = nothing
