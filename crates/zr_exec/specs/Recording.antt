use Rattle.std.specs.Prelude.{◌≡◌, ℕ, List, [], ◌∷◌, ◌++◌, Option, Some, None, ◌⊎◌}
use Rattle.zr_exec.specs.declared.spawn.Line.{Line}
use Rattle.zr_exec.specs.declared.spawn.Line.TheVariants as line
use Rattle.zr_exec.specs.declared.spawn.PipeExit.{PipeExit}
use Rattle.zr_exec.specs.declared.spawn.PipeExit.TheVariants as piped
use Rattle.zr_exec.specs.declared.spawn.RunExit.{RunExit}
use Rattle.zr_exec.specs.declared.spawn.RunExit.TheVariants.{NoMemory}

-- a record that is told, with these lines more at its end
abbrev pub with_lines : Option (List Line) → List Line → Option (List Line)
with_lines None more = None
with_lines (Some lines) more = Some (lines ++ more)

-- the line of a call
abbrev pub call_line : List (List ℕ) → RunExit → List ℕ → Line
call_line words exit written = line.Call (record { words = words; exit = exit; written = written })

-- the record has the call with its words, its exit and what the child wrote; where memory was refused, it may lack the
-- call, or have it with another exit
abbrev pub RecordsChild : Option (List Line) → Option (List Line) → List (List ℕ) → RunExit → List ℕ → Type 0
RecordsChild before now words NoMemory written =
    (now ≡ before)
    ⊎ ((exit : RunExit) × (bytes : List ℕ) × (now ≡ with_lines before (call_line words exit bytes ∷ [])))
RecordsChild before now words exit written = now ≡ with_lines before (call_line words exit written ∷ [])

-- the line of a pipe
abbrev pub pipe_line : List (List ℕ) → List (List ℕ) → PipeExit → Line
pipe_line send receive exit = line.Pipe (record { send = send; receive = receive; exit = exit })

-- the record has the pipe with the words of its ends and its exit; where memory was refused, it may lack the pipe, or
-- have it with another exit
abbrev pub RecordsPipe : Option (List Line) → Option (List Line) → List (List ℕ) → List (List ℕ) → PipeExit → Type 0
RecordsPipe before now send receive piped.NoMemory =
    (now ≡ before) ⊎ ((exit : PipeExit) × (now ≡ with_lines before (pipe_line send receive exit ∷ [])))
RecordsPipe before now send receive exit = now ≡ with_lines before (pipe_line send receive exit ∷ [])
