use Rattle.std.specs.Prelude.{◌≡◌, ◌+◌, ◌++◌, ◌∷◌, [], ℕ, List, Option, Some, None, Ok, Contains, codes, take}
use Rattle.std.specs.Io.KnownBytes.{append_known}
use Rattle.zr_base.specs.Count.{Rose}
use Rattle.zr_jobset.specs.Sets.{Jobs}
use Rattle.zr_jobfile.specs.declared.TheConstants.{FILE_LIMIT}
use Rattle.zr_jobfile.specs.JobFile.{ReadsJobs}
use Rattle.zr_pipe.specs.Ends.{WroteFront}
use Rattle.zr_top.specs.declared.report.TheConstants.{USAGE}
use Rattle.zr_top.specs.declared.status.Status.{Status}
use Rattle.zr_top.specs.Records.{FirstRose, RanFile, RefusalPrinted, View, WroteAllOrNothing}
use Rattle.zr_top.specs.Status.{code_of, IsRefused}
use Rattle.zr_top.specs.Stored.{Asked, AsksAtMost}
use Rattle.zr_top.specs.Words.{file_of}

-- what the objects of a call tell before it or after it: the count of the faults of reading, the path that failed last and
-- the paths that were asked for; and what the runners and the output tell
pub record Edges : Type 0 where
  pub read_faults : ℕ
  pub unread : Option (List ℕ)
  pub asked : Asked
  pub view : View

-- a call of the program: its words, what files contain, the clock's moments, what its objects tell before and after, and
-- the status
pub record Given : Type 0 where
  pub words : List (List ℕ)
  pub content : List ℕ → Option (List ℕ)
  pub moments : Option (List ℕ)
  pub before : Edges
  pub after : Edges
  pub status : ℕ

abbrev pub edges : ℕ → Option (List ℕ) → Asked → View → Edges
edges read_faults unread asked view =
    record { read_faults = read_faults; unread = unread; asked = asked; view = view }

abbrev pub given : List (List ℕ) → (List ℕ → Option (List ℕ)) → Option (List ℕ) → Edges → Edges → ℕ → Given
given words content moments before after status = record {
  words = words;
  content = content;
  moments = moments;
  before = before;
  after = after;
  status = status;
}

-- the words name this job file
abbrev pub Names : Given → List ℕ → Type 0
Names c file = file_of c.words ≡ Some file

-- the words name this job file, and this is what stands in it
pub record HasFile (c : Given) (file whole : List ℕ) : Type 0 where
  pub named : Names c file
  pub there : c.content file ≡ Some whole

-- what is read of a job file: so much that one that is too long is seen to be
abbrev pub front : List ℕ → List ℕ
front whole = take (FILE_LIMIT + 1) whole

-- no fault of the call's own: its files, its output and its first runner failed at nothing
pub record IsSound (c : Given) : Type 0 where
  pub files : ¬ Rose c.before.read_faults c.after.read_faults
  pub output : ¬ Rose c.before.view.write_faults c.after.view.write_faults
  pub children : ¬ FirstRose c.before.view.child_faults c.after.view.child_faults

-- the promises of a call of `zrepl`
pub record Promises (c : Given) : Type 0 where
  -- status 2 only where the words are no command, and then nothing but a failing output or want of memory
  pub usage_only : c.status ≡ 2 → file_of c.words ≡ None
  pub usage : file_of c.words ≡ None → Contains (2 ∷ 8 ∷ 9 ∷ []) c.status
  -- status 3 only where the job file's bytes are refused, and then nothing but a failing read or output
  pub refused_only : c.status ≡ 3 → (file whole : List ℕ) → HasFile c file whole → IsRefused (front whole)
  pub refused :
      (file whole : List ℕ) → HasFile c file whole → IsRefused (front whole) → Contains (3 ∷ 7 ∷ 8 ∷ 9 ∷ []) c.status
  -- the first runner's record has legal runs of the file's units more, which are what was due and destroyed honestly, and
  -- the printed totals and the status are those of their outcomes; or nothing was run
  pub ran :
      (file : List ℕ) → Names c file →
      (given : Status) × (c.status ≡ code_of given) × RanFile file (c.content file) c.moments c.before.view c.after.view given
  -- no file is read but the one that is named, and that once
  pub asked : (file : List ℕ) → Names c file → AsksAtMost c.before.asked c.after.asked file
  pub unasked : file_of c.words ≡ None → c.after.asked ≡ c.before.asked
  -- 5 only where the count of the first runner's faults rose in this call
  pub failed_rose : c.status ≡ 5 → FirstRose c.before.view.child_faults c.after.view.child_faults
  -- completeness: with an accepted file and no fault the status is 0, 4 or 6, of which `ran` says that all that was due was
  -- done, but for garbled listings; or memory was wanting
  pub complete :
      (file whole : List ℕ) (jobs : Jobs) → HasFile c file whole → ReadsJobs (front whole) (Ok jobs) → IsSound c →
      Contains (0 ∷ 4 ∷ 6 ∷ 9 ∷ []) c.status
  -- one line is all that is printed, and a front of it at most where the output or memory failed: all of it or nothing where
  -- the output did not; that of a named file is part of `ran`
  pub usage_front : file_of c.words ≡ None → WroteFront c.before.view.written c.after.view.written USAGE.now
  pub usage_whole :
      file_of c.words ≡ None →
      WroteAllOrNothing c.before.view.write_faults c.after.view.write_faults c.before.view.written c.after.view.written USAGE.now
  pub usage_printed :
      c.status ≡ 2 → c.after.view.written ≡ append_known c.before.view.written USAGE.now
  pub refusal_printed :
      c.status ≡ 3 → (file whole : List ℕ) → HasFile c file whole →
      RefusalPrinted (front whole) c.before.view.written c.after.view.written
  pub unread_printed :
      c.status ≡ 7 → (file : List ℕ) → Names c file →
      c.after.view.written ≡ append_known c.before.view.written (codes "cannot read " ++ file ++ 10 ∷ [])
  -- 7 and 8 only where the count of the faults of reading, of writing, rose in this call
  pub unreadable :
      c.status ≡ 7 → Rose c.before.read_faults c.after.read_faults × (file_of c.words ≡ c.after.unread)
  pub unwritable : c.status ≡ 8 → Rose c.before.view.write_faults c.after.view.write_faults
