-- Which filesystems a job works on, the field `filesystems` (zrepl's documentation, "Filter Syntax").
use Rattle.std.specs.Prelude.{◌≡◌, ◌≤◌, ◌<◌, ⊤, ℕ, List, [], ◌∷◌, ◌++◌, Result, Ok, Err, length}
use Rattle.zr_names.specs.Tree.{Tree, Members}
use Rattle.zr_filter.specs.Patterns.{IsWritten}
use Rattle.zr_filter.specs.declared.entry.FilterEntry.{FilterEntry}
use Rattle.zr_filter.specs.declared.filter.Filter.{Filter}
use Rattle.zr_jobwalk.specs.declared.fault.JobFault.{JobFault}
use Rattle.zr_jobwalk.specs.declared.fault.JobFault.TheVariants.{BadValue, TooMany}
use Rattle.zr_jobwalk.specs.declared.fault.Many.TheVariants as many
use Rattle.zr_jobwalk.specs.declared.texts.Unread.{Unread}
use Rattle.zr_jobwalk.specs.declared.texts.Unread.TheVariants.{Bad, NoMemory}
use Rattle.zr_jobwalk.specs.Faults.{First}
use Rattle.zr_jobwalk.specs.Fields.{shown}
use Rattle.zr_jobwalk.specs.Lines.{AreLines}
use Rattle.zr_jobwalk.specs.Tables.{Section}
use Rattle.zr_jobwalk.specs.Values.{IsFlag}
use Rattle.zr_jobrules.specs.declared.filesystems.TheConstants.{MAX_FILTERS}

-- a line is a pattern, and whether the filter matches what the pattern speaks of
abbrev pub IsEntry : List ℕ × Tree → FilterEntry → Type 0
IsEntry line entry = IsWritten line.0 entry.path entry.subtree × IsFlag line.1 entry.allow

abbrev pub AreEntries : List (List ℕ × Tree) → List FilterEntry → Type 0
AreEntries [] [] = ⊤
AreEntries [] (entry ∷ entries) = ⊥
AreEntries (line ∷ lines) [] = ⊥
AreEntries (line ∷ lines) (entry ∷ entries) = IsEntry line entry × AreEntries lines entries

-- `filesystems`: patterns in their byte order, each true or false
pub record IsFilter (members : Members) (filter : Filter) : Type 0 where
  pub lines : List (List ℕ × Tree)
  pub ordered : AreLines members lines
  pub few : length lines ≤ MAX_FILTERS
  pub entries : AreEntries lines filter.entries

-- how a line is read: it is bad exactly where it is no entry
abbrev pub ReadsEntry : List ℕ × Tree → Result FilterEntry Unread → Type 0
ReadsEntry line (Ok entry) = IsEntry line entry
ReadsEntry line (Err Bad) = (entry : FilterEntry) → ¬ IsEntry line entry
ReadsEntry line (Err NoMemory) = ⊤

-- a key that is no pattern, or what stands there is neither true nor false
abbrev pub BadLine : List ℕ → List ℕ × Tree → JobFault → Type 0
BadLine front line fault =
    (fault ≡ BadValue (front ++ shown line.0)) × ((entry : FilterEntry) → ¬ IsEntry line entry)

-- the first of such lines
abbrev pub FirstLine : List ℕ → List (List ℕ × Tree) → JobFault → Type 0
FirstLine front [] fault = ⊥
FirstLine front (line ∷ lines) fault =
    First (BadLine front line fault) ((entry : FilterEntry) × IsEntry line entry)
    (FirstLine front lines fault)

-- too many patterns, and then the first in their byte order with a fault
abbrev pub LinesFault : List ℕ → List (List ℕ × Tree) → JobFault → Type 0
LinesFault front lines fault =
    First ((fault ≡ TooMany many.Filters) × (MAX_FILTERS < length lines))
    (length lines ≤ MAX_FILTERS) (FirstLine front lines fault)

abbrev pub FilterFault : Section → JobFault → Type 0
FilterFault table fault =
    (lines : List (List ℕ × Tree)) × AreLines table.members lines × LinesFault table.front lines fault
