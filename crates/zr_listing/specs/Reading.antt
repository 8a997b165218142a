use Rattle.std.specs.Prelude.{Result, Ok, Err, ⊤}
use Rattle.zr_names.specs.declared.reading.NameFault.{NameFault}
use Rattle.zr_names.specs.declared.reading.NameFault.TheVariants as name
use Rattle.zr_listing.specs.declared.faults.LineFault.{LineFault}
use Rattle.zr_listing.specs.declared.faults.LineFault.TheVariants as fault

-- what a name's fault is to a line
abbrev pub line_fault : NameFault → LineFault
line_fault name.NoMemory = fault.NoMemory
line_fault name.Empty = fault.Bad
line_fault (name.BadByte place) = fault.Bad
line_fault (name.TooLong n) = fault.Bad

-- what a reader of a text answers: a value that the text spells, or that it spells none; where memory was refused it may spell one
abbrev pub ReadsOr : {X : Type 0} → (X → Type 0) → Result X LineFault → Type 0
ReadsOr spells (Ok x) = spells x
ReadsOr {X} spells (Err fault.Bad) = (x : X) → spells x → ⊥
ReadsOr spells (Err fault.NoMemory) = ⊤
