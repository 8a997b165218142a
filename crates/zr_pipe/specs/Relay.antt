-- What a relay moves from a source to a sink, and how it ends.
use Rattle.std.specs.Prelude.{◌≡◌, ℕ, ◌+◌, ◌^◌, ◌<◌, ◌≤◌, Bool, true, false, List, [], ◌++◌, length, take, Option}
use Rattle.std.specs.Io.KnownBytes.{append_known, prepend_known, IsAtEnd}
use Rattle.zr_pipe.specs.Faults.{Rose}
use Rattle.zr_pipe.specs.Ends.{WroteFront}
use Rattle.zr_pipe.specs.declared.pieces.RelayEnd.{RelayEnd}
use Rattle.zr_pipe.specs.declared.pieces.RelayEnd.TheVariants.{Whole, ReadFault, WriteFault, Limit, NoMemory}

-- the most bytes in a piece
abbrev pub piece_max : ℕ
piece_max = 65536

-- the most bytes that a relay puts
abbrev pub relay_max : ℕ
relay_max = 2 ^ 62

-- the source failed
abbrev pub is_read_fault : RelayEnd → Bool
is_read_fault (ReadFault moved) = true
is_read_fault (Whole moved) = false
is_read_fault (WriteFault moved) = false
is_read_fault Limit = false
is_read_fault NoMemory = false

-- the sink failed
abbrev pub is_write_fault : RelayEnd → Bool
is_write_fault (WriteFault moved) = true
is_write_fault (Whole moved) = false
is_write_fault (ReadFault moved) = false
is_write_fault Limit = false
is_write_fault NoMemory = false

-- a count rose where its end failed, and only there
pub record CountsFault (failed : Bool) (before now : ℕ) : Type 0 where
  pub rose : failed ≡ true → Rose before now
  pub keeps : failed ≡ false → now ≡ before
  pub later : before ≤ now

-- how a relay ends that moved so many bytes in whole pieces, and then took `piece` and did not put it, or not whole
abbrev pub EndsBy : RelayEnd → ℕ → List ℕ → Option (List ℕ) → Type 0
EndsBy (Whole number) moved piece left = (number ≡ moved) × (piece ≡ []) × IsAtEnd left
EndsBy (ReadFault number) moved piece left = (number ≡ moved) × (piece ≡ [])
EndsBy (WriteFault number) moved piece left = (number ≡ moved) × (0 < length piece)
EndsBy Limit moved piece left = (moved ≡ relay_max) × (0 < length piece)
EndsBy NoMemory moved piece left = moved < relay_max

-- what came to the sink is a front of what was taken from the source: pieces put whole, and then a front of the last one
pub record Relayed (left left' written written' : Option (List ℕ)) (ending : RelayEnd) : Type 0 where
  pub whole : List ℕ
  pub piece : List ℕ
  pub count : ℕ
  pub taken : left ≡ prepend_known (whole ++ piece) left'
  pub put : written' ≡ append_known written (whole ++ take count piece)
  pub within : count ≤ length piece
  pub small : length piece ≤ piece_max
  pub limited : length whole + count ≤ relay_max
  pub ends : EndsBy ending (length whole) piece left'

-- all that was taken was put: so many bytes
pub record Carried (left left' written written' : Option (List ℕ)) (moved : ℕ) : Type 0 where
  pub whole : List ℕ
  pub taken : left ≡ prepend_known whole left'
  pub put : written' ≡ append_known written whole
  pub moved_is : length whole ≡ moved

-- the end of a relay that had moved so many bytes: its last piece
pub record Stopped (left left' written written' : Option (List ℕ)) (moved : ℕ) (ending : RelayEnd) : Type 0 where
  pub piece : List ℕ
  pub taken : left ≡ prepend_known piece left'
  pub put : WroteFront written written' piece
  pub small : length piece ≤ piece_max
  pub limited : moved + put.count ≤ relay_max
  pub ends : EndsBy ending moved piece left'
