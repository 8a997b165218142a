-- What `take` answers.
use Rattle.std.specs.Prelude.{◌≡◌, ◌==◌, ◌⊎◌, ℕ, ◌+◌, ◌-◌, ◌<◌, ◌^◌, Bool, true, false, if◌then◌else◌, List, [], Option, Some, None, length, slice_get}
use Rattle.zr_names.specs.declared.unit.Unit.{Unit}
use Rattle.zr_ledger.specs.Out.{Out}
use Rattle.zr_ledger.specs.Ready.{first_ready}
use Rattle.zr_ledger.specs.Steps.{first_taken}
use Rattle.zr_ledger.specs.declared.ticket.Turn.{Turn}
use Rattle.zr_ledger.specs.declared.ticket.Turn.TheVariants.{Work, TickYourself, Wait, Ended}
use Rattle.zr_ledger.specs.declared.state.State.{State}

-- where the clock is: in the ledger, with a worker, or at its end
pub data Place : Type 0 where
  here : Place
  away : Place
  finished : Place

-- by whether it has ended, and whether it is in the ledger
abbrev pub place_of : Bool → Bool → Place
place_of true is_there = finished
place_of false true = here
place_of false false = away

abbrev pub is_here : Place → Bool
is_here here = true
is_here away = false
is_here finished = false

-- the answer where nothing is ready
abbrev pub idle : Place → List Out → Turn
idle here outs = TickYourself
idle away outs = Wait
idle finished outs = if length outs == 0 then Ended else Wait

abbrev pub hands_out : Option Unit → State → Place → Turn
hands_out None s clock = idle clock s.outs
hands_out (Some unit) s clock = Work (record { unit = unit; run = s.counts.given + 1 })

abbrev pub turn_at : Option ℕ → State → Place → Turn
turn_at None s clock = idle clock s.outs
turn_at (Some place) s clock = hands_out (slice_get s.waiting place) s clock

-- all run numbers were given
abbrev pub is_spent : State → Bool
is_spent s = s.counts.given == 2 ^ 64 - 1

-- the first ready unit with the next run number; the end of the run numbers is looked at before all else
abbrev pub turn : State → Place → Turn
turn s clock = if is_spent s then Ended else turn_at (first_ready s.limits s.waiting s.outs) s clock

-- the state after that
abbrev pub turned : State → State
turned s = if is_spent s then s else first_taken s

-- nothing is ready, though run numbers are left
abbrev pub IsIdle : State → Type 0
IsIdle s = (is_spent s ≡ false) × (first_ready s.limits s.waiting s.outs ≡ None)

-- nothing comes any more: all run numbers were given, or the clock has ended and nothing waits or is out
abbrev pub IsOver : State → Place → Type 0
IsOver s clock = (is_spent s ≡ true) ⊎ ((clock ≡ finished) × (s.waiting ≡ []) × (s.outs ≡ []))

-- nothing is ready, and the clock is away, or has ended while a unit is out
abbrev pub IsWaiting : State → Place → Type 0
IsWaiting s clock = IsIdle s × ((clock ≡ away) ⊎ ((clock ≡ finished) × (0 < length s.outs)))

abbrev pub is_work : Turn → Bool
is_work (Work ticket) = true
is_work TickYourself = false
is_work Wait = false
is_work Ended = false
