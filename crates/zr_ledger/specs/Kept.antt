-- What each ledger keeps.
use Rattle.std.specs.Prelude.{◌≡◌, ◌≢◌, ℕ, ◌+◌, ◌*◌, ◌<◌, ◌≤◌, List, All, AllPairs, count_by, length, slice_index}
use Rattle.zr_names.specs.Totals.{plus}
use Rattle.zr_names.specs.declared.unit.Unit.{Unit}
use Rattle.zr_names.specs.declared.unit.Work.{Work}
use Rattle.zr_ledger.specs.Out.{Out}
use Rattle.zr_ledger.specs.Ready.{count_out}
use Rattle.zr_ledger.specs.Seats.{is_replicate, is_replicate_of, same_kind, seat_of}
use Rattle.zr_ledger.specs.Steps.{number_of, replay}
use Rattle.zr_ledger.specs.Turns.{Place}
use Rattle.zr_ledger.specs.declared.limits.Limits.{Limits}
use Rattle.zr_ledger.specs.declared.state.Entry.{Entry}
use Rattle.zr_ledger.specs.declared.state.State.{State}

-- a ledger as contracts see it: the state but for the clock's place, from which state it came and by which
-- entries, and where the clock is
pub record Seen : Type 0 where
  pub state : State
  pub base : State
  pub history : List Entry
  pub clock : Place

-- each limit allows at least one replication
pub record AllowsSome (limits : Limits) : Type 0 where
  pub steps : All (λ n. 1 ≤ n) limits.steps
  pub replicators : 1 ≤ limits.replicators

-- the unit's job is one that has a limit
abbrev pub HasLimit : Limits → Unit → Type 0
HasLimit limits unit = unit.job < length limits.steps

-- as many replications are out as the limits allow, or fewer
pub record IsWithinLimits (limits : Limits) (outs : List Out) : Type 0 where
  pub steps : (job : ℕ) → job < length limits.steps →
      count_out (is_replicate_of job) outs ≤ slice_index limits.steps job
  pub replicators : count_out (λ unit. is_replicate unit.work) outs ≤ limits.replicators

-- what is true of the state of every ledger
pub record IsKept (s : State) : Type 0 where
  -- each limit allows one, and each unit has a limit
  pub allows : AllowsSome s.limits
  pub waiting : All (HasLimit s.limits) s.waiting
  pub outs : All (λ out. HasLimit s.limits out.unit) s.outs
  -- no seat is out twice
  pub seats : AllPairs (λ a b. seat_of a.unit ≢ seat_of b.unit) s.outs
  pub limits : IsWithinLimits s.limits s.outs
  -- of each kind, the accepted units are those taken and those waiting; a number at its end stays there
  pub numbers : (work : Work) → number_of work s.counts.accepted
      ≡ plus (number_of work s.counts.taken) (count_by (λ unit. same_kind work unit.work) s.waiting)

-- the room that later calls need is there: for each unit that waits, among those that are out and for two
-- entries, and for each unit that is out, for the entry of its end
pub record HasRoom (s : State) (entries : List Entry) (outs_room history_room : ℕ) : Type 0 where
  pub outs : length s.waiting + length s.outs ≤ outs_room
  pub history : length entries + (2 * length s.waiting + length s.outs) ≤ history_room

-- the state is the replay of the history from the base
abbrev pub IsReplayed : Seen → Type 0
IsReplayed ledger = replay ledger.base ledger.history ≡ ledger.state

-- what a ledger keeps of its parts
pub record Holds (base : State) (history : List Entry) (s : State) (outs_room history_room : ℕ) : Type 0 where
  pub replayed : replay base history ≡ s
  pub keeps : IsKept s
  pub has_room : HasRoom s history outs_room history_room
