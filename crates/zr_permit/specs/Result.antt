use Rattle.std.specs.Prelude.{◌≡◌, ◌⊎◌, ◌&&◌, ℕ, ◌+◌, ◌-◌, ◌^◌, ◌<◌, List, [], ◌∷◌, Some, All, Any, Bool, true, false, count_by, filter, length, min, sum_by, not, slice_get}
use Rattle.zr_names.specs.declared.outcome.Outcome.{Outcome}
use Rattle.zr_names.specs.declared.outcome.Outcome.TheVariants as outcome
use Rattle.zr_names.specs.declared.unit.Unit.{Unit}
use Rattle.zr_names.specs.declared.unit.Work.{Work}
use Rattle.zr_names.specs.declared.unit.Work.TheVariants as work
use Rattle.zr_command.specs.declared.command.Answer.{Answer}
use Rattle.zr_command.specs.declared.command.Answer.TheVariants as answer
use Rattle.zr_command.specs.declared.command.Cmd.{Cmd}
use Rattle.zr_command.specs.declared.command.Cmd.TheVariants as cmd
use Rattle.zr_command.specs.declared.command.Reply.TheVariants as reply
use Rattle.zr_command.specs.declared.version.SetRow.{SetRow}
use Rattle.zr_command.specs.declared.version.VersionRow.{VersionRow}
use Rattle.zr_jobset.specs.Sets.{Jobs}
use Rattle.zr_jobs.specs.declared.pair.Pair.{Pair}
use Rattle.zr_known.specs.declared.straight.TheConstants.{NOT_STRAIGHT}
use Rattle.zr_permit.specs.declared.told.Told.{Told}
use Rattle.zr_permit.specs.declared.told.Told.TheVariants as told
use Rattle.zr_jobset.specs.Units.{fits_in, has_default_policy, matched, name_of, pair_of, rules_of}
use Rattle.zr_permit.specs.Keep.{doomed}
use Rattle.zr_known.specs.Known.{known_of}
use Rattle.zr_known.specs.Straight.{has_listed, is_listing, is_straight, IsFinished}
use Rattle.zr_permit.specs.Transcript.{Destroys, GoesOn, listed, Transcript, Turn}

-- a number in an outcome stays at the greatest `u32` once there
abbrev pub capped : ℕ → ℕ
capped n = min n (2 ^ 32 - 1)

-- how many snapshots a destroy names that was done, and one that failed
abbrev pub done_names : Cmd → Answer → ℕ
done_names (cmd.DestroySnaps path names) (answer.Done given) = length names
done_names command given = 0

abbrev pub failed_names : Cmd → Answer → ℕ
failed_names (cmd.DestroySnaps path names) answer.Failed = length names
failed_names command given = 0

-- a transfer that was done
abbrev pub is_done_transfer : Cmd → Answer → Bool
is_done_transfer (cmd.Transfer transfer) (answer.Done given) = true
is_done_transfer command given = false

-- a scan has finished: the datasets were listed, and these are the numbers of matched paths on which a
-- unit can work, and of those that are too long or have a target that is
pub record HasScanned (jobs : Jobs) (unit : Unit) (turns : Transcript) (found too_long : ℕ) : Type 0 where
  pub work_is : unit.work ≡ work.Scan
  pub rows : List SetRow
  pub told : turns ≡ (cmd.Sets, answer.Done (reply.Sets rows)) ∷ []
  pub found_are :
      found ≡ capped (length (filter (fits_in jobs unit.job) (matched jobs unit.job rows)))
  pub too_long_are :
      too_long
      ≡ capped (length
      (filter (λ path. not (fits_in jobs unit.job path)) (matched jobs unit.job rows)))

-- a prune unit has finished: its dataset was listed, and a destroy of each doomed snapshot was given
pub record HasPruned (jobs : Jobs) (unit : Unit) (turns : Transcript) (destroyed busy : ℕ) : Type 0 where
  pub path : List ℕ
  pub work_is : unit.work ≡ work.PruneSource path
  pub goes_on : All (λ turn. GoesOn unit.work turn.0 turn.1) turns
  pub rows : List VersionRow
  pub told : listed path turns ≡ Some rows
  pub issued :
      All (λ name. Any (λ (turn : Turn). Destroys path name turn.0) turns)
      (doomed (name_of jobs unit.job) (rules_of jobs unit.job) rows)
  pub destroyed_are : destroyed ≡ capped (sum_by (λ (turn : Turn). done_names turn.0 turn.1) turns)
  pub busy_are : busy ≡ capped (sum_by (λ (turn : Turn). failed_names turn.0 turn.1) turns)

-- a replication unit of a pair has done what it gave
pub record IsReplicating (jobs : Jobs) (unit : Unit) (turns : Transcript) (pair : Pair) : Type 0 where
  pub path : List ℕ
  pub work_is : unit.work ≡ work.Replicate path
  pub pair_is : pair_of jobs unit.job path ≡ Some pair
  pub goes_on : All (λ turn. GoesOn unit.work turn.0 turn.1) turns

-- a replication unit has finished, with this number of transfers
pub record HasReplicated (jobs : Jobs) (unit : Unit) (turns : Transcript) (steps : ℕ) : Type 0 where
  pub pair : Pair
  pub replicating : IsReplicating jobs unit turns pair
  pub by_default : has_default_policy jobs unit.job ≡ true
  pub finished : IsFinished pair (known_of pair turns)
  pub steps_are : steps ≡ capped (count_by (λ (turn : Turn). is_done_transfer turn.0 turn.1) turns)

-- a replication unit has listed all, and done nothing else, since its job does not replicate as by default, or what is there
-- is not straight
pub record HasConflict (jobs : Jobs) (unit : Unit) (turns : Transcript) (number : ℕ) : Type 0 where
  pub pair : Pair
  pub replicating : IsReplicating jobs unit turns pair
  pub lists_alone : All (λ turn. is_listing turn.0 ≡ true) turns
  pub listed : has_listed pair (known_of pair turns) ≡ true
  pub not_ready : (has_default_policy jobs unit.job && is_straight pair (known_of pair turns)) ≡ false
  pub number_is : number ≡ NOT_STRAIGHT

-- the command of this number, counted from 1, failed, and it is none after which the unit goes on
pub record FaultsAt (unit_work : Work) (turns : Transcript) (number : ℕ) : Type 0 where
  pub place : ℕ
  pub command : Cmd
  pub failed : slice_get turns place ≡ Some (command, answer.Failed)
  pub ends : GoesOn unit_work command answer.Failed → ⊥
  pub number_is : number ≡ capped (place + 1)

-- the listing of the command of this number was garbled at this line
pub record GarbledAt (turns : Transcript) (number line : ℕ) : Type 0 where
  pub place : ℕ
  pub command : Cmd
  pub garbled : slice_get turns place ≡ Some (command, answer.Garbled line)
  pub number_is : number ≡ capped (place + 1)

-- no command failed and no listing was garbled, but for what the unit goes on after: want of memory may be answered by the
-- last command, or refused between commands
abbrev pub WantsMemory : Work → Transcript → Type 0
WantsMemory unit_work turns = All (λ turn. GoesOn unit_work turn.0 turn.1 ⊎ (turn.1 ≡ answer.NoMemory)) turns

-- the result of a transcript
abbrev pub ResultOf : Jobs → Unit → Transcript → Outcome → Type 0
ResultOf jobs unit turns (outcome.Scanned found too_long) = HasScanned jobs unit turns found too_long
ResultOf jobs unit turns (outcome.Pruned destroyed busy) = HasPruned jobs unit turns destroyed busy
ResultOf jobs unit turns outcome.UpToDate = HasReplicated jobs unit turns 0
ResultOf jobs unit turns (outcome.Replicated steps) = HasReplicated jobs unit turns steps × (0 < steps)
ResultOf jobs unit turns (outcome.Conflict number) = HasConflict jobs unit turns number
ResultOf jobs unit turns (outcome.ChildFault number) = FaultsAt unit.work turns number
ResultOf jobs unit turns (outcome.Garbled number line) = GarbledAt turns number line
ResultOf jobs unit turns outcome.NoMemory = WantsMemory unit.work turns
ResultOf jobs unit turns other = ⊥

-- how a unit ends whose command of this number was not done
abbrev pub ended_as : ℕ → Told → Outcome
ended_as number told.Failed = outcome.ChildFault (capped number)
ended_as number (told.Garbled line) = outcome.Garbled (capped number) line
ended_as number told.NoMemory = outcome.NoMemory
ended_as number told.Done = outcome.NoMemory

-- the outcome is that of a failed child
abbrev pub is_child_fault : Outcome → Bool
is_child_fault (outcome.ChildFault number) = true
is_child_fault other = false

-- the outcome is want of memory
abbrev pub is_out_of_memory : Outcome → Bool
is_out_of_memory outcome.NoMemory = true
is_out_of_memory other = false
