use Rattle.std.specs.Prelude.{◌≡◌, ◌&&◌, Bool, true, false, List, [], ◌∷◌, ◌++◌, ℕ, Some, Result, Ok, Err, filter, not, option_map}
use Rattle.zr_names.specs.declared.outcome.Outcome.{Outcome}
use Rattle.zr_names.specs.declared.unit.Work.TheVariants as work
use Rattle.zr_command.specs.declared.command.Answer.TheVariants.{Done}
use Rattle.zr_command.specs.declared.command.Cmd.{Cmd}
use Rattle.zr_command.specs.declared.command.Cmd.TheVariants as cmd
use Rattle.zr_command.specs.declared.command.Reply.{Reply}
use Rattle.zr_command.specs.declared.command.Reply.TheVariants as reply
use Rattle.zr_command.specs.declared.command.Transfer.{Transfer}
use Rattle.zr_command.specs.declared.version.VersionName.{VersionName}
use Rattle.zr_command.specs.declared.version.VersionName.TheVariants.{Mark}
use Rattle.zr_command.specs.declared.version.VersionRow.{VersionRow}
use Rattle.zr_world.specs.Answering.{IsReplyTo}
use Rattle.zr_jobs.specs.declared.pair.Pair.{Pair}
use Rattle.zr_jobset.specs.Units.{has_default_policy, pair_of}
use Rattle.zr_known.specs.declared.known.Known.{Known}
use Rattle.zr_known.specs.declared.known.Receiving.TheVariants.{Nothing}
use Rattle.zr_known.specs.Known.{arrival, is_row_of, known_of, presence_after, set_among, source_row, told_by, with_last_held, with_step_held}
use Rattle.zr_known.specs.Straight.{is_straight}
use Rattle.zr_permit.specs.Sight.{Follows, HasEnded, IsAtWork, Sight, sight, Went}
use Rattle.zr_world.specs.declared.zfs.Zfs.{Ghosts}
use Rattle.zr_replicate.specs.declared.replication.Replication.{Replication}
use Rattle.zr_permit.specs.Transcript.{Transcript}

-- what a contract sees of a replication at work: its unit, what it knows, and by which references it has its unit and that
-- its runner
pub record Progress : Type 0 where
  pub unit : Sight
  pub known : Known
  pub lent : ℕ × ℕ

abbrev pub progress : {Z : Type 0} → Ghosts Z → Replication Z → Progress
progress ghosts replication = record {
  unit = sight ghosts replication.unit.now;
  known = replication.known.now;
  lent = (replication.unit.ghost_name, replication.unit.now.runner.ghost_name);
}

-- it is at work on its pair: what it knows is what its turns told
pub record AtWork (pair : Pair) (now : Progress) : Type 0 where
  pub work_is : now.unit.unit.work ≡ work.Replicate pair.source
  pub pair_is : pair_of now.unit.jobs now.unit.unit.job pair.source ≡ Some pair
  pub at_work : IsAtWork now.unit
  pub known_is : now.known ≡ known_of pair now.unit.turns

-- its job replicates as by default
abbrev pub by_default : Progress → Bool
by_default now = has_default_policy now.unit.jobs now.unit.unit.job

-- it can replicate its pair: as by default, and the pair is straight
abbrev pub is_ready : Pair → Progress → Bool
is_ready pair now = by_default now && is_straight pair now.known

-- it is at work again
pub record GoesOnWith (pair : Pair) (before now : Progress) : Type 0 where
  pub went : Went before.unit now.unit
  pub at_work : AtWork pair now
  pub follows : Follows before.unit now.unit
  pub same_lent : now.lent ≡ before.lent

-- it has ended with this outcome
pub record HasEndedAs (before now : Progress) (outcome : Outcome) : Type 0 where
  pub ended : HasEnded before.unit now.unit outcome
  pub same_lent : now.lent ≡ before.lent

-- after some commands it is at work again, or it has ended
abbrev pub Stage : {T : Type 0} → Pair → Progress → Progress → Result T Outcome → Type 0
Stage pair before now (Ok value) = GoesOnWith pair before now
Stage pair before now (Err outcome) = HasEndedAs before now outcome

-- a command was done, and this is what it told
pub record HasTold (pair : Pair) (command : Cmd) (before now : Progress) : Type 0 where
  pub reply : Reply
  pub shape : IsReplyTo command (Done reply)
  pub turns_are : now.unit.turns ≡ before.unit.turns ++ (command, Done reply) ∷ []
  pub known_is : now.known ≡ told_by pair command (Done reply) before.known

abbrev pub Learnt : Pair → Transcript → Known → Known → Type 0
Learnt pair turns before now =
    (past : Transcript) (command : Cmd) (reply : Reply) → turns ≡ past ++ (command, Done reply) ∷ [] →
    now ≡ told_by pair command (Done reply) before

-- the command changes something on one of the sides
abbrev pub is_change : Cmd → Bool
is_change cmd.Sets = false
is_change (cmd.Versions path) = false
is_change (cmd.Holds path name) = false
is_change other = true

-- a command that changes something was done, and tells no more than that
abbrev pub HasDone : Pair → Cmd → Known → Known → Type 0
HasDone pair command before now = now ≡ told_by pair command (Done reply.Nothing) before

-- the job's hold was put on a snapshot of the source, or taken off; the same of the target
abbrev pub StepHoldIs : Bool → List ℕ → Known → Known → Type 0
StepHoldIs held name before now = now ≡ with_step_held (set_among held name before.source.held) before

abbrev pub LastHoldIs : Bool → List ℕ → Known → Known → Type 0
LastHoldIs held name before now = now ≡ with_last_held (set_among held name before.target.held) before

-- a bookmark was destroyed
abbrev pub IsUnmarked : List ℕ → Known → Known → Type 0
IsUnmarked name before now =
    now ≡ record before { marks = filter (λ row. not (is_row_of (Mark name) row)) before.marks }

-- a bookmark of this name was made from a version: it stands among the marks as that version, without holds
pub record IsMarked (version : VersionName) (name : List ℕ) (before now : Known) : Type 0 where
  pub row : VersionRow
  pub found : source_row version before ≡ Some row
  pub known_is : now ≡ record before { marks = before.marks ++ record row { name = Mark name; refs = 0 } ∷ [] }

-- what a transfer sent stands among the target's snapshots, as the newest
abbrev pub HasArrived : Transfer → Known → Known → Type 0
HasArrived transfer before now =
    now ≡ record before {
      presence = presence_after before.presence;
      arrived = option_map (λ arrived. arrived ++ arrival transfer ∷ []) before.arrived;
      transferred = true;
      receiving = Nothing;
    }
