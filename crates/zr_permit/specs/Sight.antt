use Rattle.std.specs.Prelude.{◌≡◌, ◌≤◌, ℕ, Bool, true, false, List, [], ◌∷◌, ◌++◌, Option, All}
use Rattle.zr_base.specs.Count.{Rose}
use Rattle.zr_names.specs.declared.outcome.Outcome.{Outcome}
use Rattle.zr_names.specs.declared.unit.Unit.{Unit}
use Rattle.zr_command.specs.declared.command.Entry.{Entry}
use Rattle.zr_world.specs.Answering.{Acts}
use Rattle.zr_world.specs.declared.pools.Pools.{Pools}
use Rattle.zr_world.specs.declared.zfs.Zfs.{Ghosts}
use Rattle.zr_jobset.specs.Sets.{Jobs}
use Rattle.zr_permit.specs.declared.guarded.Guarded.{Guarded}
use Rattle.zr_permit.specs.Result.{is_child_fault, ResultOf}
use Rattle.zr_permit.specs.Transcript.{GoesOn, Transcript}
use Rattle.zr_permit.specs.Turned.{IsRecordOf, IsRecordOfUnit}

-- what a contract sees of a unit at work: its jobs, the unit, its turns, whether memory was refused to it, and what its
-- runner shows: the record, the pools and the count of faults
pub record Sight : Type 0 where
  pub jobs : Jobs
  pub unit : Unit
  pub turns : Transcript
  pub out_of_memory : Bool
  pub history : Option (List Entry)
  pub pools : Option Pools
  pub faults : ℕ

abbrev pub sight : {Z : Type 0} → Ghosts Z → Guarded Z → Sight
sight ghosts unit = record {
  jobs = unit.log.jobs;
  unit = unit.log.unit;
  turns = unit.log.turns;
  out_of_memory = unit.out_of_memory;
  history = ghosts.history unit.runner.now;
  pools = ghosts.pools unit.runner.now;
  faults = ghosts.faults unit.runner.now;
}

-- the unit has given no command
pub record HasJustBegun (now : Sight) : Type 0 where
  pub no_turns : now.turns ≡ []
  pub with_memory : now.out_of_memory ≡ false

-- the unit is at work: after each of its turns it goes on, and memory was not refused to it
pub record IsAtWork (now : Sight) : Type 0 where
  pub with_memory : now.out_of_memory ≡ false
  pub goes_on : All (λ turn. GoesOn now.unit.work turn.0 turn.1) now.turns

-- pools that are told are changed by some turns one after another, each by the answer rule
abbrev pub ActedBy : Transcript → Option Pools → Option Pools → Type 0
ActedBy [] before now = now ≡ before
ActedBy (turn ∷ turns) before now =
    (mid : Option Pools) × Acts turn.0 before mid turn.1 × ActedBy turns mid now

-- it is still the same unit of the same jobs, it has some turns more, by which its runner's pools have changed, and no
-- fault was taken back
pub record Went (before now : Sight) : Type 0 where
  pub same_jobs : now.jobs ≡ before.jobs
  pub same_unit : now.unit ≡ before.unit
  pub more : Transcript
  pub turns_are : now.turns ≡ before.turns ++ more
  pub acted : ActedBy more before.pools now.pools
  pub later : before.faults ≤ now.faults

-- the runner's record goes on with the turns
abbrev pub Follows : Sight → Sight → Type 0
Follows before now =
    (base : Option (List Entry)) → IsRecordOf base before.history before.turns → IsRecordOf base now.history now.turns

-- the unit has ended with this outcome
pub record HasEnded (before now : Sight) (ended : Outcome) : Type 0 where
  pub went : Went before now
  pub result : ResultOf before.jobs before.unit now.turns ended
  pub records :
      (base : Option (List Entry)) → IsRecordOf base before.history before.turns → IsRecordOfUnit base now.history now.turns ended
  pub rose : is_child_fault ended ≡ true → Rose before.faults now.faults
