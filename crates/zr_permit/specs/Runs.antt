use Rattle.std.specs.Prelude.{◌≡◌, ◌⊎◌, ℕ, List, ◌∷◌, ◌++◌, [], All, Option}
use Rattle.zr_names.specs.declared.outcome.Outcome.{Outcome}
use Rattle.zr_names.specs.declared.outcome.Outcome.TheVariants as outcome
use Rattle.zr_names.specs.declared.unit.Unit.{Unit}
use Rattle.zr_names.specs.declared.unit.Work.{Work}
use Rattle.zr_command.specs.declared.command.Entry.{Entry}
use Rattle.zr_command.specs.declared.command.Entry.TheVariants.{Begin}
use Rattle.zr_world.specs.Answering.{appended}
use Rattle.zr_jobset.specs.Sets.{Jobs}
use Rattle.zr_permit.specs.Result.{ResultOf}
use Rattle.zr_permit.specs.Transcript.{GoesOn, Legal, Transcript, Turn}
use Rattle.zr_permit.specs.Turned.{calls}

-- the unit goes on after each turn but perhaps the last
pub record GoesOnToTheLast (unit_work : Work) (turns : Transcript) : Type 0 where
  pub front : Transcript
  pub goes_on : All (λ turn. GoesOn unit_work turn.0 turn.1) front
  pub parts : (turns ≡ front) ⊎ ((last : Turn) × (turns ≡ front ++ last ∷ []))

-- what a record that was read as a transcript says of its unit's outcome. Where memory was refused, the last call may stand
-- in the record with any answer, and no command failed and no listing was garbled before it
abbrev pub EndsAs : Jobs → Unit → Transcript → Outcome → Type 0
EndsAs jobs unit turns outcome.NoMemory = GoesOnToTheLast unit.work turns
EndsAs jobs unit turns ended = ResultOf jobs unit turns ended

-- a unit was begun and ended: the record has one begun run more, whose calls are a legal transcript, and
-- the outcome is its result
pub record HasRun (jobs : Jobs) (unit : Unit) (run : ℕ) (before now : Option (List Entry)) (ended : Outcome) : Type 0 where
  pub turns : Transcript
  pub legal : Legal jobs unit turns
  pub result : EndsAs jobs unit turns ended
  pub recorded : now ≡ appended before (Begin unit run ∷ calls turns)

-- a unit was run, or could not begin for want of memory
abbrev pub Ran : Jobs → Unit → ℕ → Option (List Entry) → Option (List Entry) → Outcome → Type 0
Ran jobs unit run before now ended =
    HasRun jobs unit run before now ended ⊎ ((ended ≡ outcome.NoMemory) × (now ≡ before))
