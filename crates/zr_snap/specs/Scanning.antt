use Rattle.std.specs.Prelude.{◌≡◌, List, [], ◌∷◌}
use Rattle.zr_names.specs.declared.outcome.Outcome.{Outcome}
use Rattle.zr_names.specs.declared.outcome.Outcome.TheVariants as outcome
use Rattle.zr_names.specs.declared.unit.Unit.{Unit}
use Rattle.zr_command.specs.declared.command.Answer.TheVariants as answer
use Rattle.zr_command.specs.declared.command.Cmd.TheVariants as cmd
use Rattle.zr_command.specs.declared.command.Reply.TheVariants as reply
use Rattle.zr_command.specs.declared.version.SetRow.{SetRow}
use Rattle.zr_jobset.specs.Sets.{Jobs}
use Rattle.zr_jobset.specs.Units.{UnitsOf}
use Rattle.zr_permit.specs.Transcript.{Transcript}

-- the unit has listed the datasets and done nothing else
pub record HasListedSets (turns : Transcript) (rows : List SetRow) : Type 0 where
  pub turns_are : turns ≡ (cmd.Sets, answer.Done (reply.Sets rows)) ∷ []

-- a scan gives exactly the units of its listing
pub record GivesUnits (jobs : Jobs) (unit : Unit) (turns : Transcript) (units : List Unit) : Type 0 where
  pub rows : List SetRow
  pub listed : HasListedSets turns rows
  pub units_of : UnitsOf jobs unit.job unit.moment rows units

-- what a scan gives with its outcome: the units of its listing with `Scanned`, and no units with any other
abbrev pub Gives : Jobs → Unit → Transcript → Outcome → List Unit → Type 0
Gives jobs unit turns (outcome.Scanned found too_long) units = GivesUnits jobs unit turns units
Gives jobs unit turns other units = units ≡ []
