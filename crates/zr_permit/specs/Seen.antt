use Rattle.std.specs.Prelude.{ℕ}
use Rattle.zr_names.specs.declared.unit.Unit.{Unit}
use Rattle.zr_jobset.specs.Sets.{Jobs}
use Rattle.zr_permit.specs.Transcript.{Transcript}

-- a unit at work: the job file, the unit, what it asked and was told, and for how many turns there is room
pub record Seen : Type 0 where
  pub jobs : Jobs
  pub unit : Unit
  pub turns : Transcript
  pub room : ℕ
