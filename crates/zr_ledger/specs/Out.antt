use Rattle.std.specs.Prelude.{ℕ}
use Rattle.zr_names.specs.declared.unit.Unit.{Unit}

-- a unit that is out, with the number of its run: what a ticket says
pub record Out : Type 0 where
  pub unit : Unit
  pub run : ℕ
