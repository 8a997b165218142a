-- What a source and a sink in memory show.
use Rattle.std.specs.Prelude.{ℕ, List}

-- the bytes written, the numbers of the calls that fail, and how many calls came and how many failed
pub record SinkInMemory : Type 0 where
  pub written : List ℕ
  pub failing : List ℕ
  pub calls : ℕ
  pub faults : ℕ

-- the bytes left, the numbers of the calls that fail, and how many calls came and how many failed
pub record SourceInMemory : Type 0 where
  pub left : List ℕ
  pub failing : List ℕ
  pub calls : ℕ
  pub faults : ℕ
