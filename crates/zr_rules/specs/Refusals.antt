-- What a builder of patterns remembers of those that it refused.
use Rattle.std.specs.Prelude.{ℕ, List, Option}

-- how many were refused, and the text that was refused last
pub record Refusals : Type 0 where
  pub count : ℕ
  pub last : Option (List ℕ)
