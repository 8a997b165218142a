use Rattle.std.specs.Prelude.{ℕ, List, refl}
use Rattle.std.specs.Coded.{Coded, code_by, coded_list, coded_ℕ, coded×}

-- a runner of commands: the program whose children it starts, and its runner of children
pub record Running (S : Type 0) : Type 0 where
  pub program : List ℕ
  pub children : S

abbrev pub running_code : {S : Type 0} → Coded S → Coded (Running S)
running_code {S} children =
    code_by (List ℕ × S) (coded× (coded_list coded_ℕ) children) (λ r. (r.program, r.children))
    (λ parts. record { program = parts.0; children = parts.1 }) (λ _. refl)
