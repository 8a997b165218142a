use Rattle.std.proofs.Common.{◌≡◌, Bool, true, false, List, [], ◌∷◌, ◌++◌, Some, None, refl}
use Rattle.zr_world.specs.declared.effects.Refusal.{Refusal}
use Rattle.zr_world.specs.Reasons.{first_that_applies}

-- where a reason of the first list applies, it is the first of both
pub refused_first : (first more : List (Bool × Refusal)) (why : Refusal) → first_that_applies first ≡ Some why → first_that_applies (first ++ more) ≡ Some why
refused_first [] more why is = cc
refused_first ((b, own) ∷ first) more why is = choose b is (refused_first first more why) where
  choose : (c : Bool) → first_that_applies ((c, own) ∷ first) ≡ Some why → (first_that_applies first ≡ Some why → first_that_applies (first ++ more) ≡ Some why) → first_that_applies (((c, own) ∷ first) ++ more) ≡ Some why
  choose true e rest = e
  choose false e rest = rest e

-- where none does, the first of the second list is
pub refused_behind : (first more : List (Bool × Refusal)) → first_that_applies first ≡ None → first_that_applies (first ++ more) ≡ first_that_applies more
refused_behind [] more is = refl
refused_behind ((b, own) ∷ first) more is = choose b is (refused_behind first more) where
  choose : (c : Bool) → first_that_applies ((c, own) ∷ first) ≡ None → (first_that_applies first ≡ None → first_that_applies (first ++ more) ≡ first_that_applies more) → first_that_applies (((c, own) ∷ first) ++ more) ≡ first_that_applies more
  choose true e rest = cc
  choose false e rest = rest e
