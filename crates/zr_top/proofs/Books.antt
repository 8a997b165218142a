use Rattle.std.proofs.Common.{◌≡◌, ◌∙◌, ◌+◌, ◌≤◌, List, [], ◌∷◌, arith, length, refl}
use Rattle.std.specs.Prelude.{◌-◌, ◌^◌, min}
use Rattle.zr_names.specs.declared.outcome.Outcome.{Outcome}
use Rattle.zr_names.specs.declared.outcome.Outcome.TheVariants as outcome
use Rattle.zr_names.specs.declared.totals.Totals.{Totals}
use Rattle.zr_names.specs.Totals.{plus}
use Rattle.zr_top.specs.Attempts.{Attempt, IsBalanced, no_totals, tallied, tallied_all, totals_of}

tallied-done : (ended : Outcome) (t : Totals) → (tallied ended t).done ≡ plus t.done 1
tallied-done (outcome.Scanned found too_long) t = refl
tallied-done other t = refl

tallied-coalesced : (ended : Outcome) (t : Totals) → (tallied ended t).coalesced ≡ t.coalesced
tallied-coalesced (outcome.Scanned found too_long) t = refl
tallied-coalesced other t = refl

-- each unit raises what is due by one
due-all : (attempts : List Attempt) (t : Totals) → t.due ≤ 2 ^ 64 - 1 → (tallied_all attempts t).due ≡ min (t.due + length attempts) (2 ^ 64 - 1)
due-all [] t within = omega (arith, within)
due-all (a ∷ attempts) t within =
    omega (arith, due-all attempts (tallied a.ended t) (omega arith))

done-all : (attempts : List Attempt) (t : Totals) → t.done ≤ 2 ^ 64 - 1 → (tallied_all attempts t).done ≡ min (t.done + length attempts) (2 ^ 64 - 1)
done-all [] t within = omega (arith, within)
done-all (a ∷ attempts) t within =
    let one = tallied-done a.ended t in
    omega (arith, one, done-all attempts (tallied a.ended t) (omega (arith, one)))

coalesced-all : (attempts : List Attempt) (t : Totals) → (tallied_all attempts t).coalesced ≡ t.coalesced
coalesced-all [] t = refl
coalesced-all (a ∷ attempts) t = coalesced-all attempts (tallied a.ended t) ∙ tallied-coalesced a.ended t

-- the totals of some units balance
pub balanced : (attempts : List Attempt) → IsBalanced (totals_of attempts) (length attempts)
balanced attempts =
    let due = due-all attempts no_totals (omega arith) in
    let done = done-all attempts no_totals (omega arith) in
    let none : (totals_of attempts).coalesced ≡ 0 = coalesced-all attempts no_totals in
    record {
      due_are = omega (arith, due);
      balanced = omega (arith, due, done, none);
    }
