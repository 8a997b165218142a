use Rattle.std.proofs.Common.{◌≡◌, ◌∙◌, ℕ, ◌<◌, ◌≤◌, true, arith, inl, inr, refl, subst, sym}
use Rattle.zr_base.specs.Count.{Rose}
use Rattle.zr_names.specs.declared.outcome.Outcome.{Outcome}
use Rattle.zr_names.specs.declared.outcome.Outcome.TheVariants as outcome
use Rattle.zr_names.specs.declared.totals.Totals.{Totals}
use Rattle.zr_permit.specs.Result.{is_child_fault}
use Rattle.zr_top.specs.Attempts.{no_totals, tallied}
use Rattle.zr_top.specs.Due.{FaultsRose}

tallied-rose : (ended : Outcome) (start : Totals) (before now : ℕ) → (is_child_fault ended ≡ true → Rose before now) → FaultsRose start (tallied ended start) before now
tallied-rose (outcome.ChildFault at) start before now rose = inr (rose refl)
tallied-rose other start before now rose = inl refl

-- the count rose where a unit's outcome is a failed child
pub counted-rose : (ended : Outcome) (start totals : Totals) (before now : ℕ) → totals ≡ tallied ended start → (is_child_fault ended ≡ true → Rose before now) → FaultsRose start totals before now
counted-rose ended start totals before now is rose =
    let at : Totals → Type 0 = λ t. FaultsRose start t before now in
    subst at (sym is) (tallied-rose ended start before now rose)

-- nothing was run yet
pub rose-none : (start : Totals) (before now : ℕ) → FaultsRose start start before now
rose-none start before now = inl refl

-- one after the other
pub rose-then : (start mid totals : Totals) (before between now : ℕ) → before ≤ between → between ≤ now → FaultsRose start mid before between → FaultsRose mid totals between now → FaultsRose start totals before now
rose-then start mid totals before between now later more (inr one) other = inr (omega (arith, one, more))
rose-then start mid totals before between now later more (inl same) (inl too) = inl (too ∙ same)
rose-then start mid totals before between now later more (inl same) (inr other) = inr (omega (arith, other, later))

-- from zeros on
pub rose-from_zeros : (start totals : Totals) (before now : ℕ) → start ≡ no_totals → FaultsRose start totals before now → 0 < totals.faults → Rose before now
rose-from_zeros start totals before now zeros (inr rose) some = rose
rose-from_zeros start totals before now zeros (inl same) some =
    let none : start.faults ≡ 0 = cc in
    absurd (omega (arith, same, none, some))
