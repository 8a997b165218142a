use Rattle.std.proofs.Common.{rules, ◌≡◌, ◌++◌, ℕ, Bool, true, false, List, [], ◌∷◌, filter, is_none, refl, if◌then◌else◌}
use Rattle.std.specs.Prelude.{Option, Some, None}
use Rattle.std.specs.List.{list_any}
use Rattle.zr_names.specs.declared.policy.Initial.{Initial}
use Rattle.zr_plan.specs.Plan.{conflict_plan, has_nothing, initial_plan, is_later, newest_common, own_version, plan_after, plan_from, plan_with, resume, resume_if, step_to, steps_of, steps_plan}
use Rattle.zr_command.specs.Kinds.{newest}
use Rattle.zr_plan.specs.declared.target.Conflict.TheVariants.{NoSenderSnapshots}
use Rattle.zr_plan.specs.declared.target.Planned.{Planned}
use Rattle.zr_plan.specs.declared.target.Planned.TheVariants.{Steps, Conflict}
use Rattle.zr_plan.specs.declared.target.Step.{Step}
use Rattle.zr_plan.specs.declared.target.TokenInfo.{TokenInfo}
use Rattle.zr_plan.specs.Sides.{Onto}
use Rattle.zr_command.specs.declared.version.VersionName.{VersionName}
use Rattle.zr_command.specs.declared.version.VersionName.TheVariants.{Snap, Mark}
use Rattle.zr_command.specs.declared.version.VersionRow.{VersionRow}

-- some step is in full
abbrev some_full : List Step → Bool
some_full steps = list_any (λ step. step.full) steps

-- the steps of rows are increments
step_increments : (row : VersionRow) (name : VersionName) (rest : List Step) → some_full rest ≡ false → some_full (step_to row name ++ rest) ≡ false
step_increments row (Snap name) rest none = none
step_increments row (Mark name) rest none = none

increments : (rows : List VersionRow) → some_full (steps_of rows) ≡ false
increments [] = refl
increments (row ∷ rows) = step_increments row row.name (steps_of rows) (increments rows)

planned_steps : (steps all : List Step) → some_full all ≡ false → steps_plan all ≡ Steps steps → some_full steps ≡ false
planned_steps steps [] none is = search rules
planned_steps steps (step ∷ all) none is = search rules

conflict_isnt : (common : Option VersionRow) (last : VersionRow) (steps : List Step) → conflict_plan common last ≡ Steps steps → ⊥
conflict_isnt None last steps is = search rules
conflict_isnt (Some common) last steps is = search rules

resume_isnt : (row : VersionRow) (name : VersionName) (steps : List Step) → resume row.guid name ≡ Steps steps → ⊥
resume_isnt row (Snap name) steps is = search rules
resume_isnt row (Mark name) steps is = search rules

partial_isnt : (can : Bool) (found : Option VersionRow) (steps : List Step) → resume_if can found ≡ Steps steps → ⊥
partial_isnt true (Some row) steps is = resume_isnt row row.name steps is
partial_isnt true None steps is = search rules
partial_isnt false found steps is = search rules

from_increments : (job : List ℕ) (source rows : List VersionRow) (last : VersionRow) (own : Option VersionRow) (steps : List Step) → plan_from job source rows last own ≡ Steps steps → some_full steps ≡ false
from_increments job source rows last None steps is = absurd (conflict_isnt (newest_common job source rows) last steps is)
from_increments job source rows last (Some own) steps is =
    planned_steps steps _ (increments (filter (is_later source last.guid own) source)) is

after_increments : (job : List ℕ) (source rows : List VersionRow) (last : Option VersionRow) (steps : List Step) → plan_after job source rows last ≡ Steps steps → some_full steps ≡ false
after_increments job source rows None steps is = search rules
after_increments job source rows (Some last) steps is =
    from_increments job source rows last (own_version job source last.guid) steps is

if_increments : (test other : Bool) (first plan : Planned) (steps : List Step) → other ≡ false → (plan ≡ Steps steps → some_full steps ≡ false) → (if test then Conflict NoSenderSnapshots else (if other then first else plan)) ≡ Steps steps → some_full steps ≡ false
if_increments true other first plan steps isnt next is = search rules
if_increments false true first plan steps isnt next is = search rules
if_increments false false first plan steps isnt next is = next is

-- a plan onto a target that has something, by its cases
pub with_increments : (job : List ℕ) (source : List VersionRow) (target : Onto) (initial : Initial) (steps : List Step) (partial : Option TokenInfo) → has_nothing target ≡ false → plan_with job source target initial partial ≡ Steps steps → list_any (λ step. step.full) steps ≡ false
with_increments job source target initial steps (Some partial) isnt is = absurd (partial_isnt _ _ steps is)
with_increments job source target initial steps None isnt is =
    if_increments (is_none (newest source)) (has_nothing target) (initial_plan source initial)
    (plan_after job source target.rows (newest target.rows)) steps isnt
    (after_increments job source target.rows (newest target.rows) steps) is
