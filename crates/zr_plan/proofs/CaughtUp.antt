use Rattle.std.proofs.Common.{rules, ◌≡◌, ◌&&◌, ◌||◌, ◌++◌, cond, ℕ, Bool, true, false, List, [], ◌∷◌, filter, is_none, refl, if◌then◌else◌}
use Rattle.std.specs.Prelude.{Option, Some, None}
use Rattle.std.specs.List.{list_any}
use Rattle.zr_names.specs.declared.policy.Initial.{Initial}
use Rattle.zr_names.specs.declared.policy.Initial.TheVariants as initially
use Rattle.zr_plan.specs.Laws.{IsCaughtUp}
use Rattle.zr_plan.specs.Plan.{conflict_plan, has_nothing, initial_plan, is_later, newest_common, own_version, plan_after, plan_from, plan_with, resume, resume_if, step_to, steps_of, steps_plan}
use Rattle.zr_command.specs.Kinds.{is_snap, names_snap, newest}
use Rattle.zr_plan.specs.declared.target.Conflict.TheVariants.{NoSenderSnapshots}
use Rattle.zr_plan.specs.declared.target.Planned.{Planned}
use Rattle.zr_plan.specs.declared.target.Planned.TheVariants.{UpToDate, Conflict}
use Rattle.zr_plan.specs.declared.target.Step.{Step}
use Rattle.zr_plan.specs.declared.target.TokenInfo.{TokenInfo}
use Rattle.zr_plan.specs.Sides.{Onto}
use Rattle.zr_command.specs.declared.version.VersionName.{VersionName}
use Rattle.zr_command.specs.declared.version.VersionName.TheVariants.{Snap, Mark}
use Rattle.zr_command.specs.declared.version.VersionRow.{VersionRow}

-- a row that gives no step is no snapshot
none_named : (row : VersionRow) (name : VersionName) (rest : List Step) (others : Bool) → (rest ≡ [] → others ≡ false) → step_to row name ++ rest ≡ [] → (names_snap name || others) ≡ false
none_named row (Snap name) rest others next none = search rules
none_named row (Mark name) rest others next none = next none

none_one : (p : VersionRow → Bool) (row : VersionRow) (rows : List VersionRow) (others test : Bool) → p row ≡ test → (steps_of (filter p rows) ≡ [] → others ≡ false) → steps_of (cond test (row ∷ filter p rows) (filter p rows)) ≡ [] → ((test && is_snap row) || others) ≡ false
none_one p row rows others true is next none = none_named row row.name (steps_of (filter p rows)) others next none
none_one p row rows others false is next none = next none

-- where the rows that pass a test give no steps, no snapshot passes it
none_owed : (p : VersionRow → Bool) (rows : List VersionRow) → steps_of (filter p rows) ≡ [] → list_any (λ row. p row && is_snap row) rows ≡ false
none_owed p [] none = refl
none_owed p (row ∷ rows) none =
    none_one p row rows (list_any (λ row. p row && is_snap row) rows) (p row) refl (none_owed p rows) none

no_steps : (steps : List Step) → steps_plan steps ≡ UpToDate → steps ≡ []
no_steps [] is = refl
no_steps (step ∷ steps) is = search rules

conflict_isnt : (common : Option VersionRow) (last : VersionRow) → conflict_plan common last ≡ UpToDate → ⊥
conflict_isnt None last is = search rules
conflict_isnt (Some common) last is = search rules

initial_isnt : (source : List VersionRow) (initial : Initial) → initial_plan source initial ≡ UpToDate → ⊥
initial_isnt source initially.Fail is = search rules
initial_isnt source initially.MostRecent is = search rules
initial_isnt source initially.All is = search rules

resume_isnt : (row : VersionRow) (name : VersionName) → resume row.guid name ≡ UpToDate → ⊥
resume_isnt row (Snap name) is = search rules
resume_isnt row (Mark name) is = search rules

partial_isnt : (can : Bool) (found : Option VersionRow) → resume_if can found ≡ UpToDate → ⊥
partial_isnt true (Some row) is = resume_isnt row row.name is
partial_isnt true None is = search rules
partial_isnt false found is = search rules

from_caught_up : (job : List ℕ) (source rows : List VersionRow) (last : VersionRow) (own : Option VersionRow) → newest rows ≡ Some last → own_version job source last.guid ≡ own → plan_from job source rows last own ≡ UpToDate → IsCaughtUp job source rows
from_caught_up job source rows last None is_last is_own is = absurd (conflict_isnt (newest_common job source rows) last is)
from_caught_up job source rows last (Some own) is_last is_own is = record {
  last = last;
  own = own;
  is_last = is_last;
  is_own = is_own;
  none_owed = none_owed (is_later source last.guid own) source (no_steps _ is);
}

after_caught_up : (job : List ℕ) (source rows : List VersionRow) (last : Option VersionRow) → newest rows ≡ last → plan_after job source rows last ≡ UpToDate → IsCaughtUp job source rows
after_caught_up job source rows None is_last is = search rules
after_caught_up job source rows (Some last) is_last is =
    from_caught_up job source rows last (own_version job source last.guid) is_last refl is

if_caught_up : (X : Type 0) (test other : Bool) (first plan : Planned) → (first ≡ UpToDate → ⊥) → (plan ≡ UpToDate → X) → (if test then Conflict NoSenderSnapshots else (if other then first else plan)) ≡ UpToDate → X
if_caught_up X true other first plan isnt next is = search rules
if_caught_up X false true first plan isnt next is = absurd (isnt is)
if_caught_up X false false first plan isnt next is = next is

-- an up-to-date plan by its cases
pub with_caught_up : (job : List ℕ) (source : List VersionRow) (target : Onto) (initial : Initial) (partial : Option TokenInfo) → plan_with job source target initial partial ≡ UpToDate → IsCaughtUp job source target.rows
with_caught_up job source target initial (Some partial) is = absurd (partial_isnt _ _ is)
with_caught_up job source target initial None is =
    if_caught_up (IsCaughtUp job source target.rows) (is_none (newest source)) (has_nothing target) (initial_plan source initial)
    (plan_after job source target.rows (newest target.rows)) (initial_isnt source initial)
    (after_caught_up job source target.rows (newest target.rows) refl) is
