use Rattle.std.proofs.Common.{rules, ◌≡◌, ◌&&◌, ◌==◌, cond, ℕ, Bool, true, false, List, [], ◌∷◌, find, is_some, is_none, refl, if◌then◌else◌}
use Rattle.std.specs.Prelude.{Option, Some, None}
use Rattle.std.specs.List.{list_any}
use Rattle.zr_names.specs.declared.policy.Initial.{Initial}
use Rattle.zr_names.specs.declared.unit.Guid.{Guid}
use Rattle.zr_plan.specs.Laws.{GoesOn, IsResumeOf}
use Rattle.zr_plan.specs.Plan.{can_go_on, has_nothing, initial_plan, own_version, plan_after, plan_from, plan_with, partial_plan, resume, resume_if, steps_plan}
use Rattle.zr_command.specs.Kinds.{is_snap_of, newest, names_snap}
use Rattle.zr_plan.specs.declared.target.Conflict.TheVariants.{NoSenderSnapshots}
use Rattle.zr_plan.specs.declared.target.Planned.{Planned}
use Rattle.zr_plan.specs.declared.target.Planned.TheVariants.{Conflict}
use Rattle.zr_plan.specs.declared.target.Step.{Step}
use Rattle.zr_plan.specs.declared.target.TokenInfo.{TokenInfo}
use Rattle.zr_plan.specs.Sides.{Onto}
use Rattle.zr_command.specs.declared.version.VersionName.{VersionName}
use Rattle.zr_command.specs.declared.version.VersionName.TheVariants.{Snap, Mark}
use Rattle.zr_command.specs.declared.version.VersionRow.{VersionRow}

-- steps are no conflict
pub steps_go_on : (steps : List Step) → GoesOn (steps_plan steps)
steps_go_on [] = search rules
steps_go_on (step ∷ steps) = search rules

-- nor is a plan from an own version
pub from_goes_on : (job : List ℕ) (source rows : List VersionRow) (last : VersionRow) (own : Option VersionRow) → is_some own ≡ true → GoesOn (plan_from job source rows last own)
from_goes_on job source rows last None some = search rules
from_goes_on job source rows last (Some own) some = steps_go_on _

-- a target that is there with a last snapshot has something
pub has_something : (target : Onto) (last : VersionRow) → target.there ≡ true → newest target.rows ≡ Some last → has_nothing target ≡ false
has_something target last there is = search rules

-- a plan by what it tests first
pub after_goes_on : (job : List ℕ) (source rows : List VersionRow) (o : Option VersionRow) (last : VersionRow) → o ≡ Some last → is_some (own_version job source last.guid) ≡ true → GoesOn (plan_after job source rows o)
after_goes_on job source rows o last is some = rw is (from_goes_on job source rows last (own_version job source last.guid) some)

if_goes_on : (test other : Bool) (first plan : Planned) → other ≡ false → GoesOn plan → GoesOn (if test then Conflict NoSenderSnapshots else (if other then first else plan))
if_goes_on true other first plan is goes = search rules
if_goes_on false other first plan is goes = rw is goes

pub with_goes_on : (job : List ℕ) (source : List VersionRow) (target : Onto) (initial : Initial) (last : VersionRow) → target.there ≡ true → newest target.rows ≡ Some last → is_some (own_version job source last.guid) ≡ true → GoesOn (plan_with job source target initial None)
with_goes_on job source target initial last there is some =
    if_goes_on (is_none (newest source)) (has_nothing target) (initial_plan source initial) (plan_after job source target.rows (newest target.rows))
    (has_something target last there is) (after_goes_on job source target.rows (newest target.rows) last is some)

-- the row of a snapshot with a guid is resumed as that
resumes_named : (guid own : Guid) (name : VersionName) → (names_snap name && (own.0 == guid.0)) ≡ true → IsResumeOf guid (resume own name)
resumes_named guid own (Snap name) is = search rules
resumes_named guid own (Mark name) is = search rules

resumes_one : (guid : Guid) (row : VersionRow) (rest : Option VersionRow) (test : Bool) → is_snap_of guid row ≡ test → (test ≡ false → IsResumeOf guid (resume_if true rest)) → IsResumeOf guid (resume_if true (cond test (Some row) rest))
resumes_one guid row rest true is next = resumes_named guid row.guid row.name is
resumes_one guid row rest false is next = next refl

-- where some row is a snapshot with a guid, the first such is resumed
pub resumes_found : (guid : Guid) (rows : List VersionRow) → list_any (is_snap_of guid) rows ≡ true → IsResumeOf guid (resume_if true (find (is_snap_of guid) rows))
resumes_found guid [] some = search rules
resumes_found guid (row ∷ rows) some =
    resumes_one guid row (find (is_snap_of guid) rows) (is_snap_of guid row) refl (λ isnt. resumes_found guid rows (rw isnt at some))

pub partial_resumes : (job : List ℕ) (source : List VersionRow) (last : Option VersionRow) (partial : TokenInfo) → can_go_on job source partial.from last ≡ true → list_any (is_snap_of partial.to) source ≡ true → IsResumeOf partial.to (partial_plan job source last partial)
partial_resumes job source last partial can some = rw can (resumes_found partial.to source some)
