use Rattle.std.proofs.Common.{◌∙◌, List, ap}
use Rattle.zr_world.specs.Planned.{planned_at}
use Rattle.zr_world.specs.declared.planned.PlannedFailure.{PlannedFailure}
use Rattle.zr_model.proofs.Ends.{child-ran, does_recorded}
use Rattle.zr_model.proofs.mem.MemSpawn.child.Goals as goal

pub returns-clause-does : goal.returns-clause-does
returns-clause-does c =
    does_recorded _ _ _ _ _ _ _ _ _ _ _ _ c.behind_program-words.ensures (ap (λ m. m.pools) c.self.view_is) c.serve-exit.ensures.does c.recorded.ensures

pub returns-clause-ran : goal.returns-clause-ran
returns-clause-ran c =
    let planned = c.find-plan.ensures ∙ ap (λ (failing : List PlannedFailure). planned_at failing c.saturating_add-self-inside.result) c.as_slice.ensures.value in
    child-ran _ _ _ _ _ _ _ _ _ _ _ _ _ c.self.view_is c.saturating_add-self-inside.ensures planned c.behind_program-words.ensures
    c.serve-exit.ensures.ends c.serve-exit.ensures.counted c.as_slice-2.ensures.value c.recorded.ensures
