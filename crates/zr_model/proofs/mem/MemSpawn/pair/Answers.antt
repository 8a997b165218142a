use Rattle.std.proofs.Common.{◌∙◌, List, ap}
use Rattle.zr_world.specs.Planned.{planned_at}
use Rattle.zr_world.specs.declared.planned.PlannedFailure.{PlannedFailure}
use Rattle.zr_model.proofs.Ends.{pair-ran, pipe_recorded}
use Rattle.zr_model.proofs.mem.MemSpawn.pair.Goals as goal

pub returns-clause-does : goal.returns-clause-does
returns-clause-does c =
    pipe_recorded _ _ _ _ _ _ _ _ _ _ _ _ _ c.behind_program-sends.ensures c.behind_program-receives.ensures (ap (λ m. m.pools) c.self.view_is) c.serve_pipe-exit.ensures.does c.recorded_pipe.ensures

pub returns-clause-ran : goal.returns-clause-ran
returns-clause-ran c =
    let planned = c.find-plan.ensures ∙ ap (λ (failing : List PlannedFailure). planned_at failing c.saturating_add-self-inside.result) c.as_slice.ensures.value in
    pair-ran _ _ _ _ _ _ _ _ _ _ _ _ _ c.self.view_is c.saturating_add-self-inside.ensures planned c.behind_program-sends.ensures
    c.behind_program-receives.ensures c.serve_pipe-exit.ensures.ends c.serve_pipe-exit.ensures.counted c.recorded_pipe.ensures
