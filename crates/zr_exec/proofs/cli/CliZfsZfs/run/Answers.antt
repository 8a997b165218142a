use Rattle.std.proofs.Common.{◌∙◌, List, ℕ, ap, subst, sym}
use Rattle.zr_exec.proofs.Answers.{one_started, run_acts, run_logs}
use Rattle.zr_exec.proofs.Pipes.{idle_acts, pipe_acts, pipe_logs, starts}
use Rattle.zr_exec.specs.Answering.{IsAnswer}
use Rattle.zr_exec.specs.Running.{Running}
use Rattle.zr_exec.specs.Listed.{listed_by}
use Rattle.zr_world.specs.Answering.{Acts}
use Rattle.zr_command.specs.declared.command.Answer.{Answer}
use Rattle.zr_exec.proofs.cli.CliZfsZfs.run.Goals as goal

pub returns-in-Ok-One-clause-told : goal.returns-in-Ok-One-clause-told
returns-in-Ok-One-clause-told g c =
    let is : IsAnswer (listed_by c.args.cmd.now) c.run-exit.result c.run-exit.new.out.items c.answer.result =
    subst (λ (bytes : List ℕ). IsAnswer (listed_by c.args.cmd.now) c.run-exit.result bytes c.answer.result) c.as_slice-in-Ok-One.ensures.value c.answer.ensures.answer in
    run_logs _ _ _ _ _ _ _ _ _ _ (ap (λ (before : Running g.row.S.Denot). before.program) c.self.view_is) (ap (λ (before : Running g.row.S.Denot). g.S.Spawn.history before.children) c.self.view_is)
    (one_started _ _ _ _ _ c.as_str.ensures.value c.as_slice.ensures (sym c.in-Ok-One.field-0-is ∙ c.in-Ok-One.ensures.words) c.in-Ok-One.ensures.named) c.run-exit.ensures.told is

pub returns-in-Ok-One-clause-pools : goal.returns-in-Ok-One-clause-pools
returns-in-Ok-One-clause-pools g c =
    let is : IsAnswer (listed_by c.args.cmd.now) c.run-exit.result c.run-exit.new.out.items c.answer.result =
    subst (λ (bytes : List ℕ). IsAnswer (listed_by c.args.cmd.now) c.run-exit.result bytes c.answer.result) c.as_slice-in-Ok-One.ensures.value c.answer.ensures.answer in
    let starts = one_started _ _ _ _ _ c.as_str.ensures.value c.as_slice.ensures (sym c.in-Ok-One.field-0-is ∙ c.in-Ok-One.ensures.words) c.in-Ok-One.ensures.named in
    run_acts _ _ _ _ _ _ _ _ (ap (λ (before : Running g.row.S.Denot). g.S.Spawn.pools before.children) c.self.view_is) starts.spelled c.run-exit.ensures.pools is

pub returns-in-Ok-Pipe-clause-told : goal.returns-in-Ok-Pipe-clause-told
returns-in-Ok-Pipe-clause-told g c =
    pipe_logs _ _ _ _ _ _ _ _ _ _ (ap (λ (before : Running g.row.S.Denot). before.program) c.self.view_is) c.piped.ensures (ap (λ (before : Running g.row.S.Denot). g.S.Spawn.history before.children) c.self.view_is)
    (starts _ _ _ _ _ _ _ c.as_str.ensures.value c.as_slice-in-Ok-Pipe.ensures c.as_slice-in-Ok-Pipe-2.ensures (sym c.in-Ok-Pipe.field-0-is ∙ c.in-Ok-Pipe.ensures.words) c.in-Ok-Pipe.ensures.named) c.pipe.ensures.told

pub returns-in-Ok-Pipe-clause-pools : goal.returns-in-Ok-Pipe-clause-pools
returns-in-Ok-Pipe-clause-pools g c =
    subst (λ (a : Answer). Acts c.args.cmd.now (g.S.Spawn.pools c.args.self.now.children) (g.S.Spawn.pools c.pipe.new.self) a) (sym c.piped.ensures)
    (pipe_acts _ _ _ _ _ _ _ _ (ap (λ (before : Running g.row.S.Denot). g.S.Spawn.pools before.children) c.self.view_is) (starts _ _ _ _ _ _ _ c.as_str.ensures.value c.as_slice-in-Ok-Pipe.ensures c.as_slice-in-Ok-Pipe-2.ensures (sym c.in-Ok-Pipe.field-0-is ∙ c.in-Ok-Pipe.ensures.words) c.in-Ok-Pipe.ensures.named) c.pipe.ensures.pools)

pub returns-in-Err-clause-pools : goal.returns-in-Err-clause-pools
returns-in-Err-clause-pools g c = idle_acts _ _
