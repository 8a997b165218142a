use Rattle.std.proofs.Common.{◌≡◌, ◌∙◌, List, Ok, Option, ap, refl, inl, inr, subst, sym}
use Rattle.zr_command.specs.declared.command.Answer.{Answer}
use Rattle.zr_command.specs.declared.command.Answer.TheVariants.{Done, Failed, Garbled, NoMemory}
use Rattle.zr_command.specs.declared.command.Cmd.{Cmd}
use Rattle.zr_command.specs.declared.command.Entry.{Entry}
use Rattle.zr_world.specs.declared.effects.Extent.TheVariants as extent
use Rattle.zr_world.specs.declared.pools.Pools.{Pools}
use Rattle.zr_world.specs.Answering.{Answers, AnswersWords}
use Rattle.zr_world.specs.Mem.{Recorded}
use Rattle.zr_world.specs.declared.effects.Extent.{Extent}
use Rattle.zr_world.specs.declared.planned.PlannedFailure.{PlannedFailure}
use Rattle.zr_world.specs.Memory.{Memory}
use Rattle.zr_world.specs.Planned.{Called, ComesAt, planned_at}
use Rattle.zr_world.proofs.mem.MemZfs.call.Goals as goal

-- what was answered may be answered as want of memory
short : (command : Cmd) (before after : Pools) (answer : Answer) → Answers command before after answer → Answers command before after NoMemory
short command before after (Done given) does = (extent.Whole, Ok given, does)
short command before after Failed does = does
short command before after (Garbled line) does = does
short command before after NoMemory does = does

answers-recorded : (command shown : Cmd) (before old after : Pools) (history now : List Entry) (answer given : Answer) → before ≡ old → Answers command before after answer → Recorded history now shown answer given → AnswersWords command old after given
answers-recorded command shown before old after history now answer given same does recorded =
    subst (λ (pools : Pools). AnswersWords command pools after given) same
    (inl (elim recorded [
      | inl kept ↦ subst (Answers command before after) (sym kept.1) does
      | inr lost ↦ subst (Answers command before after) (sym lost.1) (short command before after answer does)
    ]))

pub returns-clause-answered : goal.returns-clause-answered
returns-clause-answered c =
    answers-recorded _ _ _ _ _ _ _ _ _ (ap (λ m. m.pools) c.self.view_is) (c.act-answer.ensures.answer c.self.invariant) c.recorded.ensures

pub returns-clause-called : goal.returns-clause-called
returns-clause-called c =
    let after : Memory = record {
      pools = c.act-answer.new.pools;
      failing = c.self.inside.failing.items;
      calls = c.saturating_add-self-inside.result;
      faults = c.act-answer.new.faults;
      history = c.recorded.new.history.items;
    } in
    subst (λ (before : Memory). Called before c.args.cmd.now after c.recorded.result) c.self.view_is
    (record {
      answer = c.act-answer.result;
      calls_are = c.saturating_add-self-inside.ensures;
      plan_is = refl;
      comes = subst (λ (plan : Option Extent). ComesAt plan c.args.cmd.now c.self.inside.pools c.act-answer.new.pools c.act-answer.result)
          (c.find-plan.ensures ∙ ap (λ (failing : List PlannedFailure). planned_at failing c.saturating_add-self-inside.result) c.as_slice.ensures.value)
          c.act-answer.ensures.comes;
      faults_are = c.act-answer.ensures.counted;
      recorded = c.recorded.ensures;
    })
