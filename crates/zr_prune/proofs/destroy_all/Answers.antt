use Rattle.std.proofs.Common.{◌∙◌, ap, inl, inr, length, refl, rules, sym, ◌+◌, ◌-◌, ◌^◌, min, ℕ}
use Rattle.std.specs.Slice.Iter.{chunks_rest}
use Rattle.zr_permit.specs.Result.{capped}
use Rattle.zr_permit.proofs.Ending.{went-on}
use Rattle.zr_prune.proofs.Steps.{capped-more, counts-done, counts-failed, destroys-ended, given-all, given-begun, given-more, group-allowed, next-names, pruned-ended}
use Rattle.zr_prune.proofs.destroy_all.Goals as goal

pub loop-group-init : goal.loop-group-init
loop-group-init g c = record {
  can_next = search rules;
  is_finite = tt;
  size = search rules;
  went = search rules;
  memory = search rules;
  given = given-begun _ c.args.path.now c.args.names.now _ c.requires.pruning (search rules);
  destroyed = search rules;
  busy = search rules;
  follows = λ base before. before;
  same_runner = refl;
}

pub destroy-requires-clause-names : goal.destroy-requires-clause-names
destroy-requires-clause-names g c =
    let inv = c.loop-group.invariant in
    let steps = c.in-Some.ensures.steps in
    let all = chunks_rest c.loop-group.group-iterator in
    let size = steps.1.1 ∙ ap (λ (n : ℕ). min n (length all)) inv.size in
    next-names _ c.args.path.now c.args.names.now all c.in-Some.group.now (chunks_rest c.next.new.self) inv.given steps.1.0 size steps.1.2

pub destroy-requires-clause-allowed : goal.destroy-requires-clause-allowed
destroy-requires-clause-allowed g c =
    group-allowed _ c.args.path.now c.args.names.now (chunks_rest c.loop-group.group-iterator) c.in-Some.group.now (chunks_rest c.next.new.self) c.loop-group.invariant.given c.in-Some.ensures.steps.1.0

pub loop-group-preserved-in-Done : goal.loop-group-preserved-in-Done
loop-group-preserved-in-Done g c =
    let inv = c.loop-group.invariant in
    let path = c.args.path.now in
    let names = c.args.names.now in
    let group = c.in-Some.group.now in
    let all = chunks_rest c.loop-group.group-iterator in
    let steps = c.in-Some.ensures.steps in
    let does = c.destroy.ensures in
    let told = c.in-Done.ensures in
    let counts = counts-done path group _ _ told.turns in
    let size = steps.1.1 ∙ ap (λ (n : ℕ). min n (length all)) inv.size in
    record {
      can_next = search rules;
      is_finite = tt;
      size = steps.0 ∙ inv.size;
      went = went-on _ _ _ inv.went does.went;
      memory = told.memory refl;
      given = given-more _ _ path names all group (chunks_rest c.next.new.self) _ inv.given steps.1.0 size steps.1.2 does.went told.turns (inl refl);
      destroyed = c.saturating_add-destroyed.ensures ∙ ap (λ (n : ℕ). min (c.loop-group.destroyed + n) (2 ^ 32 - 1)) c.count.ensures ∙ ap (λ (n : ℕ). min (n + length group) (2 ^ 32 - 1)) inv.destroyed ∙ capped-more _ (length group) ∙ ap capped (sym counts.0);
      busy = inv.busy ∙ ap capped (sym counts.1);
      follows = λ base before. told.records base (inv.follows base before);
      same_runner = does.same_runner ∙ inv.same_runner;
    }

pub loop-group-preserved : goal.loop-group-preserved
loop-group-preserved g c =
    let inv = c.loop-group.invariant in
    let path = c.args.path.now in
    let names = c.args.names.now in
    let group = c.in-Some.group.now in
    let all = chunks_rest c.loop-group.group-iterator in
    let steps = c.in-Some.ensures.steps in
    let does = c.destroy.ensures in
    let told = c.in-Failed.ensures in
    let counts = counts-failed path group _ _ told.turns in
    let size = steps.1.1 ∙ ap (λ (n : ℕ). min n (length all)) inv.size in
    record {
      can_next = search rules;
      is_finite = tt;
      size = steps.0 ∙ inv.size;
      went = went-on _ _ _ inv.went does.went;
      memory = told.memory refl;
      given = given-more _ _ path names all group (chunks_rest c.next.new.self) _ inv.given steps.1.0 size steps.1.2 does.went told.turns (inr refl);
      destroyed = inv.destroyed ∙ ap capped (sym counts.0);
      busy = c.saturating_add-busy.ensures ∙ ap (λ (n : ℕ). min (c.loop-group.busy + n) (2 ^ 32 - 1)) c.count-in-Failed.ensures ∙ ap (λ (n : ℕ). min (n + length group) (2 ^ 32 - 1)) inv.busy ∙ capped-more _ (length group) ∙ ap capped (sym counts.1);
      follows = λ base before. told.records base (inv.follows base before);
      same_runner = does.same_runner ∙ inv.same_runner;
    }

pub returns-in-NoMemory-clause-ended : goal.returns-in-NoMemory-clause-ended
returns-in-NoMemory-clause-ended g c =
    let inv = c.loop-group.invariant in
    let told = c.in-NoMemory.ensures in
    destroys-ended _ _ _ c.args.path.now c.args.names.now (chunks_rest c.loop-group.group-iterator) _ inv.went inv.follows inv.memory inv.given c.destroy.ensures.went told.turns told.records

pub returns-clause-ended : goal.returns-clause-ended
returns-clause-ended g c =
    let inv = c.loop-group.invariant in
    pruned-ended _ _ c.args.path.now c.args.names.now (chunks_rest c.loop-group.group-iterator) _ _ inv.went inv.follows inv.given c.in-None.ensures.steps.1.0 inv.destroyed inv.busy

pub returns-clause-pruned : goal.returns-clause-pruned
returns-clause-pruned g c =
    let inv = c.loop-group.invariant in
    given-all _ c.args.path.now c.args.names.now (chunks_rest c.loop-group.group-iterator) _ inv.given c.in-None.ensures.steps.1.0 inv.busy
