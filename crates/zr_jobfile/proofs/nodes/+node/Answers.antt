use Rattle.std.proofs.Common.{◌≡◌, ◌∙◌, List, [], ◌∷◌, ◌++◌, ap, sym, append_assoc, append-nil}
use Rattle.toml.proofs.Views.{Entry}
use Rattle.zr_jobfile.proofs.Documents.{items-all, members-all, pairs-more}
use Rattle.zr_jobfile.proofs.nodes.+node.Goals as goal

pub items-returns : goal.items-returns
items-returns t c = items-all _ _ _ _ c.loop-value.invariant c.deref-value-items.ensures.value c.loop-value-test.false

pub pairs-loop-key-preserved : goal.pairs-loop-key-preserved
pairs-loop-key-preserved t c =
    let l = c.loop-key in
    let done = l.invariant.0 in
    let e : Entry = (c.in-Some.key.now, c.in-Some.value.now) in
    let left = c.next.new.self in
    let all : c.args.table.now.entries ≡ done ++ e ∷ left = l.invariant.1 ∙ ap (λ (es : List Entry). done ++ es) c.in-Some.ensures.steps in
    let named = c.in_ok-key.ensures ∙ c.as_str.ensures.value in
    let pair_is = c.new.ensures ∙ ap (λ d. (c.in_ok-key.key, d)) c.in_ok-node.ensures in
    (done ++ e ∷ [], all ∙ sym (append_assoc done (e ∷ []) left), pairs-more _ _ _ done e _ l.invariant.2 c.in_ok-push.ensures.items pair_is named)

pub pairs-returns : goal.pairs-returns
pairs-returns t c =
    let done = c.loop-key.invariant.0 in
    let all = c.loop-key.invariant.1 ∙ ap (λ (es : List Entry). done ++ es) c.in-None.ensures.steps.0 ∙ append-nil done in
    members-all _ _ done c.loop-key.invariant.2 all
