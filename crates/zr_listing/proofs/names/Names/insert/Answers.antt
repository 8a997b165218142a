use Rattle.std.proofs.Common.{◌∙◌, ap, sym, ◌||◌, Bool}
use Rattle.std.specs.Result.{is_ok}
use Rattle.std.proofs.lemmas.Result.{on_ok_weaker}
use Rattle.zr_listing.specs.Names.{is_among}
use Rattle.zr_listing.specs.Met.{was_met}
use Rattle.zr_listing.proofs.Rising.{below-inserted, below-pushed, met-after, met-again, met-other, new-after, rises-pushed}
use Rattle.zr_listing.proofs.names.Names.insert.Goals as goal

pub invariant_of-self : goal.invariant_of-self
invariant_of-self c =
    let names = c.args.self.now in
    record {
      ordered = rises-pushed names.rising.items c.push.new.self.items c.args.name (is_ok c.push.result) c.push.ensures.items names.ordered (sym c.is_after.ensures ∙ c.if-is_after.true);
      below = below-pushed names.rising.items c.push.new.self.items names.others.keys c.args.name (is_ok c.push.result) c.push.ensures.items names.below;
    }

pub invariant_of-self-else-has_risen : goal.invariant_of-self-else-has_risen
invariant_of-self-else-has_risen c =
    let names = c.args.self.now in
    record {
      ordered = names.ordered;
      below = below-inserted names.rising.items names.others.keys c.insert.new.self.keys c.args.name.now c.insert.result
          (on_ok_weaker c.insert.result (λ updates q. updates.0 (record c.args.name { now = q })) c.insert.ensures.updates)
          c.insert.ensures.err names.below (sym c.is_after.ensures ∙ c.if-is_after.false) (sym c.has_risen.ensures ∙ c.if-has_risen.false);
    }

pub returns-in_ok-push-clause-added : goal.returns-in_ok-push-clause-added
returns-in_ok-push-clause-added c =
    let names = c.args.self.now in
    new-after names.rising.items names.others.keys c.args.name.now names.ordered names.below (sym c.is_after.ensures ∙ c.if-is_after.true)

pub returns-in_ok-push-clause-met : goal.returns-in_ok-push-clause-met
returns-in_ok-push-clause-met c = λ q.
    let names = c.args.self.now in
    ap (λ rising. is_among rising q || is_among names.others.keys q) c.in_ok-push.ensures.items
    ∙ met-after names.rising.items names.others.keys c.args.name q

pub returns-then-has_risen-clause-met : goal.returns-then-has_risen-clause-met
returns-then-has_risen-clause-met c = λ q.
    let names = c.args.self.now in
    met-again (was_met names) c.args.name.now q
    (ap (λ (b : Bool). b || is_among names.others.keys c.args.name.now) (sym c.has_risen.ensures ∙ c.if-has_risen.true))

pub returns-in_ok-insert-clause-met : goal.returns-in_ok-insert-clause-met
returns-in_ok-insert-clause-met c = λ q.
    let names = c.args.self.now in
    met-other names.rising.items names.others.keys c.insert.new.self.keys c.args.name.now q (c.in_ok-insert.ensures.updates.0 (record c.args.name { now = q }))
