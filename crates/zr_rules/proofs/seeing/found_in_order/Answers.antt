use Rattle.std.proofs.Common.{Bool, Some, sym, subst, ap, rules, ◌∙◌}
use Rattle.regex.specs.Patterns.{Re}
use Rattle.zr_rules.specs.Matching.{finds, FindsAs}
use Rattle.zr_rules.proofs.Orders.{nothing}
use Rattle.zr_rules.proofs.Seen.{seen-more}
use Rattle.zr_rules.proofs.seeing.found_in_order.Goals as goal

pub loop-one-preserved : goal.loop-one-preserved
loop-one-preserved c =
    let row = c.index-rows-one.result in
    record {
      searches = subst (λ (re : Re). FindsAs re c.args.pattern.now) (sym c.is_found.ensures.same) c.loop-one.invariant.searches;
      seen_so_far = seen-more (Some c.args.pattern.now) c.args.rows.now c.args.order.now c.loop-one.rows_seen.items c.push.new.self.items c.loop-one.one-index nothing row
          (record { creation = row.creation; txg = row.txg; matches = c.is_found.result })
          c.loop-one-test.true (c.requires c.loop-one.one-index nothing c.loop-one-test.true) c.index-rows-one.is c.loop-one.invariant.seen_so_far (search rules)
          (ap (λ (b : Bool). record { creation = row.creation; txg = row.txg; matches = b })
          (c.is_found.ensures.found c.args.pattern.now c.loop-one.invariant.searches ∙ ap (finds c.args.pattern.now) c.text_of.ensures));
    }
