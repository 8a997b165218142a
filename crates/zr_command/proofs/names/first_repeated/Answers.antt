use Rattle.std.proofs.Common.{sym, ◌∙◌, arith}
use Rattle.zr_command.proofs.Repeated.{repeated, one-more, all-differ}
use Rattle.zr_command.proofs.names.first_repeated.Goals as goal

pub returns-then-is_among : goal.returns-then-is_among
returns-then-is_among c =
    repeated c.args.names.now c.loop-place.place c.index-names-place.result c.loop-place-test.true c.index-names-place.is
    c.loop-place.invariant.differ (sym c.is_among.ensures ∙ c.if-is_among.true)

pub loop-place-preserved : goal.loop-place-preserved
loop-place-preserved c = record {
  inside = omega (arith, c.loop-place-test.true);
  differ = one-more c.args.names.now c.loop-place.place c.index-names-place.result c.loop-place-test.true c.index-names-place.is
      c.loop-place.invariant.differ (sym c.is_among.ensures ∙ c.if-is_among.false);
}

pub returns : goal.returns
returns c = all-differ c.args.names.now c.loop-place.place c.loop-place-test.false c.loop-place.invariant.differ
