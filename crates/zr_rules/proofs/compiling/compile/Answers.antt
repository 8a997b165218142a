use Rattle.std.proofs.Common.{rules}
use Rattle.zr_rules.specs.Specs.{IsReadable}
use Rattle.zr_rules.specs.Rules.{spec_of}
use Rattle.zr_rules.proofs.Taken.{All-more, map-more}
use Rattle.zr_rules.proofs.compiling.compile.Goals as goal

pub loop-place-preserved : goal.loop-place-preserved
loop-place-preserved g c = record {
  specs = map-more spec_of c.loop-place.rules.items c.push.new.self.items c.in-Ok.rule c.args.specs.now c.loop-place.place c.index-specs-place.result c.loop-place-test.true c.index-specs-place.is c.loop-place.invariant.specs c.in-Ok.ensures.rule (search rules);
  readable = All-more IsReadable c.args.specs.now c.loop-place.place c.index-specs-place.result c.loop-place-test.true c.index-specs-place.is c.loop-place.invariant.readable c.in-Ok.ensures.readable;
  count = search rules;
  last = search rules;
}
