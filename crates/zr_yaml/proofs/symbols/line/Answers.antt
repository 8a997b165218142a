use Rattle.std.proofs.Common.{ap, length, arith}
use Rattle.std.proofs.lemmas.List.{length-drop}
use Rattle.zr_yaml.proofs.Pieces.{dashed}
use Rattle.zr_yaml.proofs.symbols.line.Goals as goal

pub line-preserved : goal.line-preserved
line-preserved c = record {
  same = dashed (length c.args.text.now) c.args.symbols.now.items c.line.symbols.items c.push.new.self.items
      c.args.text.now c.line.rest.now c.tail-rest-in-Dashed.result.now
      c.line.invariant.same c.in-Dashed.ensures c.in_ok-push-in-Dashed.ensures.items c.tail-rest-in-Dashed.ensures;
  within = let cut =
      length-drop 1 c.line.rest.now in
      omega (arith, cut, ap length c.tail-rest-in-Dashed.ensures, c.line.invariant.within);
}
