use Rattle.std.proofs.Common.{◌∙◌}
use Rattle.zr_names.specs.Tree.{tree}
use Rattle.zr_yaml.proofs.KeySets.{keys_more}
use Rattle.zr_yaml.proofs.keyed.Keyed.with.Goals as goal

pub invariant_of-result : goal.invariant_of-result
invariant_of-result c = record {
  same = keys_more c.args.self.pairs.items c.push.new.self.items c.args.self.keys c.insert.new.self c.new.result
      c.args.key c.in_ok-copy.copy (tree c.args.node) c.args.self.same c.in_ok-insert.ensures.updates
      (c.in_ok-copy.ensures ∙ c.as_bytes.ensures) c.new.ensures c.in_ok-push.ensures.items;
}
