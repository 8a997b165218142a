use Rattle.std.proofs.Common.{sym}
use Rattle.zr_yaml.proofs.Pieces.{adds_keyed, behind_key}
use Rattle.zr_yaml.proofs.symbols.content.Goals as goal

pub overflow_sub-width : goal.overflow_sub-width
overflow_sub-width c =
    behind_key c.args.width c.args.text.now c.in_ok-one.one c.in_ok-one.rest.now c.tail.result.now
    c.skip_gap-text.result.now c.in_ok-one.ensures c.requires c.tail.ensures c.skip_gap-text.ensures

pub returns : goal.returns
returns c =
    adds_keyed c.args.symbols.now.items c.push-2.new.self.items c.value-2.new.symbols.items c.args.width
    c.args.text.now c.in_ok-one.one c.in_ok-one.rest.now c.tail.result.now c.skip_gap-text.result.now
    c.value-2.result
    (sym c.if-opens.ensures) c.in_ok-one.ensures (sym c.if-not-begins_value.ensures) c.in_ok-push-2.ensures.items
    c.tail.ensures c.skip_gap-text.ensures c.value-2.ensures
