use Rattle.std.proofs.Common.{ap, false, length, arith}
use Rattle.zr_yaml.proofs.Pieces.{from_same, pushed}
use Rattle.zr_yaml.proofs.Within.{gap_within, piece_within}
use Rattle.zr_yaml.proofs.symbols.pieces.Goals as goal

pub pieces-init : goal.pieces-init
pieces-init c =
    from_same c.args.unclosed c.args.spaced c.args.text.now c.args.symbols.now.items c.skip_gap-rest.result.now
    c.skip_gap-rest.ensures

pub pieces-smaller : goal.pieces-smaller
pieces-smaller c =
    let short = piece_within c.pieces.rest.now (c.in_ok-piece.piece, c.in_ok-piece.after.now) c.in_ok-piece.ensures in
    let gap = gap_within false c.in_ok-piece.after.now in
    omega (arith, short, gap, ap length c.skip_gap-rest-in-pieces.ensures)

pub pieces-preserved : goal.pieces-preserved
pieces-preserved c =
    pushed c.pieces.symbols.items c.pieces.unclosed c.pieces.rest.now c.args.symbols.now.items c.args.unclosed
    c.args.spaced c.args.text.now c.in_ok-piece.piece c.in_ok-piece.after.now
    c.open_after-unclosed.result c.push.new.self.items c.skip_gap-rest-in-pieces.result.now c.pieces.invariant
    c.in_ok-piece.ensures c.open_after-unclosed.ensures c.if-unclosed-eq0.false c.in_ok-push.ensures.items
    c.skip_gap-rest-in-pieces.ensures
