use Rattle.std.proofs.Common.{◌≡◌, ◌+◌, ◌≤◌, ℕ, suc, false, length}
use Rattle.zr_yaml.specs.Symbols.{pieces_at, pieces_from, with_symbols}
use Rattle.zr_yaml.proofs.symbols.pieces.Given as goal

abbrev pub invariant-pieces : goal.invariant-pieces
invariant-pieces l = record {
  n : ℕ;
  enough : length l.rest ≤ n;
  room : l.unclosed + length l.rest ≤ l.fn.unclosed + length l.fn.text;
  same : with_symbols l.symbols.items (pieces_from (λ o rest. pieces_at n o false rest) l.unclosed l.rest)
      ≡ with_symbols l.fn.symbols.items (pieces_at (suc (length l.fn.text)) l.fn.unclosed l.fn.spaced l.fn.text);
}

abbrev pub decreases-pieces : goal.decreases-pieces
decreases-pieces l = length l.rest
