use Rattle.std.proofs.Common.{◌≡◌, ◌≤◌, length}
use Rattle.zr_yaml.specs.Symbols.{line_at, with_symbols}
use Rattle.zr_yaml.proofs.symbols.line.Given as goal

abbrev pub invariant-line : goal.invariant-line
invariant-line l = record {
  same : with_symbols l.symbols.items (line_at (length l.fn.text) l.rest)
      ≡ with_symbols l.fn.symbols.items (line_at (length l.fn.text) l.fn.text);
  within : length l.rest ≤ length l.fn.text;
}

abbrev pub decreases-line : goal.decreases-line
decreases-line l = length l.rest
