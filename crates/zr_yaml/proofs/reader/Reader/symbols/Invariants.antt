use Rattle.std.proofs.Common.{◌≡◌, vec_len, reverse}
use Rattle.zr_yaml.specs.Reading.{symbols_step}
use Rattle.zr_yaml.specs.Views.{reader_view}
use Rattle.zr_yaml.proofs.reader.Reader.symbols.Given as goal

abbrev pub invariant-loop-symbol : goal.invariant-loop-symbol
invariant-loop-symbol l =
    symbols_step (reader_view l.reader) (reverse l.symbols.items)
    ≡ symbols_step (reader_view l.fn.self) l.fn.symbols.items

abbrev pub decreases-loop-symbol : goal.decreases-loop-symbol
decreases-loop-symbol l = vec_len l.symbols
