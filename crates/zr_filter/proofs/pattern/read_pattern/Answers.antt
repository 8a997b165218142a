use Rattle.std.proofs.Common.{rules}
use Rattle.zr_filter.proofs.Stems.{stem-mark}
use Rattle.zr_filter.proofs.pattern.read_pattern.Goals as goal

pub returns : goal.returns
returns c =
    let whole = stem-mark c.args.text.now in
    search rules
