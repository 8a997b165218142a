use Rattle.std.proofs.Common.{◌∙◌, ◌∷◌, ◌+◌, ap, sym, take}
use Rattle.zr_yaml.specs.Lines.{lines_of}
use Rattle.zr_yaml.proofs.Bounds.{rest_of}
use Rattle.zr_yaml.proofs.Cutting.{cut_line, only_line}
use Rattle.zr_yaml.proofs.lines.first_line.Goals as goal

pub returns-then-size-text-clause-lines : goal.returns-then-size-text-clause-lines
returns-then-size-text-clause-lines c =
    let n = c.first_length-size.result in
    let text = c.args.text.now in
    cut_line text n c.first_length-size.ensures c.if-size-text.true
    ∙ ap (λ rest. take n text ∷ lines_of rest) (sym (rest_of (n + 1) text))

pub returns-else-size-text-clause-lines : goal.returns-else-size-text-clause-lines
returns-else-size-text-clause-lines c =
    only_line c.args.text.now c.first_length-size.result c.first_length-size.ensures c.if-size-text.false c.requires
