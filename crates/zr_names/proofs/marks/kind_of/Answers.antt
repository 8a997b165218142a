use Rattle.std.proofs.lemmas.Slice.Eq.{bytes_eq-Decides}
use Rattle.zr_names.specs.Marks.{old_cursor_text}
use Rattle.zr_names.proofs.marks.kind_of.Goals as goal

pub returns-else-eq-clause-spelled : goal.returns-else-eq-clause-spelled
returns-else-eq-clause-spelled c = record {
  no_cursor = c.in_default.ensures;
  no_tentative = c.in_default-guid_after.ensures;
  not_old = λ same. let equal = (bytes_eq-Decides c.args.name.now old_cursor_text).1 same in let apart = c.if-eq.ensures in cc;
}
