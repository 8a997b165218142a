use Rattle.zr_names.proofs.Unique.{same_cursor, same_tentative, cursor_not_tentative, cursor_not_old, tentative_not_old}
use Rattle.zr_names.proofs.laws.mark_names_differ.Goals as goal

pub returns : goal.returns
returns c = record {
  cursors = same_cursor;
  tentatives = same_tentative;
  kinds = cursor_not_tentative;
  old_cursor = cursor_not_old;
  old_tentative = tentative_not_old;
}
