use Rattle.std.proofs.Common.{codes}
use Rattle.toml.specs.Data.{array, member, no_items, no_members}
use Rattle.zr_jobfile.proofs.push_shape.is_without_rules.Goals as goal

pub returns-else-is_next_empty : goal.returns-else-is_next_empty
returns-else-is_next_empty c = (
  λ never. cc,
  λ e. absurd (c.is_next_empty.ensures.missing c.if-is_next_empty.false (member (codes "keep_sender") (array no_items) no_members) e),
)
