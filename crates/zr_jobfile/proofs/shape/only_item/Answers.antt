use Rattle.std.proofs.Common.{rules, ◌≡◌}
use Rattle.zr_jobfile.proofs.Shapes.{one_item}
use Rattle.toml.specs.Data.{item, no_items}
use Rattle.toml.specs.View.{items_view}
use Rattle.zr_jobfile.proofs.shape.only_item.Goals as goal

pub returns-else-len-eq1-clause-missing : goal.returns-else-len-eq1-clause-missing
returns-else-len-eq1-clause-missing c = λ inner e.
    let same : items_view c.in_ok-items.items.now.items ≡ item inner no_items = search rules in
    let one = one_item c.in_ok-items.items.now.items inner same in
    search rules
