use Rattle.std.proofs.Common.{rules, arith, ◌≡◌}
use Rattle.toml.specs.Data.{item, no_items}
use Rattle.toml.specs.View.{items_view}
use Rattle.zr_jobfile.proofs.Shapes.{two_values}
use Rattle.zr_jobfile.proofs.push_shape.two_items.Goals as goal
use Rattle.zr_jobfile.proofs.push_shape.two_items.Goals.{in_default-via-then-as_slice-lt2, in_default-via-else-as_slice-lt2+else-this-lt3}

pub returns-in_default-clause-missing : goal.returns-in_default-clause-missing
returns-in_default-clause-missing c = λ first second e.
    let same : items_view c.as_slice.result.now ≡ item first (item second no_items) = search rules in
    let two = two_values c.as_slice.result.now first second same in
    elim c.in_default.branch [ in_default-via-then-as_slice-lt2 w ↦ grind arith | in_default-via-else-as_slice-lt2+else-this-lt3 w ↦ grind arith ]
