use Rattle.std.proofs.Common.{rules, ◌≡◌}
use Rattle.toml.specs.Data.{string, table}
use Rattle.toml.specs.View.{members_view, view}
use Rattle.zr_jobfile.specs.Trees.{filter_tree}
use Rattle.zr_jobfile.proofs.Shapes.{if_none, IsNoJob, no_pruning}
use Rattle.zr_jobfile.proofs.snap_shape.job_parts.Goals as goal

pub returns-in_err-count-clause-missing : goal.returns-in_err-count-clause-missing
returns-in_err-count-clause-missing c =
    let is_table : view c.args.value.now ≡ table (members_view c.in_ok-members.members) = search rules in
    if_none c.from_residual-in_err-count.result (IsNoJob (view c.args.value.now)) (no_pruning (view c.args.value.now) (filter_tree c.in_ok-pattern.pattern.now) (string c.in_ok-name.name.now) (members_view c.in_ok-members.members) (members_view c.next_pattern.new.members) (members_view c.next_text.new.members) is_table c.in_ok-pattern.ensures.found c.in_ok-name.ensures.found c.in_err-count.ensures.missing)
