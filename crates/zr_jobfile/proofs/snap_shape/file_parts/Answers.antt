use Rattle.toml.specs.View.{table_view, view}
use Rattle.zr_jobfile.proofs.Shapes.{no_file_where}
use Rattle.zr_jobfile.proofs.snap_shape.file_parts.Goals as goal

pub returns-in-Some-clause-missing : goal.returns-in-Some-clause-missing
returns-in-Some-clause-missing c =
    no_file_where c.job_parts.result (table_view c.args.tree.now) (view c.in-Some.job.now) c.in-Some.ensures.found c.job_parts.ensures.missing
