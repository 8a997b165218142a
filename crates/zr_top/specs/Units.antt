use Rattle.std.specs.Prelude.{⊤}
use Rattle.zr_names.specs.declared.unit.Unit.{Unit}
use Rattle.zr_names.specs.declared.unit.Work.{Work}
use Rattle.zr_names.specs.declared.unit.Work.TheVariants as work
use Rattle.zr_jobset.specs.Sets.{Jobs}
use Rattle.zr_jobset.specs.Units.{IsOfFile}

-- the work that scans give: a dataset is replicated, or pruned at its source
abbrev pub IsDueWork : Work → Type 0
IsDueWork (work.Replicate path) = ⊤
IsDueWork (work.PruneSource path) = ⊤
IsDueWork other = ⊥

-- a unit of the job file that a scan gives
pub record IsDueUnit (jobs : Jobs) (unit : Unit) : Type 0 where
  pub of_file : IsOfFile jobs unit
  pub work_is : IsDueWork unit.work
