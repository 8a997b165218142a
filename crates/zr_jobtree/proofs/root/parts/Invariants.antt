use Rattle.std.proofs.Common.{◌≡◌, drop, length}
use Rattle.zr_names.specs.Tree.{items_tree}
use Rattle.zr_jobwalk.specs.Arrays.{series}
use Rattle.zr_jobwalk.specs.Faults.{InTable}
use Rattle.zr_jobwalk.specs.Values.{IsTable}
use Rattle.zr_jobwalk.proofs.Parts.{SoFar}
use Rattle.zr_jobrules.specs.Patterns.{Asked}
use Rattle.zr_jobtree.specs.Jobs.{IsNamed, NamedFault}
use Rattle.zr_jobtree.specs.Roots.{named_jobs}
use Rattle.zr_jobtree.proofs.root.parts.Given as goal

-- the jobs so far are read, and no pattern was refused
abbrev pub invariant-loop-index : goal.invariant-loop-index
invariant-loop-index g l = record {
  read : SoFar (IsTable IsNamed) (λ (asked : Asked). InTable (NamedFault asked)) (series l.array).name l.index (series l.array).items (items_tree (drop l.index l.node-items)) (named_jobs l.names.items l.jobs.items);
  as_many : length l.names.items ≡ length l.jobs.items;
  count : g.P.Patterns.refusals l.patterns ≡ g.P.Patterns.refusals l.fn.patterns;
}
