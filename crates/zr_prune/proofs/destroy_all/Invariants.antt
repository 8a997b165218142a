use Rattle.std.proofs.Common.{◌≡◌, false}
use Rattle.std.specs.List.{sum_by}
use Rattle.std.specs.Slice.Iter.{chunks_rest, chunks_size}
use Rattle.zr_permit.specs.Result.{capped, done_names, failed_names}
use Rattle.zr_permit.specs.Sight.{Follows, sight, Went}
use Rattle.zr_permit.specs.Transcript.{Turn}
use Rattle.zr_prune.proofs.Steps.{HasGiven}
use Rattle.zr_prune.proofs.destroy_all.Given as goal

-- the groups before the rest were given for destruction, and their names counted
abbrev pub invariant-loop-group : goal.invariant-loop-group
invariant-loop-group g l = record {
  can_next : (goal.iterator-loop-group g).can_next l.group-iterator;
  is_finite : (goal.iterator-loop-group g).is_finite l.group-iterator;
  size : chunks_size l.group-iterator ≡ 64;
  went : Went (sight g.Z.Zfs l.fn.unit) (sight g.Z.Zfs l.unit);
  memory : (sight g.Z.Zfs l.unit).out_of_memory ≡ false;
  given : HasGiven (sight g.Z.Zfs l.unit) l.path l.names (chunks_rest l.group-iterator);
  destroyed : l.destroyed ≡ capped (sum_by (λ (t : Turn). done_names t.0 t.1) (sight g.Z.Zfs l.unit).turns);
  busy : l.busy ≡ capped (sum_by (λ (t : Turn). failed_names t.0 t.1) (sight g.Z.Zfs l.unit).turns);
  follows : Follows (sight g.Z.Zfs l.fn.unit) (sight g.Z.Zfs l.unit);
  same_runner : l.unit.runner.ghost_name ≡ l.fn.unit.runner.ghost_name;
}
