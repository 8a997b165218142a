use Rattle.std.proofs.Common.{◌≡◌, ◌≢◌, true}
use Rattle.zr_command.specs.Listings.{stands_before}
use Rattle.zr_world.specs.declared.pools.Version.{Version}
use Rattle.zr_model.proofs.Pairs.{PairsBelow}
use Rattle.zr_model.proofs.formed.are_versions.Given as goal

-- each version so far may precede all that follow
abbrev pub invariant-loop-place : goal.invariant-loop-place
invariant-loop-place l = record {
  in_order : PairsBelow (λ (a : Version) (b : Version). stands_before a.txg a.name b.txg b.name ≡ true) l.versions l.place;
  names_differ : PairsBelow (λ (a : Version) (b : Version). a.name ≢ b.name) l.versions l.place;
}
