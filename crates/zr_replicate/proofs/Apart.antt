use Rattle.std.proofs.Common.{◌≡◌, ◌≢◌, ◌∙◌, ◌<◌, ℕ, List, ◌∷◌, Option, Some, None, arith, ap, length, length-append, sym}
use Rattle.zr_jobs.specs.declared.target.Destination.{Destination}
use Rattle.zr_jobs.specs.declared.target.Destination.TheVariants.{Pull, Push}
use Rattle.zr_jobs.specs.Targets.{joined, target_text}
use Rattle.zr_jobs.specs.declared.pair.Pair.{Pair}
use Rattle.std.specs.Option.{option_map}
use Rattle.zr_replicate.specs.Progress.{AtWork, Progress}
use Rattle.zr_jobset.specs.Places.{place_at}
use Rattle.zr_jobset.specs.Sets.{Jobs}
use Rattle.zr_jobset.specs.Units.{name_of, pair_at, pair_of}

longer : (path rest : List ℕ) → length rest < length (joined path rest)
longer path rest = omega (arith, length-append path (47 ∷ rest))

target-longer : (place : Destination) (source : List ℕ) → length source < length (target_text place source)
target-longer (Push root identity) source = omega (arith, longer identity source, longer root (joined identity source))
target-longer (Pull root) source = longer root source

-- a target is another dataset than its source
pub apart : (jobs : Jobs) (number : ℕ) (source : List ℕ) (pair : Pair) → pair_of jobs number source ≡ Some pair → pair.target ≢ pair.source
apart jobs number source pair is same = by (place_at jobs number) is where
  by : (place : Option Destination) → option_map (pair_at (name_of jobs number) source) place ≡ Some pair → ⊥
  by None e = cc
  by (Some place) e =
      let it : pair_at (name_of jobs number) source place ≡ pair = cc in
      let target : target_text place source ≡ pair.target = ap (λ (p : Pair). p.target) it in
      let own : source ≡ pair.source = ap (λ (p : Pair). p.source) it in
      omega (arith, target-longer place source, ap length (target ∙ same ∙ sym own))

-- so it is for a unit at work
pub apart-at-work : (pair : Pair) (now : Progress) → AtWork pair now → pair.target ≢ pair.source
apart-at-work pair now at = apart now.unit.jobs now.unit.unit.job pair.source pair at.pair_is
