use Rattle.std.proofs.Common.{◌≡◌, ℕ, Bool, true, false, true≢false, ◌&&◌, List, [], ◌∷◌, Option, Some, None, filter, map, refl, ap, sym, subst}
use Rattle.std.specs.Cmp.Derive.{both_true}
use Rattle.std.specs.List.{All, flat_map}
use Rattle.std.specs.Option.{option_map}
use Rattle.std.proofs.lemmas.List.Elements.{All-append, All-cons, All-contains, All-filter, All-head, All-nil, All-tail, filter_passes}
use Rattle.std.proofs.lemmas.List.Sorted.{All-permutation}
use Rattle.zr_names.specs.declared.unit.Unit.{Unit}
use Rattle.zr_names.specs.declared.unit.Work.{Work}
use Rattle.zr_names.specs.declared.unit.Work.TheVariants as work
use Rattle.zr_command.specs.declared.version.SetRow.{SetRow}
use Rattle.zr_jobs.specs.declared.target.Destination.{Destination}
use Rattle.zr_rules.specs.declared.rule.RuleSpec.{RuleSpec}
use Rattle.zr_jobs.specs.declared.pair.Pair.{Pair}
use Rattle.zr_jobset.specs.Places.{place_at}
use Rattle.zr_jobset.specs.Sets.{Jobs}
use Rattle.zr_jobset.specs.Units.{fits_in, IsOfFile, IsScanned, IsWorkOf, matched, matches_in, name_of, pair_at, pair_of, prunings, replications, rules_of, takes, units_at, UnitsOf}

-- of listed paths, those that fit among those that match
all-taken : (jobs : Jobs) (number : ℕ) (paths : List (List ℕ)) → All (λ path. takes jobs number path ≡ true) (filter (fits_in jobs number) (filter (matches_in jobs number) paths))
all-taken jobs number paths =
    let some = filter (matches_in jobs number) paths in
    let fit = filter_passes (fits_in jobs number) some in
    let match = All-filter (fits_in jobs number) (λ path. matches_in jobs number path ≡ true) some (filter_passes (matches_in jobs number) paths) in
    λ k d within. both_true (match k d within) (fit k d within)

-- something of the unit of a job that replicates a path, and of that which prunes it
module _ (jobs : Jobs) (number moment : ℕ) (P : Unit → Type 0) (of-replication : (path : List ℕ) (place : Destination) → place_at jobs number ≡ Some place → takes jobs number path ≡ true → P (record { job = number; moment = moment; work = work.Replicate path })) (of-pruning : (path : List ℕ) (rule : RuleSpec) (rules : List RuleSpec) → rules_of jobs number ≡ rule ∷ rules → takes jobs number path ≡ true → P (record { job = number; moment = moment; work = work.PruneSource path })) where
  replications-all : (place : Option Destination) (path : List ℕ) → place_at jobs number ≡ place → takes jobs number path ≡ true → All P (replications place number moment path)
  replications-all None path is taken = All-nil P
  replications-all (Some place) path is taken =
      All-cons P (record { job = number; moment = moment; work = work.Replicate path }) [] (of-replication path place is taken) (All-nil P)

  prunings-all : (rules : List RuleSpec) (path : List ℕ) → rules_of jobs number ≡ rules → takes jobs number path ≡ true → All P (prunings rules number moment path)
  prunings-all [] path is taken = All-nil P
  prunings-all (rule ∷ rules) path is taken =
      All-cons P (record { job = number; moment = moment; work = work.PruneSource path }) [] (of-pruning path rule rules is taken) (All-nil P)

  at-paths : (paths : List (List ℕ)) → All (λ path. takes jobs number path ≡ true) paths → All P (flat_map (units_at jobs number moment) paths)
  at-paths [] fit = All-nil P
  at-paths (path ∷ paths) fit =
      let Taken : List ℕ → Type 0 = λ path. takes jobs number path ≡ true in
      let first = All-head Taken path paths fit in
      let replicated = replications-all (place_at jobs number) path refl first in
      let pruned = prunings-all (rules_of jobs number) path refl first in
      All-append P (units_at jobs number moment path) (flat_map (units_at jobs number moment) paths)
      (All-append P (replications (place_at jobs number) number moment path) (prunings (rules_of jobs number) number moment path) replicated pruned)
      (at-paths paths (All-tail Taken path paths fit))

-- what holds of the units that a scan may give holds of each that it gives
pub units-all : (jobs : Jobs) (number moment : ℕ) (rows : List SetRow) (units : List Unit) (P : Unit → Type 0) → UnitsOf jobs number moment rows units → ((path : List ℕ) (place : Destination) → place_at jobs number ≡ Some place → takes jobs number path ≡ true → P (record { job = number; moment = moment; work = work.Replicate path })) → ((path : List ℕ) (rule : RuleSpec) (rules : List RuleSpec) → rules_of jobs number ≡ rule ∷ rules → takes jobs number path ≡ true → P (record { job = number; moment = moment; work = work.PruneSource path })) → All P units
units-all jobs number moment rows units P scan of-replication of-pruning =
    let taken = All-permutation (λ path. takes jobs number path ≡ true) (filter (fits_in jobs number) (matched jobs number rows)) scan.paths scan.listed (all-taken jobs number (map (λ row. row.path) rows)) in
    subst (All P) (sym scan.units_are) (at-paths jobs number moment P of-replication of-pruning scan.paths taken)

fits-by : (match fits : Bool) → (match && fits) ≡ true → fits ≡ true
fits-by true fits e = e
fits-by false fits e = absurd (true≢false (sym e))

pub fits-taken : (jobs : Jobs) (number : ℕ) (path : List ℕ) → takes jobs number path ≡ true → fits_in jobs number path ≡ true
fits-taken jobs number path taken = fits-by (matches_in jobs number path) (fits_in jobs number path) taken

-- a job replicates a path on which its units can work
pub record IsReplicated (jobs : Jobs) (number : ℕ) (path : List ℕ) : Type 0 where
  pub pair : Pair
  pub pair_is : pair_of jobs number path ≡ Some pair
  pub fits : fits_in jobs number path ≡ true

-- a unit that replicates has a pair
abbrev HasPair : Jobs → ℕ → Unit → Type 0
HasPair jobs number unit = (path : List ℕ) → unit.work ≡ work.Replicate path → IsReplicated jobs number path

is-replicated : (jobs : Jobs) (number : ℕ) (path : List ℕ) (place : Destination) → place_at jobs number ≡ Some place → fits_in jobs number path ≡ true → IsReplicated jobs number path
is-replicated jobs number path place is fits = record {
  pair = pair_at (name_of jobs number) path place;
  pair_is = ap (option_map (pair_at (name_of jobs number) path)) is;
  fits = fits;
}

same-path : (path other : List ℕ) → work.Replicate path ≡ work.Replicate other → path ≡ other
same-path path other e = cc

no-pruning : (path other : List ℕ) → work.PruneSource path ≡ work.Replicate other → ⊥
no-pruning path other e = cc

scanned-pair : (jobs : Jobs) (unit : Unit) → IsScanned jobs unit → HasPair jobs unit.job unit
scanned-pair jobs unit scanned =
    let own = unit.job in
    let each = units-all jobs own unit.moment scanned.rows scanned.units (HasPair jobs own) scanned.scanned
    (λ path place is taken. λ other e. subst (IsReplicated jobs own) (same-path path other e) (is-replicated jobs own path place is (fits-taken jobs own path taken)))
    (λ path rule rules is taken. λ other e. absurd (no-pruning path other e)) in
    All-contains (HasPair jobs own) scanned.units unit each scanned.among

-- a unit of the job file that replicates has a pair, and its path fits
pub unit-pair : (jobs : Jobs) (unit : Unit) (path : List ℕ) → IsOfFile jobs unit → unit.work ≡ work.Replicate path → IsReplicated jobs unit.job path
unit-pair jobs unit path of_file is =
    let of : Work → Type 0 = λ w. IsWorkOf jobs unit w in
    scanned-pair jobs unit (subst of is of_file.work_is) path is
