use Rattle.std.proofs.Common.{arith, zero, suc, Bor, cond, ◌≡◌, ◌⊎◌, inl, inr, ℕ, ◌<◌, ◌≤◌, get_or, Bool, true, false, true≢false, ◌&&◌, Decides, List, [], ◌∷◌, Option, Some, None, is_some, length, nat_lt, slice_get, Contains, filter, refl, ap, sym, subst, ◌∙◌}
use Rattle.std.specs.Cmp.Derive.{both_true}
use Rattle.std.specs.Cmp.Lexicographic.{slice_cmp}
use Rattle.std.specs.List.{flat_map}
use Rattle.std.specs.List.Sorted.{IsPermutation, IsSorted}
use Rattle.std.specs.Ordering.{nat_cmp}
use Rattle.std.proofs.lemmas.List.Elements.{All-contains, All-contains_itself, All-head, Contains-append_left, Contains-append_right}
use Rattle.std.proofs.lemmas.Bool.Decides.{Decides-at, Decides-ltb}
use Rattle.std.proofs.lemmas.Option.{slice_get_cases, slice_get_within}
use Rattle.std.proofs.lemmas.List.Sorted.{IsPermutation-refl}
use Rattle.std.specs.Option.{option_and_then, option_map}
use Rattle.zr_names.specs.declared.unit.Unit.{Unit}
use Rattle.zr_names.specs.declared.unit.Work.{Work}
use Rattle.zr_names.specs.declared.unit.Work.TheVariants as work
use Rattle.zr_command.specs.declared.version.SetRow.{SetRow}
use Rattle.zr_jobs.specs.declared.target.Destination.{Destination}
use Rattle.zr_jobset.specs.declared.job.Job.{Job}
use Rattle.zr_rules.specs.declared.rule.RuleSpec.{RuleSpec}
use Rattle.zr_jobset.specs.Places.{place_at, place_of}
use Rattle.zr_jobset.specs.Sets.{IsChecked, Jobs, job_at}
use Rattle.zr_jobset.specs.Units.{fits_in, gives, IsOfFile, is_scanned, IsScanned, IsWorkOf, matched, matches_in, name_of, pair_at, pair_of, prunings, replications, rules_of, takes, units_at, UnitsOf}
use Rattle.zr_jobset.proofs.Pairs.{units-all}

left : (a b : Bool) → (a && b) ≡ true → a ≡ true
left true b e = refl
left false b e = absurd (true≢false (sym e))

right : (a b : Bool) → (a && b) ≡ true → b ≡ true
right true b e = e
right false b e = absurd (true≢false (sym e))

one-passes : (test : List ℕ → Bool) (path : List ℕ) → test path ≡ true → filter test (path ∷ []) ≡ path ∷ []
one-passes test path e = ap (λ b. cond b (path ∷ []) []) e

one-sorted : (path : List ℕ) → IsSorted (slice_cmp nat_cmp) (path ∷ [])
one-sorted path k d low inside = absurd (omega arith)

-- a listing with this path alone
abbrev row : List ℕ → SetRow
row path = record { path = path; placeholder = false; token = None }

-- what a scan gives over it
module _ (jobs : Jobs) (number moment : ℕ) (path : List ℕ) where
  alone : takes jobs number path ≡ true → UnitsOf jobs number moment (row path ∷ []) (flat_map (units_at jobs number moment) (path ∷ []))
  alone taken =
      let match = left (matches_in jobs number path) (fits_in jobs number path) taken in
      let fit = right (matches_in jobs number path) (fits_in jobs number path) taken in
      let listed : filter (fits_in jobs number) (matched jobs number (row path ∷ [])) ≡ path ∷ [] =
      ap (filter (fits_in jobs number)) (one-passes (matches_in jobs number) path match) ∙ one-passes (fits_in jobs number) path fit in
      record {
        paths = path ∷ [];
        listed = subst (λ paths. IsPermutation paths (path ∷ [])) (sym listed) (IsPermutation-refl (path ∷ []));
        rising = one-sorted path;
        units_are = refl;
      }

head-of : (unit : Unit) → Contains (unit ∷ []) unit
head-of unit = All-head (Contains (unit ∷ [])) unit [] (All-contains_itself (unit ∷ []))

replicates : (place : Option Destination) (number moment : ℕ) (path : List ℕ) → is_some place ≡ true → Contains (replications place number moment path) (record { job = number; moment = moment; work = work.Replicate path })
replicates None number moment path e = absurd (true≢false (sym e))
replicates (Some place) number moment path e = head-of (record { job = number; moment = moment; work = work.Replicate path })

prunes : (rules : List RuleSpec) (number moment : ℕ) (path : List ℕ) → nat_lt 0 (length rules) ≡ true → Contains (prunings rules number moment path) (record { job = number; moment = moment; work = work.PruneSource path })
prunes [] number moment path e = absurd (true≢false (sym e))
prunes (rule ∷ rules) number moment path e = head-of (record { job = number; moment = moment; work = work.PruneSource path })

-- a unit among those of its path is one of the scan of a listing with this path alone
scanned-alone : (jobs : Jobs) (unit : Unit) (given : Work) (path : List ℕ) → unit.work ≡ given → takes jobs unit.job path ≡ true → Contains (units_at jobs unit.job unit.moment path) (record { job = unit.job; moment = unit.moment; work = given }) → IsScanned jobs unit
scanned-alone jobs unit given path is taken among =
    let units = units_at jobs unit.job unit.moment in
    let with_work : Work → Unit = λ w. record { job = unit.job; moment = unit.moment; work = w } in
    let same : unit ≡ with_work given = ap with_work is in
    record {
      rows = row path ∷ [];
      units = flat_map units (path ∷ []);
      scanned = alone jobs unit.job unit.moment path taken;
      among = subst (Contains (flat_map units (path ∷ []))) (sym same) (Contains-append_left (units path) [] (with_work given) among);
    }

scanned-by : (jobs : Jobs) (unit : Unit) (given : Work) → unit.work ≡ given → gives jobs unit.job given ≡ true → IsWorkOf jobs unit given
scanned-by jobs unit work.Scan is e = tt
scanned-by jobs unit (work.Replicate path) is e =
    let own = unit.job in
    let taken = left (takes jobs own path) (is_some (place_at jobs own)) e in
    let first = replicates (place_at jobs own) unit.job unit.moment path (right (takes jobs own path) (is_some (place_at jobs own)) e) in
    scanned-alone jobs unit (work.Replicate path) path is taken
    (Contains-append_left (replications (place_at jobs own) unit.job unit.moment path) (prunings (rules_of jobs own) unit.job unit.moment path)
    (record { job = unit.job; moment = unit.moment; work = work.Replicate path }) first)
scanned-by jobs unit (work.PruneSource path) is e =
    let own = unit.job in
    let ruled = nat_lt 0 (length (rules_of jobs own)) in
    let taken = left (takes jobs own path) ruled e in
    let last = prunes (rules_of jobs own) unit.job unit.moment path (right (takes jobs own path) ruled e) in
    scanned-alone jobs unit (work.PruneSource path) path is taken
    (Contains-append_right (replications (place_at jobs own) unit.job unit.moment path) (prunings (rules_of jobs own) unit.job unit.moment path)
    (record { job = unit.job; moment = unit.moment; work = work.PruneSource path }) last)
scanned-by jobs unit work.Parents is e = absurd (true≢false (sym e))
scanned-by jobs unit (work.Snap path prefix) is e = absurd (true≢false (sym e))
scanned-by jobs unit (work.PruneTarget path) is e = absurd (true≢false (sym e))

some-rules : (rule : RuleSpec) (rules : List RuleSpec) → nat_lt 0 (length (rule ∷ rules)) ≡ true
some-rules rule rules = (Decides-ltb 0 (length (rule ∷ rules))).1 (omega arith)

given-by-scan : (jobs : Jobs) (unit : Unit) → IsScanned jobs unit → gives jobs unit.job unit.work ≡ true
given-by-scan jobs unit scanned =
    let own = unit.job in
    let Given : Unit → Type 0 = λ u. gives jobs own u.work ≡ true in
    let each = units-all jobs unit.job unit.moment scanned.rows scanned.units Given scanned.scanned
    (λ path place is taken. both_true taken (ap is_some is))
    (λ path rule rules is taken. both_true taken (ap (λ (rules : List RuleSpec). nat_lt 0 (length rules)) is ∙ some-rules rule rules)) in
    All-contains Given scanned.units unit each scanned.among

given-by : (jobs : Jobs) (unit : Unit) (given : Work) → unit.work ≡ given → IsWorkOf jobs unit given → gives jobs unit.job unit.work ≡ true
given-by jobs unit work.Scan is of = ap (gives jobs unit.job) is
given-by jobs unit (work.Replicate path) is of = given-by-scan jobs unit of
given-by jobs unit (work.PruneSource path) is of = given-by-scan jobs unit of
given-by jobs unit work.Parents is of = given-by-scan jobs unit of
given-by jobs unit (work.Snap path prefix) is of = given-by-scan jobs unit of
given-by jobs unit (work.PruneTarget path) is of = given-by-scan jobs unit of

-- a unit of a job that is scanned is one of the job file exactly where a scan gives its work
pub unit-decided : (jobs : Jobs) (unit : Unit) → is_scanned jobs unit.job ≡ true → Decides (gives jobs unit.job unit.work) (IsOfFile jobs unit)
unit-decided jobs unit there = (
  λ e. record { of_job = there; work_is = scanned-by jobs unit unit.work refl e },
  λ of. given-by jobs unit unit.work refl of.work_is,
)

-- the same over what the tests answered
pub unit-answer : (jobs : Jobs) (unit : Unit) (there given : Bool) → there ≡ is_scanned jobs unit.job → there ≡ true → given ≡ gives jobs unit.job unit.work → Decides given (IsOfFile jobs unit)
unit-answer jobs unit there given is answered given_is =
    Decides-at given (gives jobs unit.job unit.work) given_is (unit-decided jobs unit (sym is ∙ answered))

-- and no unit of another job is
pub unit-answer-none : (jobs : Jobs) (unit : Unit) (there : Bool) → there ≡ is_scanned jobs unit.job → there ≡ false → Decides there (IsOfFile jobs unit)
unit-answer-none jobs unit there is answered =
    (λ e. absurd (true≢false (sym e ∙ answered)), λ of. absurd (true≢false (sym of.of_job ∙ sym is ∙ answered)))

-- of two lists of one length both have something at a number, or neither
same-there : {X Y : Type 0} (xs : List X) (ys : List Y) (number : ℕ) → length xs ≡ length ys → is_some (slice_get xs number) ≡ is_some (slice_get ys number)
same-there [] [] number e = refl
same-there [] (y ∷ ys) number e = cc
same-there (x ∷ xs) [] number e = cc
same-there (x ∷ xs) (y ∷ ys) zero e = refl
same-there (x ∷ xs) (y ∷ ys) (suc number) e = same-there xs ys number (let tail : length xs ≡ length ys = cc in tail)

-- each job has a name, and no other number has
pub named-there : (jobs : Jobs) (number : ℕ) → IsChecked jobs → is_some (slice_get jobs.names number) ≡ is_some (job_at jobs number)
named-there jobs number checked = same-there jobs.names jobs.jobs number checked.whole.named

none-of : {X : Type 0} (o : Option X) → is_some o ≡ false → o ≡ None
none-of None e = refl
none-of (Some x) e = cc

-- a job that is not there replicates nothing
pub nameless-pair : (jobs : Jobs) (number : ℕ) (source : List ℕ) → is_some (job_at jobs number) ≡ false → None ≡ pair_of jobs number source
nameless-pair jobs number source none =
    sym (ap (λ job. option_map (pair_at (name_of jobs number) source) (option_and_then (place_of jobs.jobs) job)) (none-of (job_at jobs number) none))
