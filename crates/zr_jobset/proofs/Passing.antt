-- The checks one after the other.
use Rattle.std.proofs.Common.{◌≡◌, ℕ, zero, suc, ◌+◌, ◌<◌, ◌≤◌, ◌∙◌, inl, inr, false, List, length, refl, ap, sym, subst, arith}
use Rattle.std.proofs.lemmas.Bool.{cases_order}
use Rattle.std.proofs.lemmas.Option.{slice_get_past}
use Rattle.zr_jobset.specs.declared.job.Job.{Job}
use Rattle.zr_jobset.specs.declared.checks.Check.{Check}
use Rattle.zr_jobset.specs.declared.checks.Check.TheVariants.{DuplicateName, NoListener, WrongListenerType, SameIdentity, RootsNested, SourceInRoot, RuleNotHere, MigrateTwice}
use Rattle.zr_jobset.specs.Checks.{IsAccepted, IsFirst, PassBefore, Passes, RefusedBy, fault_of, order, shows, shows_at}
use Rattle.zr_jobset.specs.Fields.{AreJobs}
use Rattle.zr_jobset.specs.Kinds.{some_passes}
use Rattle.zr_jobset.specs.Sets.{IsChecked, set_of}

abbrev check_at : ℕ → Check
check_at zero = DuplicateName
check_at (suc zero) = NoListener
check_at (suc (suc zero)) = WrongListenerType
check_at (suc (suc (suc zero))) = SameIdentity
check_at (suc (suc (suc (suc zero)))) = RootsNested
check_at (suc (suc (suc (suc (suc zero))))) = SourceInRoot
check_at (suc (suc (suc (suc (suc (suc zero)))))) = RuleNotHere
check_at other = MigrateTwice

at_order : (check : Check) → check_at (order check) ≡ check
at_order DuplicateName = refl
at_order NoListener = refl
at_order WrongListenerType = refl
at_order SameIdentity = refl
at_order RootsNested = refl
at_order SourceInRoot = refl
at_order RuleNotHere = refl
at_order MigrateTwice = refl

same_order : (a b : Check) → order a ≡ order b → a ≡ b
same_order a b same = sym (at_order a) ∙ ap check_at same ∙ at_order b

order_below : (check : Check) → order check < 8
order_below DuplicateName = omega arith
order_below NoListener = omega arith
order_below WrongListenerType = omega arith
order_below SameIdentity = omega arith
order_below RootsNested = omega arith
order_below SourceInRoot = omega arith
order_below RuleNotHere = omega arith
order_below MigrateTwice = omega arith

-- where none of the jobs before a number shows a check, and this one doesn't
pub one_more : (names : List (List ℕ)) (jobs : List Job) (check : Check) (number : ℕ) →
    ((earlier : ℕ) → earlier < number → shows names jobs check earlier ≡ false) →
    shows names jobs check number ≡ false →
    (earlier : ℕ) → earlier < number + 1 → shows names jobs check earlier ≡ false
one_more names jobs check number before here = λ earlier below.
    elim (cases_order earlier number) [
      | inl same ↦ subst (λ k. shows names jobs check k ≡ false) (sym same) here
      | inr (inl less) ↦ before earlier less
      | inr (inr more) ↦ absurd (omega (arith, below, more))
    ]

-- a check that shows at none of the jobs passes
passes : (names : List (List ℕ)) (jobs : List Job) (check : Check) →
    ((number : ℕ) → number < length jobs → shows names jobs check number ≡ false) →
    Passes names jobs check
passes names jobs check inside = λ number.
    elim (cases_order number (length jobs)) [
      | inl same ↦ past number (omega (arith, same))
      | inr (inl less) ↦ inside number less
      | inr (inr more) ↦ past number (omega (arith, more))
    ] where
      past : (number : ℕ) → length jobs ≤ number → shows names jobs check number ≡ false
      past number behind = ap (some_passes (shows_at names jobs number check)) (slice_get_past jobs number behind)

-- one check more passes
pub passed : (names : List (List ℕ)) (jobs : List Job) (check : Check) (count : ℕ) → length jobs ≤ count →
    PassBefore names jobs (order check) →
    ((number : ℕ) → number < count → shows names jobs check number ≡ false) →
    PassBefore names jobs (suc (order check))
passed names jobs check count all before here = λ other below.
    elim (cases_order (order other) (order check)) [
      | inl same ↦
          subst (Passes names jobs) (same_order check other (sym same)) (passes names jobs check (λ number less. here number (omega (arith, less, all))))
      | inr (inl less) ↦ before other less
      | inr (inr more) ↦ absurd (omega (arith, below, more))
    ]

-- all checks pass
pub all_pass : (names : List (List ℕ)) (jobs : List Job) → PassBefore names jobs 8 → IsAccepted names jobs
all_pass names jobs before = λ check. before check (order_below check)

-- the fault of the first check that shows
pub refused : (names : List (List ℕ)) (jobs : List Job) (check : Check) (number : ℕ) →
    IsFirst names jobs check number → RefusedBy names jobs (fault_of check number)
refused names jobs DuplicateName number first = first
refused names jobs NoListener number first = first
refused names jobs WrongListenerType number first = first
refused names jobs SameIdentity number first = first
refused names jobs RootsNested number first = first
refused names jobs SourceInRoot number first = first
refused names jobs RuleNotHere number first = first
refused names jobs MigrateTwice number first = first

-- a set of copies
pub made : (names copies : List (List ℕ)) (jobs items : List Job) → copies ≡ names → items ≡ jobs →
    AreJobs names jobs → IsAccepted names jobs → IsChecked (set_of copies items)
made names copies jobs items same_names same_jobs whole accepted =
    let moved : IsChecked (set_of names items) = subst (λ js. IsChecked (set_of names js)) (sym same_jobs) (record { whole = whole; accepted = accepted }) in
    subst (λ ns. IsChecked (set_of ns items)) (sym same_names) moved
