use Rattle.std.proofs.Common.{◌≡◌, ◌∙◌, ℕ, Bool, true, false, ◌||◌, List, [], ◌∷◌, Option, Some, None, inl, inr, lit<, refl, subst, sym}
use Rattle.std.specs.List.{All, Contains}
use Rattle.std.proofs.lemmas.List.Elements.{All-cons, All-head, All-nil, All-tail}
use Rattle.zr_names.specs.declared.outcome.Outcome.{Outcome}
use Rattle.zr_names.specs.declared.outcome.Outcome.TheVariants as outcome
use Rattle.zr_jobset.specs.Sets.{Jobs}
use Rattle.zr_permit.specs.Result.{is_child_fault, is_out_of_memory}
use Rattle.zr_permit.specs.Transcript.{Transcript}
use Rattle.zr_permit.proofs.Honest.{legal-honest}
use Rattle.zr_top.specs.declared.status.Status.{Status}
use Rattle.zr_top.specs.declared.status.Status.TheVariants as status
use Rattle.zr_top.specs.Attempts.{Attempt, EndsWell, IsGood}
use Rattle.zr_top.specs.Outcomes.{AllFinished, AllHonest, Destroys, FinishedOr, is_fault_or_garbled, is_finished, Means}
use Rattle.zr_top.specs.Status.{code_of, is_conflict_or_too_long, is_garbled, Printed, some_ended, status_of_runs}
use Rattle.zr_top.proofs.Ending.{first_of}

destroys : (jobs : Jobs) (attempt : Attempt) → IsGood jobs attempt → Destroys jobs attempt.unit attempt.begun
destroys jobs attempt good = choose attempt.begun good.ends_well where
  choose : (begun : Option (ℕ × Transcript)) → EndsWell jobs attempt.unit attempt.ended begun → Destroys jobs attempt.unit begun
  choose None ends = tt
  choose (Some begun) ends = legal-honest jobs attempt.unit begun.1 ends.0

abbrev Honest_in : Jobs → Attempt → Type 0
Honest_in jobs a = Destroys jobs a.unit a.begun

pub all-honest : (jobs : Jobs) (attempts : List Attempt) → All (IsGood jobs) attempts → AllHonest jobs attempts
all-honest jobs [] good = All-nil (Honest_in jobs)
all-honest jobs (a ∷ attempts) good =
    All-cons (Honest_in jobs) a attempts (destroys jobs a (All-head (IsGood jobs) a attempts good)) (all-honest jobs attempts (All-tail (IsGood jobs) a attempts good))

neither : (x y : Bool) → (x || y) ≡ false → (x ≡ false) × (y ≡ false)
neither true y e = cc
neither false y e = (refl, e)

finished-outcome : (ended : Outcome) → is_out_of_memory ended ≡ false → is_garbled ended ≡ false → is_child_fault ended ≡ false → is_finished ended ≡ true
finished-outcome (outcome.ChildFault at) memory garbled fault = cc
finished-outcome (outcome.Garbled at line) memory garbled fault = cc
finished-outcome outcome.NoMemory memory garbled fault = cc
finished-outcome other memory garbled fault = refl

abbrev Finished_in : Attempt → Type 0
Finished_in a = is_finished a.ended ≡ true

-- where no unit failed, each has finished
all-finished : (attempts : List Attempt) → some_ended is_out_of_memory attempts ≡ false → some_ended is_garbled attempts ≡ false → some_ended is_child_fault attempts ≡ false → AllFinished attempts
all-finished [] memory garbled fault = All-nil Finished_in
all-finished (a ∷ attempts) memory garbled fault =
    let m = neither (is_out_of_memory a.ended) (some_ended is_out_of_memory attempts) memory in
    let g = neither (is_garbled a.ended) (some_ended is_garbled attempts) garbled in
    let f = neither (is_child_fault a.ended) (some_ended is_child_fault attempts) fault in
    All-cons Finished_in a attempts (finished-outcome a.ended m.0 g.0 f.0) (all-finished attempts m.1 g.1 f.1)

-- the unit has finished, or one of these ended it
finished-or-fault : (ended : Outcome) → is_out_of_memory ended ≡ false → is_garbled ended ≡ false → is_finished ended || is_child_fault ended ≡ true
finished-or-fault (outcome.ChildFault at) memory garbled = refl
finished-or-fault (outcome.Garbled at line) memory garbled = cc
finished-or-fault outcome.NoMemory memory garbled = cc
finished-or-fault other memory garbled = refl

finished-or-garbled : (ended : Outcome) → is_out_of_memory ended ≡ false → is_finished ended || is_fault_or_garbled ended ≡ true
finished-or-garbled (outcome.ChildFault at) memory = refl
finished-or-garbled (outcome.Garbled at line) memory = refl
finished-or-garbled outcome.NoMemory memory = cc
finished-or-garbled other memory = refl

abbrev Or_in : (Outcome → Bool) → Attempt → Type 0
Or_in so a = is_finished a.ended || so a.ended ≡ true

all-or-fault : (attempts : List Attempt) → some_ended is_out_of_memory attempts ≡ false → some_ended is_garbled attempts ≡ false → FinishedOr is_child_fault attempts
all-or-fault [] memory garbled = All-nil (Or_in is_child_fault)
all-or-fault (a ∷ attempts) memory garbled =
    let m = neither (is_out_of_memory a.ended) (some_ended is_out_of_memory attempts) memory in
    let g = neither (is_garbled a.ended) (some_ended is_garbled attempts) garbled in
    All-cons (Or_in is_child_fault) a attempts (finished-or-fault a.ended m.0 g.0) (all-or-fault attempts m.1 g.1)

all-or-garbled : (attempts : List Attempt) → some_ended is_out_of_memory attempts ≡ false → FinishedOr is_fault_or_garbled attempts
all-or-garbled [] memory = All-nil (Or_in is_fault_or_garbled)
all-or-garbled (a ∷ attempts) memory =
    let m = neither (is_out_of_memory a.ended) (some_ended is_out_of_memory attempts) memory in
    All-cons (Or_in is_fault_or_garbled) a attempts (finished-or-garbled a.ended m.0) (all-or-garbled attempts m.1)

means-first : (attempts : List Attempt) (memory garbled fault conflict : Bool) → some_ended is_out_of_memory attempts ≡ memory → some_ended is_garbled attempts ≡ garbled → some_ended is_child_fault attempts ≡ fault → some_ended is_conflict_or_too_long attempts ≡ conflict → Means (first_of memory garbled fault conflict) attempts
means-first attempts true garbled fault conflict m g f c = tt
means-first attempts false true fault conflict m g f c = (all-or-garbled attempts m, g)
means-first attempts false false true conflict m g f c = (all-or-fault attempts m g, f)
means-first attempts false false false true m g f c = (all-finished attempts m g f, c)
means-first attempts false false false false m g f c = (all-finished attempts m g f, c)

-- a status says of the units what it means
pub means : (attempts : List Attempt) (given : Status) → Printed (status_of_runs attempts) given → Means given attempts
means attempts given (inl is) =
    let Says : Status → Type 0 = λ s. Means s attempts in
    subst Says (sym is) (means-first attempts _ _ _ _ refl refl refl refl)
means attempts given (inr (inl is)) =
    let Says : Status → Type 0 = λ s. Means s attempts in
    subst Says (sym is) tt
means attempts given (inr (inr is)) =
    let Says : Status → Type 0 = λ s. Means s attempts in
    subst Says (sym is) tt

-- no fault of a file, of the output or of a child gave the status
pub record Sound (given : Status) : Type 0 where
  pub no_usage : given ≡ status.Usage → ⊥
  pub accepted : given ≡ status.JobFile → ⊥
  pub readable : given ≡ status.Unreadable → ⊥
  pub writable : given ≡ status.Unwritable → ⊥
  pub no_fault : given ≡ status.ChildFault → ⊥

abbrev pub SoundCodes : Status → Type 0
SoundCodes given = Contains (0 ∷ 4 ∷ 6 ∷ 9 ∷ []) (code_of given)

-- completeness: where there was no fault, the status says that all that was due was done, or memory was wanting
pub sound-codes : (given : Status) → Sound given → SoundCodes given
sound-codes status.Clean sound = (0, lit< tt, refl)
sound-codes status.Conflict sound = (1, lit< tt, refl)
sound-codes status.Garbled sound = (2, lit< tt, refl)
sound-codes status.OutOfMemory sound = (3, lit< tt, refl)
sound-codes status.Usage sound = absurd (sound.no_usage refl)
sound-codes status.JobFile sound = absurd (sound.accepted refl)
sound-codes status.Unreadable sound = absurd (sound.readable refl)
sound-codes status.Unwritable sound = absurd (sound.writable refl)
sound-codes status.ChildFault sound = absurd (sound.no_fault refl)

pub fault-code : (given : Status) → code_of given ≡ 5 → given ≡ status.ChildFault
fault-code status.Clean e = cc
fault-code status.Usage e = cc
fault-code status.JobFile e = cc
fault-code status.Conflict e = cc
fault-code status.ChildFault e = refl
fault-code status.Garbled e = cc
fault-code status.Unreadable e = cc
fault-code status.Unwritable e = cc
fault-code status.OutOfMemory e = cc

pub unread-code : (given : Status) → code_of given ≡ 7 → given ≡ status.Unreadable
unread-code status.Clean e = cc
unread-code status.Usage e = cc
unread-code status.JobFile e = cc
unread-code status.Conflict e = cc
unread-code status.ChildFault e = cc
unread-code status.Garbled e = cc
unread-code status.Unreadable e = refl
unread-code status.Unwritable e = cc
unread-code status.OutOfMemory e = cc

pub usage-code : (given : Status) → code_of given ≡ 2 → given ≡ status.Usage
usage-code status.Clean e = cc
usage-code status.Usage e = refl
usage-code status.JobFile e = cc
usage-code status.Conflict e = cc
usage-code status.ChildFault e = cc
usage-code status.Garbled e = cc
usage-code status.Unreadable e = cc
usage-code status.Unwritable e = cc
usage-code status.OutOfMemory e = cc

pub unwritable-code : (given : Status) → code_of given ≡ 8 → given ≡ status.Unwritable
unwritable-code status.Clean e = cc
unwritable-code status.Usage e = cc
unwritable-code status.JobFile e = cc
unwritable-code status.Conflict e = cc
unwritable-code status.ChildFault e = cc
unwritable-code status.Garbled e = cc
unwritable-code status.Unreadable e = cc
unwritable-code status.Unwritable e = refl
unwritable-code status.OutOfMemory e = cc

-- where the usage was to be printed, no child failed and no file was read
pub usage-caused : (given : Status) → Printed status.Usage given → (code_of given ≡ 5 → ⊥) × (code_of given ≡ 7 → ⊥)
usage-caused status.Usage printed = ((λ e. cc), λ e. cc)
usage-caused status.Unwritable printed = ((λ e. cc), λ e. cc)
usage-caused status.OutOfMemory printed = ((λ e. cc), λ e. cc)
usage-caused status.Clean (inl is) = cc
usage-caused status.Clean (inr (inl is)) = cc
usage-caused status.Clean (inr (inr is)) = cc
usage-caused status.JobFile (inl is) = cc
usage-caused status.JobFile (inr (inl is)) = cc
usage-caused status.JobFile (inr (inr is)) = cc
usage-caused status.Conflict (inl is) = cc
usage-caused status.Conflict (inr (inl is)) = cc
usage-caused status.Conflict (inr (inr is)) = cc
usage-caused status.ChildFault (inl is) = cc
usage-caused status.ChildFault (inr (inl is)) = cc
usage-caused status.ChildFault (inr (inr is)) = cc
usage-caused status.Garbled (inl is) = cc
usage-caused status.Garbled (inr (inl is)) = cc
usage-caused status.Garbled (inr (inr is)) = cc
usage-caused status.Unreadable (inl is) = cc
usage-caused status.Unreadable (inr (inl is)) = cc
usage-caused status.Unreadable (inr (inr is)) = cc

-- words that are no command name no file
pub no-command : (named : Option (List ℕ)) (file : List ℕ) → named ≡ None → named ≡ Some file → ⊥
no-command named file none some = let both : None ≡ Some file = sym none ∙ some in cc
