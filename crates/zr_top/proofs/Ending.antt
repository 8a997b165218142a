use Rattle.std.proofs.lemmas.Bool.{lt-ltb, ltb-true}
use Rattle.std.proofs.Common.{◌≡◌, ◌∙◌, ◌<◌, ℕ, zero, suc, Bool, true, false, ◌||◌, List, [], ◌∷◌, ap, arith, refl, sym, subst}
use Rattle.std.specs.Prelude.{if◌then◌else◌, nat_lt}
use Rattle.zr_names.specs.declared.outcome.Outcome.{Outcome}
use Rattle.zr_names.specs.declared.outcome.Outcome.TheVariants as outcome
use Rattle.zr_names.specs.declared.totals.Totals.{Totals}
use Rattle.zr_names.specs.Totals.{plus}
use Rattle.zr_permit.specs.Result.{is_child_fault, is_out_of_memory}
use Rattle.zr_top.specs.declared.status.Status.{Status}
use Rattle.zr_top.specs.declared.status.Status.TheVariants as status
use Rattle.zr_top.specs.Attempts.{Attempt, no_totals, tallied, tallied_all, totals_of}
use Rattle.zr_top.specs.Status.{is_conflict_or_too_long, is_garbled, Printed, some_ended, status_of, status_of_runs}

-- a total is above 0 after some units where it was so before or some unit raised it
abbrev Shows : (Totals → Bool) → (Outcome → Bool) → Type 0
Shows shown so = (ended : Outcome) (t : Totals) → shown (tallied ended t) ≡ shown t || so ended

shows-all : (shown : Totals → Bool) (so : Outcome → Bool) → Shows shown so → (attempts : List Attempt) (t : Totals) → shown (tallied_all attempts t) ≡ shown t || some_ended so attempts
shows-all shown so shows [] t = choose (shown t) where
  choose : (b : Bool) → b ≡ b || false
  choose true = refl
  choose false = refl
shows-all shown so shows (a ∷ attempts) t =
    shows-all shown so shows attempts (tallied a.ended t)
    ∙ ap (λ b. b || some_ended so attempts) (shows a.ended t)
    ∙ choose (shown t) (so a.ended) (some_ended so attempts) where
      choose : (a b c : Bool) → (a || b) || c ≡ a || (b || c)
      choose true b c = refl
      choose false b c = refl

-- a total with so many more is above 0 where one of the two is
plus-shows : (total more : ℕ) → nat_lt 0 (plus total more) ≡ nat_lt 0 total || nat_lt 0 more
plus-shows zero zero = refl
plus-shows zero (suc more) = lt-ltb 0 (plus zero (suc more)) (omega arith) ∙ sym (lt-ltb 0 (suc more) (omega arith))
plus-shows (suc total) more =
    lt-ltb 0 (plus (suc total) more) (omega arith) ∙ ap (λ b. b || nat_lt 0 more) (sym (lt-ltb 0 (suc total) (omega arith)))

stays : (b : Bool) → b ≡ b || false
stays true = refl
stays false = refl

shows-memory : Shows (λ t. nat_lt 0 t.nomemory) is_out_of_memory
shows-memory outcome.NoMemory t = plus-shows t.nomemory 1
shows-memory other t = stays (nat_lt 0 t.nomemory)

shows-garbled : Shows (λ t. nat_lt 0 t.garbled) is_garbled
shows-garbled (outcome.Garbled at line) t = plus-shows t.garbled 1
shows-garbled other t = stays (nat_lt 0 t.garbled)

shows-fault : Shows (λ t. nat_lt 0 t.faults) is_child_fault
shows-fault (outcome.ChildFault at) t = plus-shows t.faults 1
shows-fault other t = stays (nat_lt 0 t.faults)

shows-conflict : Shows (λ t. nat_lt 0 t.conflicts || nat_lt 0 t.toolong) is_conflict_or_too_long
shows-conflict (outcome.Conflict number) t =
    ap (λ b. b || nat_lt 0 t.toolong) (plus-shows t.conflicts 1) ∙ turned (nat_lt 0 t.conflicts) (nat_lt 0 t.toolong) where
      turned : (a b : Bool) → (a || true) || b ≡ (a || b) || true
      turned true b = refl
      turned false true = refl
      turned false false = refl
shows-conflict (outcome.Scanned found too_long) t =
    ap (λ b. nat_lt 0 t.conflicts || b) (plus-shows t.toolong too_long) ∙ joins (nat_lt 0 t.conflicts) (nat_lt 0 t.toolong) (nat_lt 0 too_long) where
      joins : (a b c : Bool) → a || (b || c) ≡ (a || b) || c
      joins true b c = refl
      joins false b c = refl
shows-conflict other t = stays (nat_lt 0 t.conflicts || nat_lt 0 t.toolong)

-- the first of four causes
abbrev pub first_of : Bool → Bool → Bool → Bool → Status
first_of memory garbled fault conflict =
    if memory then status.OutOfMemory else (if garbled then status.Garbled else (if fault then status.ChildFault else (if conflict then status.Conflict else status.Clean)))

-- the status by the totals is that by how the units ended
pub status-of-runs : (attempts : List Attempt) → status_of (totals_of attempts) ≡ status_of_runs attempts
status-of-runs attempts =
    let t = totals_of attempts in
    let conflict = nat_lt 0 t.conflicts || nat_lt 0 t.toolong in
    let memory = shows-all (λ t. nat_lt 0 t.nomemory) is_out_of_memory shows-memory attempts no_totals in
    let garbled = shows-all (λ t. nat_lt 0 t.garbled) is_garbled shows-garbled attempts no_totals in
    let fault = shows-all (λ t. nat_lt 0 t.faults) is_child_fault shows-fault attempts no_totals in
    let conflicts = shows-all (λ t. nat_lt 0 t.conflicts || nat_lt 0 t.toolong) is_conflict_or_too_long shows-conflict attempts no_totals in
    ap (λ b. first_of b (nat_lt 0 t.garbled) (nat_lt 0 t.faults) conflict) memory
    ∙ ap (λ b. first_of (some_ended is_out_of_memory attempts) b (nat_lt 0 t.faults) conflict) garbled
    ∙ ap (λ b. first_of (some_ended is_out_of_memory attempts) (some_ended is_garbled attempts) b conflict) fault
    ∙ ap (λ b. first_of (some_ended is_out_of_memory attempts) (some_ended is_garbled attempts) (some_ended is_child_fault attempts) b) conflicts

-- the same, of totals under another name
pub printed-of-runs : (attempts : List Attempt) (totals : Totals) (given : Status) → totals ≡ totals_of attempts → Printed (status_of totals) given → Printed (status_of_runs attempts) given
printed-of-runs attempts totals given are printed =
    let by_status : Status → Type 0 = λ wanted. Printed wanted given in
    subst by_status (ap status_of are ∙ status-of-runs attempts) printed

-- some units were ended by a child's fault: so the totals say
pub faults-above : (attempts : List Attempt) (totals : Totals) → totals ≡ totals_of attempts → some_ended is_child_fault attempts ≡ true → 0 < totals.faults
faults-above attempts totals are fault =
    ltb-true 0 totals.faults (ap (λ (t : Totals). nat_lt 0 t.faults) are ∙ shows-all (λ t. nat_lt 0 t.faults) is_child_fault shows-fault attempts no_totals ∙ fault)
