-- The first minute, from the first day and the first time of day.
use Rattle.std.proofs.lemmas.Bool.{ltb-true, ltb-false}
use Rattle.std.proofs.Common.{◌≡◌, ℕ, ◌+◌, ◌*◌, ◌/◌, ◌%◌, ◌<◌, ◌≤◌, Bool, true, false, ◌&&◌, refl, nat_lt, sym, ◌∙◌, ap, arith, Some, None}
use Rattle.std.proofs.Math.Bool.{and-false}
use Rattle.zr_schedule.specs.Search.{IsFirst}

-- whether a minute's day and its time pass
abbrev pub in_both : (ℕ → Bool) → (ℕ → Bool) → ℕ → Bool
in_both on at minute = on (minute / 1440) && at (minute % 1440)

other_day : (on at : ℕ → Bool) (minute : ℕ) → on (minute / 1440) ≡ false → in_both on at minute ≡ false
other_day on at minute h = ap (λ b. b && at (minute % 1440)) h

other_time : (on at : ℕ → Bool) (minute : ℕ) → at (minute % 1440) ≡ false → in_both on at minute ≡ false
other_time on at minute h = ap (λ b. on (minute / 1440) && b) h ∙ and-false (on (minute / 1440))

pub day_of_parts : (day time : ℕ) → time < 1440 → (day * 1440 + time) / 1440 ≡ day
day_of_parts day time h = omega arith

pub time_of_parts : (day time : ℕ) → time < 1440 → (day * 1440 + time) % 1440 ≡ time
time_of_parts day time h = omega arith

passes : (on at : ℕ → Bool) (day time : ℕ) → time < 1440 → on day ≡ true → at time ≡ true → in_both on at (day * 1440 + time) ≡ true
passes on at day time h d t = ap (λ n. on n && at ((day * 1440 + time) % 1440)) (day_of_parts day time h) ∙ ap (λ n. on day && at n) (time_of_parts day time h) ∙ ap (λ b. b && at time) d ∙ t

-- one more that does not pass
pub none_so_far : (test : ℕ → Bool) (from i : ℕ) → ((k : ℕ) → from ≤ k → k < i → test k ≡ false) → test i ≡ false → (k : ℕ) → from ≤ k → k < i + 1 → test k ≡ false
none_so_far test from i before here k above below =
    elim (nat_lt k i) as (λ b. nat_lt k i ≡ b → test k ≡ false) [
      | true ↦ λ t. before k above (ltb-true k i t)
      | false ↦ λ f. let h = ltb-false k i f in let e : k ≡ i = omega (arith, h) in ap test e ∙ here
    ] refl

-- the first day is today, and some time is left of it that passes
pub first_today : (on at : ℕ → Bool) (from end_day end day time : ℕ) → IsFirst on (from / 1440) end_day (Some day) → day ≤ from / 1440 → IsFirst at (from % 1440) 1440 (Some time) → time < 1440 → IsFirst (in_both on at) from end (Some (from / 1440 * 1440 + time))
first_today on at from end_day end day time first today then within =
    let e : day ≡ from / 1440 = omega (arith, first.0) in
    (omega (arith, then.0), passes on at (from / 1440) time within (ap on (sym e) ∙ first.1) then.1, λ k above below. other_time on at k (then.2 (k % 1440) (omega (arith, then.0)) (omega (arith, then.0))))

-- no time is left of today that passes
pub first_later : (on at : ℕ → Bool) (from end_day end day time : ℕ) → IsFirst at 0 1440 (Some time) → time < 1440 → IsFirst at (from % 1440) 1440 None → IsFirst on (from / 1440 + 1) end_day (Some day) → IsFirst (in_both on at) from end (Some (day * 1440 + time))
first_later on at from end_day end day time opening within rest later = (
  omega (arith, later.0),
  passes on at day time within later.1 opening.1,
  λ k above below.
      elim (nat_lt (from / 1440) (k / 1440)) as (λ b. nat_lt (from / 1440) (k / 1440) ≡ b → in_both on at k ≡ false) [
        | true ↦ λ t. let after = ltb-true (from / 1440) (k / 1440) t in
            elim (nat_lt (k / 1440) day) as (λ b. nat_lt (k / 1440) day ≡ b → in_both on at k ≡ false) [
              | true ↦ λ s. other_day on at k (later.2 (k / 1440) (omega (arith, after)) (ltb-true (k / 1440) day s))
              | false ↦ λ s. let same = ltb-false (k / 1440) day s in other_time on at k (opening.2 (k % 1440) (omega arith) (omega (arith, same)))
            ] refl
        | false ↦ λ f. let today = ltb-false (from / 1440) (k / 1440) f in other_time on at k (rest (k % 1440) (omega (arith, today)) (omega arith))
      ] refl,
)
