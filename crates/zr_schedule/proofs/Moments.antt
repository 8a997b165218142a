-- From the first minute that matches to the next moment at which a spec fires.
use Rattle.std.proofs.Common.{◌≡◌, ℕ, nat_lt, subst, IsSome, IfSome, ◌↔◌, ◌+◌, ◌*◌, ◌/◌, ◌%◌, ◌<◌, ◌≤◌, Bool, true, false, ◌==◌, ◌&&◌, refl, sym, ap, ◌∙◌, arith, Option, Some, None}
use Rattle.std.proofs.Math.Bool.{and-false}
use Rattle.std.proofs.lemmas.Bool.{eqb-true, ltb-true, ltb-false}
use Rattle.zr_names.specs.declared.moment.TheConstants.{END_OF_TIME}
use Rattle.zr_schedule.specs.declared.spec.CronSpec.{CronSpec}
use Rattle.zr_schedule.specs.Calendar.{fields_of}
use Rattle.zr_schedule.specs.Schedule.{has, fields_match, fires, IsNextMinute}
use Rattle.zr_schedule.specs.Search.{IsFirst, fires_on, fires_in}

same_day : (ms : ℕ) → ms / 86400000 ≡ ms / 60000 / 1440
same_day ms = omega arith

same_hour : (ms : ℕ) → ms / 3600000 % 24 ≡ ms / 60000 % 1440 / 60
same_hour ms = omega arith

same_minute : (ms : ℕ) → ms / 60000 % 60 ≡ ms / 60000 % 1440 % 60
same_minute ms = omega arith

turned : (a b c : Bool) → ((a && b) && c) ≡ (c && (b && a))
turned true true true = refl
turned true true false = refl
turned true false true = refl
turned true false false = refl
turned false true true = refl
turned false true false = refl
turned false false true = refl
turned false false false = refl

-- a moment's fields are those of its minute
as_minute : (spec : CronSpec) (ms : ℕ) → fields_match spec (fields_of ms) ≡ fires_in spec (ms / 60000)
as_minute spec ms =
    ap (λ (day : ℕ). (has spec.minutes (ms / 60000 % 60) && has spec.hours (ms / 3600000 % 24)) && fires_on spec day) (same_day ms)
    ∙ ap (λ (hour : ℕ). (has spec.minutes (ms / 60000 % 60) && has spec.hours hour) && fires_on spec (ms / 60000 / 1440)) (same_hour ms)
    ∙ ap (λ (minute : ℕ). (has spec.minutes minute && has spec.hours (ms / 60000 % 1440 / 60)) && fires_on spec (ms / 60000 / 1440)) (same_minute ms)
    ∙ turned (has spec.minutes (ms / 60000 % 1440 % 60)) (has spec.hours (ms / 60000 % 1440 / 60)) (fires_on spec (ms / 60000 / 1440))

fires_by : (spec : CronSpec) (ms : ℕ) → fires spec ms ≡ ((ms % 60000 == 0) && fires_in spec (ms / 60000))
fires_by spec ms = ap (λ b. (ms % 60000 == 0) && b) (as_minute spec ms)

whole_minute : (spec : CronSpec) (minute : ℕ) → fires spec (minute * 60000) ≡ fires_in spec minute
whole_minute spec minute =
    let whole : minute * 60000 % 60000 ≡ 0 = omega arith in
    let same : minute * 60000 / 60000 ≡ minute = omega arith in
    fires_by spec (minute * 60000) ∙ ap (λ (n : ℕ). (n == 0) && fires_in spec (minute * 60000 / 60000)) whole ∙ ap (fires_in spec) same

not_whole : (spec : CronSpec) (ms : ℕ) → fires_in spec (ms / 60000) ≡ false → fires spec ms ≡ false
not_whole spec ms e = fires_by spec ms ∙ ap (λ b. (ms % 60000 == 0) && b) e ∙ and-false (ms % 60000 == 0)

-- no moment fires whose minute does not, nor one within the minute that has begun
silent_by : (spec : CronSpec) (after other end : ℕ) (whole : Bool) → (other % 60000 == 0) ≡ whole → after < other → other / 60000 < end → ((k : ℕ) → after / 60000 + 1 ≤ k → k < end → fires_in spec k ≡ false) → fires spec other ≡ false
silent_by spec after other end true e above below none = let z = eqb-true (other % 60000) 0 e in not_whole spec other (none (other / 60000) (omega (arith, z)) below)
silent_by spec after other end false e above below none = fires_by spec other ∙ ap (λ b. b && fires_in spec (other / 60000)) e

silent : (spec : CronSpec) (after other end : ℕ) → after < other → other / 60000 < end → ((k : ℕ) → after / 60000 + 1 ≤ k → k < end → fires_in spec k ≡ false) → fires spec other ≡ false
silent spec after other end above below none = silent_by spec after other end (other % 60000 == 0) refl above below none

pub next_none : (spec : CronSpec) (after : ℕ) → IsFirst (fires_in spec) (after / 60000 + 1) 541728000 None → IsNextMinute spec after None
next_none spec after none = λ other above below. silent spec after other 541728000 above (omega arith) none

next_late : (spec : CronSpec) (after minute : ℕ) → IsFirst (fires_in spec) (after / 60000 + 1) 541728000 (Some minute) → END_OF_TIME ≤ minute * 60000 → IsNextMinute spec after None
next_late spec after minute first late = λ other above below. silent spec after other minute above (omega arith) first.2

least : (spec : CronSpec) (after minute other : ℕ) → ((k : ℕ) → after / 60000 + 1 ≤ k → k < minute → fires_in spec k ≡ false) → after < other → fires spec other ≡ true → minute * 60000 ≤ other
least spec after minute other none above fired =
    elim (nat_lt (other / 60000) minute) as (λ b. nat_lt (other / 60000) minute ≡ b → minute * 60000 ≤ other) [
      | true ↦ λ t. let not = silent spec after other minute above (ltb-true (other / 60000) minute t) none in absurd (cc (not, fired))
      | false ↦ λ f. let h = ltb-false (other / 60000) minute f in omega (arith, h)
    ] refl

next_some : (spec : CronSpec) (after minute : ℕ) → IsFirst (fires_in spec) (after / 60000 + 1) 541728000 (Some minute) → minute * 60000 < END_OF_TIME → IsNextMinute spec after (Some (minute * 60000))
next_some spec after minute first early = (omega (arith, first.0), early, whole_minute spec minute ∙ first.1, λ other above fired. least spec after minute other first.2 above fired)

-- the moment of a minute, if there is one
pub next_moment : (spec : CronSpec) (after minute : ℕ) (moment : Option ℕ) → IsFirst (fires_in spec) (after / 60000 + 1) 541728000 (Some minute) → (IsSome moment ↔ (minute * 60000 < END_OF_TIME)) → IfSome moment (λ ms. ms ≡ minute * 60000) → IsNextMinute spec after moment
next_moment spec after minute (Some ms) first exists value = subst (λ (n : ℕ). IsNextMinute spec after (Some n)) (sym value) (next_some spec after minute first (exists.0 refl))
next_moment spec after minute None first exists value =
    elim (nat_lt (minute * 60000) END_OF_TIME) as (λ b. nat_lt (minute * 60000) END_OF_TIME ≡ b → IsNextMinute spec after None) [
      | true ↦ λ t. let some = exists.1 (ltb-true (minute * 60000) END_OF_TIME t) in absurd (cc some)
      | false ↦ λ f. next_late spec after minute first (ltb-false (minute * 60000) END_OF_TIME f)
    ] refl
