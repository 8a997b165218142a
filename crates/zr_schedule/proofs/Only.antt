-- A text is a cron text of one spec alone, or has a fault.
use Rattle.std.proofs.Common.{◌≡◌, ℕ, zero, suc, ◌<◌, ◌⊎◌, inl, inr, ◌==◌, List, [], ◌∷◌, Result, Ok, Err, refl, sym, ap, subst, ◌∙◌, arith}
use Rattle.std.specs.List.{AllByRecursion}
use Rattle.std.specs.Int.{bit_at}
use Rattle.std.proofs.lemmas.Nat.Bits.{same_from_bits, bit_at-lt}
use Rattle.zr_schedule.specs.declared.spec.CronSpec.{CronSpec}
use Rattle.zr_schedule.specs.declared.item.Limits.{Limits}
use Rattle.zr_schedule.specs.declared.read.CronFault.{CronFault}
use Rattle.zr_schedule.specs.declared.read.CronFault.TheVariants.{BadCron}
use Rattle.zr_schedule.specs.Schedule.{has}
use Rattle.zr_schedule.specs.Tokens.{tokens}
use Rattle.zr_schedule.specs.Words.{words}
use Rattle.zr_schedule.specs.Cron.{IsItem, IsField, field_has}
use Rattle.zr_schedule.specs.Fault.{IsPartFault, IsFieldFault, IsWordFault, IsFaultAt}
use Rattle.zr_schedule.specs.Read.{IsCron, ReadsCron, IsSetOf, weekday_has, five, minutes, hours, days, months, weekdays}

-- ---- a good field has no fault

no_part_fault : (limits : Limits) (parts : List (List ℕ)) (place : ℕ) → IsPartFault limits parts place → AllByRecursion (λ part. IsItem limits (tokens part)) parts → ⊥
no_part_fault limits [] place fault good = absurd fault
no_part_fault limits (part ∷ parts) place (inl (n, fault, same)) (good, more) = fault.bad good
no_part_fault limits (part ∷ parts) place (inr (here, (later, fault, same))) (good, more) = no_part_fault limits parts later fault more

behind_good : {Rest : Type 0} (limits : Limits) (word : List ℕ) (at field place : ℕ) → IsField limits word → ((field ≡ at) × IsFieldFault limits word place) ⊎ (IsField limits word × Rest) → Rest
behind_good limits word at field place good (inl (here, fault)) = absurd (no_part_fault limits _ place fault good)
behind_good limits word at field place good (inr (here, rest)) = rest

no_fault : (text : List ℕ) (spec : CronSpec) (fault : CronFault) → IsCron text spec → IsFaultAt five (words text) 1 fault → ⊥
no_fault text spec (BadCron field place) cron fault =
    let f : IsWordFault five (cron.minute ∷ cron.hour ∷ cron.day ∷ cron.month ∷ cron.weekday ∷ []) 1 field place = subst (λ (w : List (List ℕ)). IsWordFault five w 1 field place) cron.parts fault in
    behind_good weekdays cron.weekday 5 field place cron.good.4 (behind_good months cron.month 4 field place cron.good.3 (behind_good days cron.day 3 field place cron.good.2 (behind_good hours cron.hour 2 field place cron.good.1 (behind_good minutes cron.minute 1 field place cron.good.0 f))))

-- ---- sets with the same values are the same

same_bit : (x y : ℕ) → x < 2 → y < 2 → (x == 1) ≡ (y == 1) → x ≡ y
same_bit zero zero h k e = refl
same_bit zero (suc zero) h k e = absurd cc
same_bit zero (suc (suc y)) h k e = absurd (omega arith)
same_bit (suc zero) zero h k e = absurd cc
same_bit (suc zero) (suc zero) h k e = refl
same_bit (suc zero) (suc (suc y)) h k e = absurd (omega arith)
same_bit (suc (suc x)) y h k e = absurd (omega arith)

same_set : (a b : ℕ) → ((n : ℕ) → has a n ≡ has b n) → a ≡ b
same_set a b same = same_from_bits a b (λ n. same_bit (bit_at a n) (bit_at b n) (bit_at-lt a n) (bit_at-lt b n) (same n))

same_field : (limits : Limits) (a b : ℕ) (first second : List ℕ) → first ≡ second → IsSetOf limits first a → IsSetOf limits second b → a ≡ b
same_field limits a b first second e f g = same_set a b (λ n. f n ∙ ap (λ (word : List ℕ). field_has limits word n) e ∙ sym (g n))

same_weekdays : (a b : ℕ) (first second : List ℕ) → first ≡ second → ((n : ℕ) → has a n ≡ weekday_has first n) → ((n : ℕ) → has b n ≡ weekday_has second n) → a ≡ b
same_weekdays a b first second e f g = same_set a b (λ n. f n ∙ ap (λ (word : List ℕ). weekday_has word n) e ∙ sym (g n))

abbrev spec_of : ℕ → ℕ → ℕ → ℕ → ℕ → CronSpec
spec_of m h d o w = record { minutes = m; hours = h; days = d; months = o; weekdays = w }

same_spec : (text : List ℕ) (a b : CronSpec) → IsCron text a → IsCron text b → a ≡ b
same_spec text a b f g =
    let e : (f.minute ∷ f.hour ∷ f.day ∷ f.month ∷ f.weekday ∷ []) ≡ (g.minute ∷ g.hour ∷ g.day ∷ g.month ∷ g.weekday ∷ []) = sym f.parts ∙ g.parts in
    let m : a.minutes ≡ b.minutes = same_field minutes a.minutes b.minutes f.minute g.minute (cc e) f.in_minutes g.in_minutes in
    let h : a.hours ≡ b.hours = same_field hours a.hours b.hours f.hour g.hour (cc e) f.in_hours g.in_hours in
    let d : a.days ≡ b.days = same_field days a.days b.days f.day g.day (cc e) f.in_days g.in_days in
    let o : a.months ≡ b.months = same_field months a.months b.months f.month g.month (cc e) f.in_months g.in_months in
    let w : a.weekdays ≡ b.weekdays = same_weekdays a.weekdays b.weekdays f.weekday g.weekday (cc e) f.in_weekdays g.in_weekdays in
    let same : spec_of a.minutes a.hours a.days a.months a.weekdays ≡ spec_of b.minutes b.hours b.days b.months b.weekdays = cc in
    same

pub only : (text : List ℕ) (result : Result CronSpec CronFault) → ReadsCron text result → (spec : CronSpec) → IsCron text spec → result ≡ Ok spec
only text (Ok found) reads spec cron = ap Ok (same_spec text found spec reads cron)
only text (Err fault) reads spec cron = absurd (no_fault text spec fault cron reads)
