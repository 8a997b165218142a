use Rattle.std.proofs.Common.{rules, ◌≡◌, ◌+◌, ◌-◌, ◌<◌, true, false, arith, ◌∙◌, ap}
use Rattle.zr_schedule.specs.Calendar.{month_length}
use Rattle.zr_schedule.specs.Schedule.{has, day_fields_match}
use Rattle.zr_schedule.specs.Search.{fires_on}
use Rattle.zr_schedule.proofs.Days.{other_month, as_fields_match, no_day_of_month}
use Rattle.zr_schedule.proofs.Minutes.{none_so_far}
use Rattle.zr_schedule.proofs.next.first_day_in.Goals as goal

pub returns-then-not-has-clause-first : goal.returns-then-not-has-clause-first
returns-then-not-has-clause-first c =
    let missing : has c.args.spec.now.months c.args.month.now.month ≡ false = search rules in
    λ k from below. other_month c.args.spec.now c.args.month.now.first c.args.month.now.year c.args.month.now.month k c.args.month.now.begins (omega arith) below missing

pub returns-then-not-may_match-clause-first : goal.returns-then-not-may_match-clause-first
returns-then-not-may_match-clause-first c =
    let never = c.may_match.ensures c.if-not-may_match.true in
    λ k from below. no_day_of_month c.args.spec.now c.args.month.now.first c.args.month.now.year c.args.month.now.month c.length.result k c.args.month.now.begins c.length.ensures.same never (omega arith) below

pub returns-then-day_fields_match-clause-first : goal.returns-then-day_fields_match-clause-first
returns-then-day_fields_match-clause-first c =
    let here : has c.args.spec.now.months c.args.month.now.month ≡ true = search rules in
    let within : c.loop-day.day < c.args.month.now.first + month_length c.args.month.now.year c.args.month.now.month = omega (arith, c.length.ensures.same) in
    let same = c.day_fields_match.ensures ∙ ap (day_fields_match c.args.spec.now (c.loop-day.day - c.args.month.now.first + 1)) c.weekday.ensures.same in
    (omega arith, as_fields_match c.args.spec.now c.args.month.now.first c.args.month.now.year c.args.month.now.month c.loop-day.day c.day_fields_match.result c.args.month.now.begins (omega arith) within here same ∙ c.if-day_fields_match.true, c.loop-day.invariant)

pub loop-day-preserved : goal.loop-day-preserved
loop-day-preserved c =
    let here : has c.args.spec.now.months c.args.month.now.month ≡ true = search rules in
    let within : c.loop-day.day < c.args.month.now.first + month_length c.args.month.now.year c.args.month.now.month = omega (arith, c.length.ensures.same) in
    let same = c.day_fields_match.ensures ∙ ap (day_fields_match c.args.spec.now (c.loop-day.day - c.args.month.now.first + 1)) c.weekday.ensures.same in
    none_so_far (fires_on c.args.spec.now) c.args.from c.loop-day.day c.loop-day.invariant
    (as_fields_match c.args.spec.now c.args.month.now.first c.args.month.now.year c.args.month.now.month c.loop-day.day c.day_fields_match.result c.args.month.now.begins (omega arith) within here same ∙ c.if-day_fields_match.false)
