use Rattle.std.proofs.Common.{◌≡◌, [], ◌∷◌, Ok, Err, rules}
use Rattle.zr_schedule.specs.declared.spec.CronSpec.{CronSpec}
use Rattle.zr_schedule.specs.Read.{IsCron, five, minutes, hours, days, months, weekdays}
use Rattle.zr_schedule.specs.Words.{words}
use Rattle.zr_schedule.specs.Fault.{IsFaultAt}
use Rattle.zr_schedule.proofs.Fields.{fault_later}
use Rattle.zr_schedule.proofs.Only.{only}
use Rattle.zr_schedule.proofs.read.read_cron.Goals as goal

pub returns-in_err-minutes : goal.returns-in_err-minutes
returns-in_err-minutes c =
    let same : c.from_residual.result ≡ Err c.in_err-minutes.field-0.0 = search rules in
    let fault : IsFaultAt five (words c.args.text.now) 1 c.in_err-minutes.field-0.0 = c.in_err-minutes.ensures.bad (hours ∷ days ∷ months ∷ weekdays ∷ []) in
    rw same (record { reads = fault; only = only c.args.text.now (Err c.in_err-minutes.field-0.0) fault })

pub returns-in_err-hours : goal.returns-in_err-hours
returns-in_err-hours c =
    let same : c.from_residual-in_err-hours.result ≡ Err c.in_err-hours.field-0.0 = search rules in
    let fault : IsFaultAt five (words c.args.text.now) 1 c.in_err-hours.field-0.0 = fault_later minutes (hours ∷ days ∷ months ∷ weekdays ∷ []) 1 c.in_err-hours.field-0.0 c.in_ok-minutes.ensures.good (c.in_err-hours.ensures.bad (days ∷ months ∷ weekdays ∷ [])) in
    rw same (record { reads = fault; only = only c.args.text.now (Err c.in_err-hours.field-0.0) fault })

pub returns-in_err-days : goal.returns-in_err-days
returns-in_err-days c =
    let same : c.from_residual-in_err-days.result ≡ Err c.in_err-days.field-0.0 = search rules in
    let fault : IsFaultAt five (words c.args.text.now) 1 c.in_err-days.field-0.0 = fault_later minutes (hours ∷ days ∷ months ∷ weekdays ∷ []) 1 c.in_err-days.field-0.0 c.in_ok-minutes.ensures.good (fault_later hours (days ∷ months ∷ weekdays ∷ []) 2 c.in_err-days.field-0.0 c.in_ok-hours.ensures.good (c.in_err-days.ensures.bad (months ∷ weekdays ∷ []))) in
    rw same (record { reads = fault; only = only c.args.text.now (Err c.in_err-days.field-0.0) fault })

pub returns-in_err-months : goal.returns-in_err-months
returns-in_err-months c =
    let same : c.from_residual-in_err-months.result ≡ Err c.in_err-months.field-0.0 = search rules in
    let fault : IsFaultAt five (words c.args.text.now) 1 c.in_err-months.field-0.0 = fault_later minutes (hours ∷ days ∷ months ∷ weekdays ∷ []) 1 c.in_err-months.field-0.0 c.in_ok-minutes.ensures.good (fault_later hours (days ∷ months ∷ weekdays ∷ []) 2 c.in_err-months.field-0.0 c.in_ok-hours.ensures.good (fault_later days (months ∷ weekdays ∷ []) 3 c.in_err-months.field-0.0 c.in_ok-days.ensures.good (c.in_err-months.ensures.bad (weekdays ∷ [])))) in
    rw same (record { reads = fault; only = only c.args.text.now (Err c.in_err-months.field-0.0) fault })

pub returns-in_err-weekdays : goal.returns-in_err-weekdays
returns-in_err-weekdays c =
    let same : c.from_residual-in_err-weekdays.result ≡ Err c.in_err-weekdays.field-0.0 = search rules in
    let fault : IsFaultAt five (words c.args.text.now) 1 c.in_err-weekdays.field-0.0 = fault_later minutes (hours ∷ days ∷ months ∷ weekdays ∷ []) 1 c.in_err-weekdays.field-0.0 c.in_ok-minutes.ensures.good (fault_later hours (days ∷ months ∷ weekdays ∷ []) 2 c.in_err-weekdays.field-0.0 c.in_ok-hours.ensures.good (fault_later days (months ∷ weekdays ∷ []) 3 c.in_err-weekdays.field-0.0 c.in_ok-days.ensures.good (fault_later months (weekdays ∷ []) 4 c.in_err-weekdays.field-0.0 c.in_ok-months.ensures.good (c.in_err-weekdays.ensures.bad ([]))))) in
    rw same (record { reads = fault; only = only c.args.text.now (Err c.in_err-weekdays.field-0.0) fault })

pub returns-clause-only : goal.returns-clause-only
returns-clause-only c =
    let spec : CronSpec = record { minutes = c.in_ok-minutes.minutes; hours = c.in_ok-hours.hours; days = c.in_ok-days.days; months = c.in_ok-months.months; weekdays = c.seven_as_zero.result } in
    let reads : IsCron c.args.text.now spec = search rules in
    only c.args.text.now (Ok spec) reads
