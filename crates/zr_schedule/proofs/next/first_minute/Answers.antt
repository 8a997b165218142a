use Rattle.zr_schedule.specs.Search.{fires_on, fires_at}
use Rattle.zr_schedule.proofs.Minutes.{first_today, first_later}
use Rattle.zr_schedule.proofs.next.first_minute.Goals as goal

pub returns-in-Some-clause-first : goal.returns-in-Some-clause-first
returns-in-Some-clause-first c =
    first_today (fires_on c.args.spec.now) (fires_at c.args.spec.now) c.args.from 376200 541728000 c.in_ok-day.day c.in-Some.time c.in_ok-day.ensures.first c.if-day-today.false c.in-Some.ensures.first c.in-Some.ensures.within

pub returns-clause-first : goal.returns-clause-first
returns-clause-first c =
    first_later (fires_on c.args.spec.now) (fires_at c.args.spec.now) c.args.from 376200 541728000 c.in_ok-day-2.day c.in_ok-opening.opening c.in_ok-opening.ensures.first c.in_ok-opening.ensures.within c.in_default.ensures.first c.in_ok-day-2.ensures.first
