use Rattle.std.proofs.Common.{ℕ, None, subst}
use Rattle.zr_schedule.specs.Schedule.{IsNextMinute}
use Rattle.zr_schedule.proofs.Moments.{next_none, next_moment}
use Rattle.zr_schedule.proofs.next.next_cron.Goals as goal

pub returns-in_err-minute : goal.returns-in_err-minute
returns-in_err-minute c = rw c.from_residual.ensures (subst (λ (n : ℕ). IsNextMinute c.args.spec.now n None) c.ms.ensures.value (next_none c.args.spec.now c.ms.result c.in_err-minute.ensures.first))

pub returns : goal.returns
returns c =
    subst (λ (n : ℕ). IsNextMinute c.args.spec.now n c.new.result) c.ms.ensures.value
    (next_moment c.args.spec.now c.ms.result c.in_ok-minute.minute c.new.result c.in_ok-minute.ensures.first c.new.ensures.exists c.new.ensures.value)
