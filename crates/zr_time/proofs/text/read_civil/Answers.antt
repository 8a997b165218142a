use Rattle.std.proofs.Common.{sym}
use Rattle.zr_time.proofs.Parts.{civil_parts, from_parts, no_civil, behind, a_clock}
use Rattle.zr_time.proofs.text.read_civil.Goals as goal
use Rattle.zr_time.proofs.text.read_civil.Goals.{then-text-ne19-via-then-text-ne19, then-text-ne19-via-else-text-ne19+then-text-ne95}

pub returns-then-text-ne19 : goal.returns-then-text-ne19
returns-then-text-ne19 c = λ civil is.
    elim c.then-text-ne19.branch [
      | then-text-ne19-via-then-text-ne19 w ↦ w.if-text-ne19.true (civil_parts c.args.text.now civil is).long
      | then-text-ne19-via-else-text-ne19+then-text-ne95 w ↦ w.if-text-ne95.true (civil_parts c.args.text.now civil is).mark
    ]

pub returns-in_err-read_day : goal.returns-in_err-read_day
returns-in_err-read_day c = no_civil c.args.text.now _ c.from_residual.ensures (λ civil is. c.in_err-read_day.ensures civil.day (civil_parts c.args.text.now civil is).day)

pub returns-in_err-read_clock : goal.returns-in_err-read_clock
returns-in_err-read_clock c = no_civil c.args.text.now _ c.from_residual-in_err-read_clock.ensures (λ civil is. c.in_err-read_clock.ensures civil.clock (a_clock _ _ (sym (behind c.args.text.now 9)) civil.clock (civil_parts c.args.text.now civil is).clock))

pub returns : goal.returns
returns c = from_parts c.args.text.now _ (record { long = c.if-text-ne19.false; mark = c.if-text-ne95.false; day = c.in_ok-read_day.ensures; clock = a_clock _ _ (behind c.args.text.now 9) _ c.in_ok-read_clock.ensures })
