use Rattle.std.proofs.Common.{◌≡◌, ◌∙◌, ap, sym, subst, arith, w8, w32, to_z, ◌*◌, pos, Option, Result, Ok, Err}
use Rattle.std.specs.Option.{IfSome}
use Rattle.std.specs.Result.{IfOk, result_ok}
use Rattle.std.proofs.lemmas.Int.{to_z_pos}
use mir.Syntax.{w16}
use Rattle.zr_time.proofs.Shown.{Passed, has_datetime, at_millis}
use Rattle.zr_time.proofs.civil.datetime_of.Goals as goal

some_of : {X E : Type 0} (P Q : X → Type 0) (r : Result X E) (o : Option X) → o ≡ result_ok r → ((x : X) → P x → Q x) → IfOk r P → IfSome o Q
some_of P Q (Ok x) o is each p = subst (λ k. IfSome k Q) (sym is) (each x p)
some_of P Q (Err e) o is each p = subst (λ k. IfSome k Q) (sym is) tt

passed : (c : goal.After-ok) → Passed c.args.civil.now (to_z w16 c.args.civil.now.day.year) (to_z w8 c.args.civil.now.day.month) (to_z w8 c.args.civil.now.day.day) (to_z w8 c.args.civil.now.clock.hour) (to_z w8 c.args.civil.now.clock.minute) (to_z w8 c.args.civil.now.clock.second) (to_z w32 (c.from.result * 1000000))
passed c = record {
  year = to_z_pos w16 c.args.civil.now.day.year (omega arith);
  month = to_z_pos w8 c.args.civil.now.day.month (omega arith);
  day = to_z_pos w8 c.args.civil.now.day.day (omega arith);
  hour = to_z_pos w8 c.args.civil.now.clock.hour (omega arith);
  minute = to_z_pos w8 c.args.civil.now.clock.minute (omega arith);
  second = to_z_pos w8 c.args.civil.now.clock.second (omega arith);
  subsec = to_z_pos w32 (c.from.result * 1000000) (omega arith) ∙ ap (λ k. pos (k * 1000000)) c.from.ensures;
}

pub returns-clause-exists : goal.returns-clause-exists
returns-clause-exists c =
    let both = has_datetime c.args.civil.now _ _ _ _ _ _ _ (passed c) in
    (λ some. both.0 (c.new.ensures.succeeds.0 (sym c.ok.ensures.variant ∙ some)), λ is. c.ok.ensures.variant ∙ c.new.ensures.succeeds.1 (both.1 is))

pub returns-clause-value : goal.returns-clause-value
returns-clause-value c =
    some_of _ _ c.new.result c.ok.result c.ok.ensures.value (λ shown parts. at_millis c.args.civil.now shown _ _ _ _ _ _ _ (passed c) parts.0 parts.1) c.new.ensures.value
