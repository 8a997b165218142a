use Rattle.std.proofs.Common.{◌≡◌, ◌∙◌, pos, ◌*ℤ◌, sym, arith, refl}
use Rattle.jiff_core.specs.DateTime.{civil_nanos}
use Rattle.jiff_core.proofs.SignedLemmas.{signed_arith}
use Rattle.zr_time.specs.Stamps.{millis_of}
use Rattle.zr_time.proofs.Moments.{moment_from, no_moment, whole_millis, has_instant, counted, uncounted, ok_of, kept}
use Rattle.zr_time.proofs.civil.moment_of.Goals as goal

pub returns-in_err-shown : goal.returns-in_err-shown
returns-in_err-shown c = no_moment c.args.civil.now c.from_residual.result c.from_residual.ensures (λ m below shows.
    let no = c.in_err-shown.ensures.exists.1 (shows.day, shows.clock) in cc)

pub returns-in_err-instant : goal.returns-in_err-instant
returns-in_err-instant c = no_moment c.args.civil.now c.from_residual-in_err-instant.result c.from_residual-in_err-instant.ensures (λ m below shows.
    let there = c.to_timestamp.ensures.succeeds.1 (has_instant (civil_nanos c.in_ok-shown.shown) (millis_of c.args.civil.now) m c.in_ok-shown.ensures.value shows.instant below) in
    let no = c.in_err-instant.ensures.variant ∙ there in cc)

pub returns-in_err-ok : goal.returns-in_err-ok
returns-in_err-ok c = no_moment c.args.civil.now c.from_residual-in_err-ok.result c.from_residual-in_err-ok.ensures (λ m below shows.
    let nanos : c.in_ok-instant.instant.nanosecond ≡ millis_of c.args.civil.now *ℤ pos 1_000_000 = omega (arith, signed_arith, ok_of _ c.to_timestamp.result c.in_ok-instant.instant c.in_ok-instant.ensures.value c.to_timestamp.ensures.value, c.in_ok-shown.ensures.value) in
    let millis = c.as_millisecond.ensures ∙ whole_millis c.in_ok-instant.instant.nanosecond (millis_of c.args.civil.now) nanos in
    let same = kept c.in_ok-shown.shown (millis_of c.args.civil.now) c.as_millisecond.result c.in_ok-shown.ensures.value millis in
    uncounted c.try_from.result _ _ m c.try_from.ensures c.in_err-ok.ensures.variant (same ∙ sym shows.instant) (omega arith))

pub returns : goal.returns
returns c =
    let nanos : c.in_ok-instant.instant.nanosecond ≡ millis_of c.args.civil.now *ℤ pos 1_000_000 = omega (arith, signed_arith, ok_of _ c.to_timestamp.result c.in_ok-instant.instant c.in_ok-instant.ensures.value c.to_timestamp.ensures.value, c.in_ok-shown.ensures.value) in
    let millis = c.as_millisecond.ensures ∙ whole_millis c.in_ok-instant.instant.nanosecond (millis_of c.args.civil.now) nanos in
    let same = kept c.in_ok-shown.shown (millis_of c.args.civil.now) c.as_millisecond.result c.in_ok-shown.ensures.value millis in
    moment_from c.args.civil.now c.in_ok-ok.field-0 c.new.result (c.in_ok-shown.ensures.exists.0 refl)
    (counted c.try_from.result _ c.in_ok-ok.field-0 c.try_from.ensures c.in_ok-ok.ensures.value ∙ same) c.new.ensures.exists c.new.ensures.value
