use Rattle.std.proofs.Common.{◌≡◌, ◌∙◌, ◌*ℤ◌, pos, arith, w8}
use mir.Syntax.{w16}
use Rattle.jiff_core.specs.DateTime.{civil_nanos}
use Rattle.jiff_core.proofs.SignedLemmas.{signed_arith}
use Rattle.zr_time.proofs.Shown.{from_1970, shows, part, year_part}
use Rattle.zr_time.proofs.civil.civil_of.Goals as goal

pub returns-clause-shows : goal.returns-clause-shows
returns-clause-shows c =
    let at : civil_nanos c.to_datetime-shown.result ≡ pos c.args.moment *ℤ pos 1_000_000 = omega (arith, signed_arith, c.instant_of.ensures, c.to_datetime-shown.ensures) in
    shows c.to_datetime-shown.result c.args.moment _ at
    (year_part w16 _ _ _ c.unsigned_abs.ensures.value c.year.type_inv c.year.ensures (from_1970 c.to_datetime-shown.result c.args.moment at))
    (c.from.ensures ∙ part w8 _ _ _ c.unsigned_abs-2.ensures.value c.month.type_inv c.month.ensures)
    (c.from-2.ensures ∙ part w8 _ _ _ c.unsigned_abs-3.ensures.value c.day.type_inv c.day.ensures)
    (c.from-3.ensures ∙ part w8 _ _ _ c.unsigned_abs-4.ensures.value c.hour.type_inv c.hour.ensures)
    (c.from-4.ensures ∙ part w8 _ _ _ c.unsigned_abs-5.ensures.value c.minute.type_inv c.minute.ensures)
    (c.from-5.ensures ∙ part w8 _ _ _ c.unsigned_abs-6.ensures.value c.second.type_inv c.second.ensures)
    (part w16 _ _ _ c.unsigned_abs-7.ensures.value c.millisecond.type_inv c.millisecond.ensures)
