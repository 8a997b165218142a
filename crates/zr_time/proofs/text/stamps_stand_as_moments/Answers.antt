use Rattle.std.proofs.Common.{◌∙◌, ap, sym, eq-eqb}
use Rattle.std.specs.Ordering.{ordering_index}
use Rattle.zr_time.proofs.Rising.{stand_as_moments}
use Rattle.zr_time.proofs.text.stamps_stand_as_moments.Goals as goal

pub returns : goal.returns
returns c =
    let same = c.cmp.ensures ∙ stand_as_moments _ _ _ _ c.stamp.ensures.value c.stamp-2.ensures.value ∙ sym c.cmp-2.ensures in
    c.eq.ensures ∙ eq-eqb _ _ (ap ordering_index same)
