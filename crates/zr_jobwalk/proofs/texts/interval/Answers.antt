use Rattle.std.proofs.Common.{◌≡◌, codes, rules}
use Rattle.zr_jobwalk.proofs.NoTexts.{spans_alone}
use Rattle.zr_jobwalk.proofs.texts.interval.Goals as goal

pub returns : goal.returns
returns c =
    let other : ¬ (c.args.text.now ≡ codes "manual") = search rules in
    spans_alone c.args.text.now c.every.result other c.every.ensures
