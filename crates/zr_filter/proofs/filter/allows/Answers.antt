use Rattle.std.proofs.Common.{◌≡◌, ◌<◌, ◌∙◌, sym, ap, refl, arith, take}
use Rattle.zr_filter.specs.Rule.{allows, greatest, rank_among}
use Rattle.zr_filter.proofs.Counting.{taken, left, counting-none}
use Rattle.zr_filter.proofs.filter.allows.Goals as goal
use Rattle.zr_filter.proofs.filter.allows.Goals.{then-rank-gt0+then-rank-greatest, else-rank-gt0, else-rank-gt0-via-then-rank-gt0+else-rank-greatest, else-rank-gt0-via-else-rank-gt0}

pub loop-entry-init : goal.loop-entry-init
loop-entry-init c = record { top = refl; answer = sym (ap allows (counting-none (rank_among c.args.among c.args.path.now))) }

pub loop-entry-preserved : goal.loop-entry-preserved
loop-entry-preserved c =
    let of_entry : c.rank-rank.result ≡ rank_among c.args.among c.args.path.now c.entry-item.result = c.rank-rank.ensures in
    let stood : c.loop-entry.greatest ≡ greatest (rank_among c.args.among c.args.path.now) (take c.loop-entry.entry-index c.args.entries.now) = c.loop-entry.invariant.top in
    elim c.if-rank-gt0.branch [
      | then-rank-gt0+then-rank-greatest w ↦
          let now = taken (rank_among c.args.among c.args.path.now) c.args.entries.now c.loop-entry.entry-index c.entry-item.result c.loop-entry-test.true c.entry-item.is (omega (arith, w.if-rank-gt0.true)) (omega (arith, w.if-rank-greatest.true)) in
          record { top = w.greatest-is ∙ of_entry ∙ now.0; answer = w.allow-is ∙ ap allows now.1 }
      | else-rank-gt0 w ↦
          let low : 0 < rank_among c.args.among c.args.path.now c.entry-item.result → rank_among c.args.among c.args.path.now c.entry-item.result < greatest (rank_among c.args.among c.args.path.now) (take c.loop-entry.entry-index c.args.entries.now) =
          elim w.else-rank-gt0.branch [
            | else-rank-gt0-via-then-rank-gt0+else-rank-greatest v ↦ λ some. omega (arith, v.if-rank-greatest.false)
            | else-rank-gt0-via-else-rank-gt0 v ↦ λ some. omega (arith, v.if-rank-gt0.false)
          ] in
          let now = left (rank_among c.args.among c.args.path.now) c.args.entries.now c.loop-entry.entry-index c.entry-item.result c.loop-entry-test.true c.entry-item.is low in
          record { top = w.greatest-is ∙ stood ∙ now.0; answer = w.allow-is ∙ c.loop-entry.invariant.answer ∙ ap allows now.1 }
    ]
