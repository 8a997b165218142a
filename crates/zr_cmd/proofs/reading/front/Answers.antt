use Rattle.std.proofs.Common.{◌≡◌, ◌∙◌, ap, ℕ, ◌+◌, ◌-◌, List, [], map, arith, subst, sym, inl, inr, get_or}
use Rattle.std.proofs.lemmas.List.{get_or-map}
use Rattle.zr_cmd.specs.Forms.{Suits, Pattern, a_path, pattern_of, word_at}
use Rattle.zr_cmd.specs.Steps.{SuitsAt, texts}
use Rattle.zr_cmd.specs.declared.forms.Part.{Part}
use Rattle.zr_cmd.specs.declared.forms.Part.TheVariants as part
use Rattle.zr_cmd.proofs.Longest.{le-or-lt}
use Rattle.zr_cmd.proofs.reading.front.Goals as goal

pub loop-place-preserved : goal.loop-place-preserved
loop-place-preserved c =
    let patterns = map pattern_of c.args.parts.now in
    let words = texts c.args.words.now in
    let place = c.loop-place.place in
    let none : Part = part.Fixed (record { ref_ptr = (0, 0); now = [] }) in
    let pattern = pattern_of (get_or c.args.parts.now place none) in
    let same : get_or patterns place a_path ≡ pattern = get_or-map pattern_of c.args.parts.now place none a_path (omega arith) in
    let before : c.word_at-before.result.now ≡ word_at words (place - 1) = c.word_at-before.ensures ∙ ap (word_at words) c.saturating_sub.ensures in
    let fits : Suits pattern c.word_at-before.result.now c.word_at.result.now = c.in_ok-fits.ensures.0 (let yes = c.if-not-branch.false in cc) in
    let here : SuitsAt patterns words place = subst (λ (p : Pattern). Suits p (word_at words (place - 1)) (word_at words place)) (sym same)
    (subst (λ (b : List ℕ). Suits pattern b (word_at words place)) before (subst (λ (w : List ℕ). Suits pattern c.word_at-before.result.now w) c.word_at.ensures fits)) in
    λ k inside. elim (le-or-lt (k + 1) place) [
      | inl below ↦ c.loop-place.invariant k (omega arith)
      | inr last ↦ subst (λ (n : ℕ). SuitsAt patterns words n) (omega arith) here
    ]
