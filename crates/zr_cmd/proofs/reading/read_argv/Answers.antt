use Rattle.std.proofs.Common.{◌≡◌, ◌+◌, ℕ, map, arith, subst, sym, refl, get_or, length, List, ap, max}
use Rattle.std.proofs.lemmas.List.{length-map}
use Rattle.std.specs.String.{string_bytes}
use Rattle.zr_cmd.specs.Forms.{Pattern, pattern_of, patterns_of}
use Rattle.zr_cmd.specs.Steps.{IsFront, texts}
use Rattle.zr_cmd.specs.Words.{Spells}
use Rattle.zr_cmd.specs.declared.forms.Form.TheVariants as form
use Rattle.zr_cmd.proofs.Longest.{Tried, at-place, bad-word, forms, more-tried, none-tried, unknown, whole-from, whole-spelled}
use Rattle.zr_cmd.proofs.reading.read_argv.Goals as goal
use Rattle.zr_cmd.proofs.reading.read_argv.Goals.{else-count-words-via-then-count-words+else-count-parts, else-count-words-via-else-count-words}

pub loop-form-init : goal.loop-form-init
loop-form-init c = record { tried = none-tried (texts c.args.words.now); same = refl }

pub call_as-requires : goal.call_as-requires
call_as-requires c =
    let f = get_or forms c.loop-form.form-index form.Sets in
    let words = texts c.args.words.now in
    let parts = c.parts-parts.result.now in
    let count = length-map c.args.words.now string_bytes in
    let all = length-map parts pattern_of in
    (whole-spelled f words (whole-from f words c.in_ok-count.count (map pattern_of parts) c.in_ok-count.ensures c.parts-parts.ensures (omega (arith, count)) (omega (arith, all)))).named

pub returns-then-count-parts : goal.returns-then-count-parts
returns-then-count-parts c =
    let f = get_or forms c.loop-form.form-index form.Sets in
    let words = texts c.args.words.now in
    let parts = c.parts-parts.result.now in
    let count = length-map c.args.words.now string_bytes in
    let all = length-map parts pattern_of in
    subst (Spells words) (sym c.in_ok-call_as.ensures)
    (whole-spelled f words (whole-from f words c.in_ok-count.count (map pattern_of parts) c.in_ok-count.ensures c.parts-parts.ensures (omega (arith, count)) (omega (arith, all))))

pub loop-form-preserved : goal.loop-form-preserved
loop-form-preserved c =
    let i = c.loop-form.form-index in
    let f = get_or forms i form.Sets in
    let words = texts c.args.words.now in
    let parts = c.parts-parts.result.now in
    let n = c.in_ok-count.count in
    let count = length-map c.args.words.now string_bytes in
    let all = length-map parts pattern_of in
    let own : IsFront (patterns_of f) words n = subst (λ (ps : List Pattern). IsFront ps words n) c.parts-parts.ensures c.in_ok-count.ensures in
    let larger : max c.loop-form.most n ≡ c.max-most.result = omega arith in
    record {
      tried = subst (λ (k : ℕ). Tried words (i + 1) k) larger
          (more-tried words i c.loop-form.most n f c.loop-form.invariant.tried (at-place i) own (λ whole full. elim c.else-count-words.branch [
            | else-count-words-via-then-count-words+else-count-parts w ↦ (let parted = ap length c.parts-parts.ensures in omega (arith, all))
            | else-count-words-via-else-count-words w ↦ omega (arith, count)
          ]));
      same = refl;
    }

pub returns-then-most-eq0 : goal.returns-then-most-eq0
returns-then-most-eq0 c =
    let words = texts c.args.words.now in
    unknown words (subst (λ (k : ℕ). Tried words k 0) (omega arith) (subst (λ (m : ℕ). Tried words c.loop-form.form-index m) (omega arith) c.loop-form.invariant.tried))

pub returns-else-most-eq0 : goal.returns-else-most-eq0
returns-else-most-eq0 c =
    let words = texts c.args.words.now in
    bad-word words c.loop-form.most (subst (λ (k : ℕ). Tried words k c.loop-form.most) (omega arith) c.loop-form.invariant.tried) (omega arith)
