-- Which numbers an add moves.
use Rattle.std.proofs.Common.{◌≡◌, ◌+◌, ◌-◌, ◌^◌, ◌≤◌, ℕ, Bool, true, false, List, [], ◌∷◌, ap, ap₂, arith, length, refl, sym, ◌∙◌}
use Rattle.zr_names.specs.Totals.{plus}
use Rattle.zr_names.specs.declared.totals.Totals.{Totals}
use Rattle.zr_names.specs.declared.unit.Unit.{Unit}
use Rattle.zr_ledger.specs.Steps.{coalesced_from, is_new, joined, joined_all, joins, one_due, with_one}
use Rattle.zr_ledger.specs.declared.counts.Counts.{Counts}
use Rattle.zr_ledger.specs.declared.counts.Kinds.{Kinds}
use Rattle.zr_ledger.specs.declared.state.State.{State}

-- so many more are due, and so many more coalesced
abbrev raised_by : Totals → ℕ → ℕ → Totals
raised_by totals due coalesced =
    record totals { due = plus totals.due due; coalesced = plus totals.coalesced coalesced }

totals-joins : (is : Bool) (s : State) (unit : Unit) (was : Totals) (due coalesced : ℕ) → s.counts.totals ≡ raised_by was due coalesced → (joins is unit s).counts.totals ≡ raised_by was (due + 1) (with_one coalesced is)
totals-joins true s unit was due coalesced is =
    let one : plus (plus was.due due) 1 ≡ plus was.due (due + 1) = omega arith in
    let counted : ℕ → Totals = λ n. record was { due = n; coalesced = plus was.coalesced coalesced } in
    ap one_due is ∙ ap counted one
totals-joins false s unit was due coalesced is =
    let one : plus (plus was.due due) 1 ≡ plus was.due (due + 1) = omega arith in
    let more : plus (plus was.coalesced coalesced) 1 ≡ plus was.coalesced (plus coalesced 1) = omega arith in
    let missed : Totals → Totals = λ totals. record (one_due totals) { coalesced = plus totals.coalesced 1 } in
    let counted : ℕ → ℕ → Totals = λ n m. record was { due = n; coalesced = m } in
    ap missed is ∙ ap₂ counted one more

totals-joined : (s : State) (units : List Unit) (was : Totals) (due coalesced : ℕ) → s.counts.totals ≡ raised_by was due coalesced → (joined_all s units).counts.totals ≡ raised_by was (due + length units) (coalesced_from coalesced s units)
totals-joined s [] was due coalesced is =
    is ∙ ap (λ (n : ℕ). raised_by was n coalesced) (omega arith)
totals-joined s (unit ∷ units) was due coalesced is =
    totals-joined (joined s unit) units was (due + 1) (with_one coalesced (is_new s unit)) (totals-joins (is_new s unit) s unit was due coalesced is)
    ∙ ap (λ (n : ℕ). raised_by was n (coalesced_from (with_one coalesced (is_new s unit)) (joined s unit) units)) (omega arith)

pub totals-added : (s now : State) (spares units : List Unit) (was : Counts) (n : ℕ) → now ≡ joined_all s spares → n ≡ coalesced_from 0 s spares → s.counts ≡ was → spares ≡ units → was.totals.due ≤ 2 ^ 64 - 1 → was.totals.coalesced ≤ 2 ^ 64 - 1 → now.counts.totals ≡ record was.totals { due = plus was.totals.due (length units); coalesced = plus was.totals.coalesced n }
totals-added s now spares units was n is counted before same due coalesced =
    let none : plus was.totals.due 0 ≡ was.totals.due = omega arith in
    let missed : plus was.totals.coalesced 0 ≡ was.totals.coalesced = omega arith in
    let whole : ℕ → ℕ → Totals = λ d m. record was.totals { due = d; coalesced = m } in
    let begun : s.counts.totals ≡ raised_by was.totals 0 0 = ap (λ (counts : Counts). counts.totals) before ∙ ap₂ whole (sym none) (sym missed) in
    ap (λ (state : State). state.counts.totals) is ∙ totals-joined s spares was.totals 0 0 begun
    ∙ ap₂ (λ (d m : ℕ). raised_by was.totals d m) (let long = ap (λ (us : List Unit). length us) same in omega arith) (sym counted)

counts-joins : (is : Bool) (s : State) (unit : Unit) → ((joins is unit s).counts.given ≡ s.counts.given) × ((joins is unit s).counts.taken ≡ s.counts.taken)
counts-joins true s unit = (refl, refl)
counts-joins false s unit = (refl, refl)

counts-joined : (s : State) (units : List Unit) → ((joined_all s units).counts.given ≡ s.counts.given) × ((joined_all s units).counts.taken ≡ s.counts.taken)
counts-joined s [] = (refl, refl)
counts-joined s (unit ∷ units) =
    let one = counts-joins (is_new s unit) s unit in
    let all = counts-joined (joined s unit) units in
    (all.0 ∙ one.0, all.1 ∙ one.1)

pub counts-added : (s now : State) (units : List Unit) (was : Counts) → now ≡ joined_all s units → s.counts ≡ was → now.counts ≡ record was { totals = now.counts.totals; accepted = now.counts.accepted; coalesced = now.counts.coalesced }
counts-added s now units was is before =
    let all = counts-joined s units in
    let given = ap (λ (state : State). state.counts.given) is ∙ all.0 ∙ ap (λ (counts : Counts). counts.given) before in
    let taken = ap (λ (state : State). state.counts.taken) is ∙ all.1 ∙ ap (λ (counts : Counts). counts.taken) before in
    let put : ℕ → Kinds → Counts = λ g t. record now.counts { given = g; taken = t } in
    ap₂ put given taken
