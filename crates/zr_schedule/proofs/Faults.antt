-- From a scan that stops to the place of the fault.
use Rattle.std.proofs.Common.{◌≡◌, ℕ, zero, suc, ◌+◌, ◌-◌, ◌<◌, ◌≤◌, List, [], ◌∷◌, ◌++◌, length, take, Some, None, Result, Ok, Err, refl, sym, ap, subst, ◌∙◌, append_assoc, arith}
use Rattle.std.proofs.lemmas.List.{append-nil, length-append, take_at}
use Rattle.zr_schedule.specs.declared.item.Limits.{Limits}
use Rattle.zr_schedule.specs.declared.item.Item.{Item}
use Rattle.zr_schedule.specs.Tokens.{Token, tokens, widths}
use Rattle.zr_schedule.specs.Cron.{item_of, IsItem}
use Rattle.zr_schedule.specs.Fault.{Begins, IsFault, IsItemFault}
use Rattle.zr_schedule.specs.declared.item.Stop.{Stop}
use Rattle.zr_schedule.specs.Scan.{Gives, item_at}
use Rattle.zr_schedule.proofs.Tokens.{widths-tokens}
use Rattle.zr_schedule.proofs.Scans.{Dead, Stuck, Exact}
use Rattle.zr_schedule.proofs.Items.{item_exact}

widths-append : (front rest : List Token) → widths (front ++ rest) ≡ widths front + widths rest
widths-append [] rest = omega arith
widths-append (t ∷ front) rest = let e = widths-append front rest in omega (arith, e)

past_front : (front : List Token) (t : Token) (rest : List Token) (longer : ℕ) → length front < longer → (more : List Token) × (take longer (front ++ t ∷ rest) ≡ front ++ t ∷ more)
past_front [] t rest zero h = absurd (omega arith)
past_front [] t rest (suc k) h = (take k rest, refl)
past_front (f ∷ front) t rest zero h = absurd (omega arith)
past_front (f ∷ front) t rest (suc k) h = let w = past_front front t rest k (omega arith) in (w.0, ap (λ (u : List Token). f ∷ u) w.1)

none_begins : (limits : Limits) (front rest : List Token) → Dead (item_of limits) front rest → (longer : ℕ) → length front < longer → longer ≤ length (front ++ rest) → ¬ Begins (IsItem limits) (take longer (front ++ rest))
none_begins limits front [] dead longer above within begins = let same = append-nil front in let short : longer ≤ length front = subst (λ (t : List Token). longer ≤ length t) same within in omega arith
none_begins limits front (t ∷ rest) dead longer above within (more, (item, good)) =
    let w = past_front front t rest longer above in
    let same : take longer (front ++ t ∷ rest) ++ more ≡ front ++ t ∷ (w.0 ++ more) = ap (λ (u : List Token). u ++ more) w.1 ∙ append_assoc front (t ∷ w.0) more in
    let none = dead (w.0 ++ more) in
    let some = ap (item_of limits) (sym same) ∙ good in
    cc (none, some)

front_fault : (limits : Limits) (front rest more : List Token) (item : Item) → item_of limits (front ++ more) ≡ Some item → item_of limits (front ++ rest) ≡ None → Dead (item_of limits) front rest → IsFault (IsItem limits) (front ++ rest) (length front)
front_fault limits front rest more item begins bad dead = record {
  bad = λ (item, good). cc;
  within = omega (arith, length-append front rest);
  begins = (more, (item, ap (λ (u : List Token). item_of limits (u ++ more)) (take_at front rest (length front) refl) ∙ begins));
  longest = none_begins limits front rest dead;
}

stuck_fault : (limits : Limits) (all rest : List Token) → (s : Stuck (item_of limits) all rest) → IsFault (IsItem limits) all (length s.front)
stuck_fault limits all rest s =
    subst (λ (u : List Token). IsFault (IsItem limits) u (length s.front)) (sym s.parts) (front_fault limits s.front rest s.more s.item s.begins (ap (item_of limits) (sym s.parts) ∙ s.bad) s.dead)

stuck_place : (limits : Limits) (all rest : List Token) → (s : Stuck (item_of limits) all rest) → widths (take (length s.front) all) + widths rest ≡ widths all
stuck_place limits all rest s =
    let cut : take (length s.front) all ≡ s.front = ap (λ (u : List Token). take (length s.front) u) s.parts ∙ take_at s.front rest (length s.front) refl in
    ap (λ (u : List Token). widths u + widths rest) cut ∙ sym (widths-append s.front rest) ∙ ap widths (sym s.parts)

-- the item that a text is
item_read : (limits : Limits) (text : List ℕ) (item : Item) → item_at limits (tokens text) ≡ Ok item → item_of limits (tokens text) ≡ Some item
item_read limits text item e = subst (Exact (item_of limits) (tokens text)) e (item_exact limits (tokens text))

stuck : (limits : Limits) (text : List ℕ) (rest : List Token) → item_at limits (tokens text) ≡ Err rest → Stuck (item_of limits) (tokens text) rest
stuck limits text rest e = subst (Exact (item_of limits) (tokens text)) e (item_exact limits (tokens text))

left_within : (limits : Limits) (text : List ℕ) (rest : List Token) → item_at limits (tokens text) ≡ Err rest → widths rest ≤ length text
left_within limits text rest e = let s = stuck limits text rest e in let p = stuck_place limits (tokens text) rest s in let w = widths-tokens text in omega (arith, p, w)

item_fault : (limits : Limits) (text : List ℕ) (rest : List Token) → item_at limits (tokens text) ≡ Err rest → IsItemFault limits text (length text - widths rest)
item_fault limits text rest e =
    let s = stuck limits text rest e in
    let p = stuck_place limits (tokens text) rest s in
    let w = widths-tokens text in
    (length s.front, stuck_fault limits (tokens text) rest s, omega (arith, p, w))

-- ---- what the reader's parts returned

ok_given : {X : Type 0} (x : X) (scan : Result X (List Token)) → Gives {X = X} (Ok x) scan → scan ≡ Ok x
ok_given x (Ok y) e = ap Ok (sym e)
ok_given x (Err rest) e = absurd e

err_given : {X : Type 0} (stop : Stop) (scan : Result X (List Token)) → Gives {X = X} (Err stop) scan → (rest : List Token) × (scan ≡ Err rest) × (stop.left ≡ widths rest)
err_given stop (Ok y) e = absurd e
err_given stop (Err rest) e = (rest, refl, e)

pub item_given : (limits : Limits) (text : List ℕ) (item : Item) → Gives (Ok item) (item_at limits (tokens text)) → item_of limits (tokens text) ≡ Some item
item_given limits text item g = item_read limits text item (ok_given item (item_at limits (tokens text)) g)

pub fault_given : (limits : Limits) (text : List ℕ) (stop : Stop) → Gives {X = Item} (Err stop) (item_at limits (tokens text)) → IsItemFault limits text (length text - stop.left)
fault_given limits text stop g = let r = err_given stop (item_at limits (tokens text)) g in subst (λ (n : ℕ). IsItemFault limits text (length text - n)) (sym r.2) (item_fault limits text r.0 r.1)

pub stop_within : (limits : Limits) (text : List ℕ) (stop : Stop) → Gives {X = Item} (Err stop) (item_at limits (tokens text)) → stop.left ≤ length text
stop_within limits text stop g = let r = err_given stop (item_at limits (tokens text)) g in let h = left_within limits text r.0 r.1 in let e = r.2 in omega (arith, h, e)
