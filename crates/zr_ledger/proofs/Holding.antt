-- What a ledger keeps of its parts, after each call.
use Rattle.std.proofs.Common.{◌≡◌, ◌==◌, ◌+◌, ◌*◌, ◌<◌, ◌≤◌, ℕ, Bool, true, false, cond, List, [], ◌∷◌, ◌++◌, Option, Some, All, MatchOption, length, map, position, remove, slice_get, refl, sym, ap, ◌∙◌, subst, arith, length-append}
use Rattle.std.proofs.lemmas.Bool.{eqb-false, eqb-true}
use Rattle.std.proofs.lemmas.List.{length-map, length_push, nil_from_length}
use Rattle.std.proofs.lemmas.List.Edits.{length-remove}
use Rattle.std.proofs.lemmas.List.Quantifiers.{position-Some}
use Rattle.std.proofs.lemmas.Option.{slice_get_within}
use Rattle.zr_names.specs.declared.outcome.Outcome.{Outcome}
use Rattle.zr_names.specs.declared.unit.Unit.{Unit}
use Rattle.zr_ledger.specs.Kept.{HasLimit, HasRoom, Holds, IsKept}
use Rattle.zr_ledger.specs.Out.{Out}
use Rattle.zr_ledger.specs.Ready.{first_ready, is_ticket}
use Rattle.zr_ledger.specs.Steps.{ended, first_taken, is_new, joined, joined_all, joins, next_base, recalled, replay, standing, started, starts, starts_at, with_end, with_run}
use Rattle.zr_ledger.specs.declared.counts.Counts.{Counts}
use Rattle.zr_ledger.specs.declared.state.Entry.{Entry}
use Rattle.zr_ledger.specs.declared.state.Entry.TheVariants.{Add, Give, Recall, Take}
use Rattle.zr_ledger.specs.declared.state.State.{State}
use Rattle.zr_ledger.proofs.Keeping.{keeps-ended, keeps-joined_all, keeps-recalled, keeps-started}
use Rattle.zr_ledger.proofs.Replays.{replay-adds, replay-append, replay-push}

pub taken-is : (s : State) (place : ℕ) (unit : Unit) → first_ready s.limits s.waiting s.outs ≡ Some place → slice_get s.waiting place ≡ Some unit → first_taken s ≡ started place unit s
taken-is s place unit found at =
    ap (λ (o : Option ℕ). starts_at o s) found ∙ ap (λ (o : Option Unit). starts place o s) at

-- a ticket that was handed out, and what else has changed, are a start
pub started-is : (s : State) (place : ℕ) (ticket : Out) (waiting : List Unit) (outs : List Out) (counts : Counts) → waiting ≡ remove s.waiting place → outs ≡ s.outs ++ ticket ∷ [] → ticket.run ≡ s.counts.given + 1 → counts ≡ with_run ticket.unit.work s.counts → standing s.limits waiting outs counts ≡ started place ticket.unit s
started-is s place ticket waiting outs counts left joined_by run counted =
    let numbered : ℕ → Out = λ n. record { unit = ticket.unit; run = n } in
    let same : ticket ≡ numbered (s.counts.given + 1) = ap numbered run in
    rw (left, joined_by, counted)
    (ap (λ (one : Out). standing s.limits (remove s.waiting place) (s.outs ++ one ∷ []) (with_run ticket.unit.work s.counts)) same)

pub ended-is : (s : State) (place : ℕ) (outcome : Outcome) (outs : List Out) (counts : Counts) → outs ≡ remove s.outs place → counts ≡ with_end outcome s.counts → standing s.limits s.waiting outs counts ≡ ended place outcome s
ended-is s place outcome outs counts left counted = rw (left, counted) refl

room-started : (s : State) (place : ℕ) (unit : Unit) (history more : List Entry) (outs_room history_room : ℕ) → place < length s.waiting → more ≡ history ++ Take ∷ [] → HasRoom s history outs_room history_room → HasRoom (started place unit s) more outs_room history_room
room-started s place unit history more outs_room history_room within grown room =
    let waiting = length-remove s.waiting place within in
    let outs = length_push s.outs (record { unit = unit; run = s.counts.given + 1 }) in
    let entries = ap length grown ∙ length_push history Take in
    let a = room.outs in
    let b = room.history in
    record { outs = omega arith; history = omega arith }

pub holds-started : (base : State) (history more : List Entry) (s now : State) (place : ℕ) (unit : Unit) (outs_room history_room outs_now history_now : ℕ) → Holds base history s outs_room history_room → first_ready s.limits s.waiting s.outs ≡ Some place → slice_get s.waiting place ≡ Some unit → more ≡ history ++ Take ∷ [] → now ≡ started place unit s → outs_now ≡ outs_room → history_now ≡ history_room → Holds base more now outs_now history_now
holds-started base history more s now place unit outs_room history_room outs_now history_now holds found at grown is outs_same history_same =
    rw (is, outs_same, history_same) (record {
      replayed = ap (replay base) grown ∙ replay-push base history Take ∙ ap first_taken holds.replayed ∙ taken-is s place unit found at;
      keeps = keeps-started s place unit holds.keeps found at;
      has_room = room-started s place unit history more outs_room history_room (slice_get_within s.waiting place unit at) grown holds.has_room;
    })

room-ended : (s : State) (place : ℕ) (outcome : Outcome) (history more : List Entry) (outs_room history_room : ℕ) → place < length s.outs → more ≡ history ++ Give place outcome ∷ [] → HasRoom s history outs_room history_room → HasRoom (ended place outcome s) more outs_room history_room
room-ended s place outcome history more outs_room history_room within grown room =
    let outs = length-remove s.outs place within in
    let entries = ap length grown ∙ length_push history (Give place outcome) in
    let a = room.outs in
    let b = room.history in
    record { outs = omega arith; history = omega arith }

pub holds-ended : (base : State) (history more : List Entry) (s now : State) (place : ℕ) (ticket : Out) (outcome : Outcome) (outs_room history_room outs_now history_now : ℕ) → Holds base history s outs_room history_room → position (is_ticket ticket) s.outs ≡ Some place → more ≡ history ++ Give place outcome ∷ [] → now ≡ ended place outcome s → outs_now ≡ outs_room → history_now ≡ history_room → Holds base more now outs_now history_now
holds-ended base history more s now place ticket outcome outs_room history_room outs_now history_now holds found grown is outs_same history_same =
    let within = (position-Some (is_ticket ticket) s.outs place ticket found).0 in
    rw (is, outs_same, history_same) (record {
      replayed = ap (replay base) grown ∙ replay-push base history (Give place outcome) ∙ ap (ended place outcome) holds.replayed;
      keeps = keeps-ended s place ticket outcome holds.keeps within;
      has_room = room-ended s place outcome history more outs_room history_room within grown holds.has_room;
    })

-- nothing is out, so nothing is given up
same-recalled : (s : State) → s.outs ≡ [] → s ≡ recalled s
same-recalled s none = ap (λ (outs : List Out). record s { outs = outs }) none

recalled-by : (none : Bool) (base : State) (history : List Entry) (s : State) → (length s.outs == 0) ≡ none → replay base history ≡ s → replay base (cond none history (history ++ Recall ∷ [])) ≡ recalled s
recalled-by true base history s is replayed =
    replayed ∙ same-recalled s (nil_from_length s.outs (eqb-true (length s.outs) 0 is))
recalled-by false base history s is replayed = replay-push base history Recall ∙ ap recalled replayed

room-by : (none : Bool) (s : State) (history : List Entry) (outs_room history_room : ℕ) → (length s.outs == 0) ≡ none → HasRoom s history outs_room history_room → HasRoom (recalled s) (cond none history (history ++ Recall ∷ [])) outs_room history_room
room-by true s history outs_room history_room is room =
    let a = room.outs in
    let b = room.history in
    record { outs = omega arith; history = omega arith }
room-by false s history outs_room history_room is room =
    let a = room.outs in
    let b = room.history in
    let some = eqb-false (length s.outs) 0 is in
    let entries = length_push history Recall in
    record { outs = omega arith; history = omega arith }

pub holds-recalled : (base : State) (history more : List Entry) (s now : State) (outs_room history_room outs_now history_now : ℕ) → Holds base history s outs_room history_room → more ≡ cond (length s.outs == 0) history (history ++ Recall ∷ []) → now ≡ recalled s → outs_now ≡ outs_room → history_now ≡ history_room → Holds base more now outs_now history_now
holds-recalled base history more s now outs_room history_room outs_now history_now holds grown is outs_same history_same =
    rw (grown, is, outs_same, history_same) (record {
      replayed = recalled-by (length s.outs == 0) base history s refl holds.replayed;
      keeps = keeps-recalled s holds.keeps;
      has_room = room-by (length s.outs == 0) s history outs_room history_room refl holds.has_room;
    })

-- units that are added are at most so many more that wait, and leave what is out
joined-size : (is : Bool) (s : State) (unit : Unit) → (length (joins is unit s).waiting ≤ length s.waiting + 1) × ((joins is unit s).outs ≡ s.outs)
joined-size true s unit = let n = length_push s.waiting unit in (omega arith, refl)
joined-size false s unit = (omega arith, refl)

pub joined_all-size : (s : State) (units : List Unit) → (length (joined_all s units).waiting ≤ length s.waiting + length units) × ((joined_all s units).outs ≡ s.outs)
joined_all-size s [] = (omega arith, refl)
joined_all-size s (unit ∷ units) =
    let one = joined-size (is_new s unit) s unit in
    let all = joined_all-size (joined s unit) units in
    let a = one.0 in
    let b = all.0 in
    (omega arith, all.1 ∙ one.1)

room-added : (s now : State) (begun more : List Entry) (units : List Unit) (outs_now history_now : ℕ) → now ≡ joined_all s units → more ≡ begun ++ map Add units → length s.waiting + length s.outs + length units ≤ outs_now → length begun + (3 * length units + (2 * length s.waiting + length s.outs)) ≤ history_now → HasRoom now more outs_now history_now
room-added s now begun more units outs_now history_now is grown outs_room history_room =
    let size = joined_all-size s units in
    let waiting : length now.waiting ≤ length s.waiting + length units = subst (λ (x : State). length x.waiting ≤ length s.waiting + length units) (sym is) size.0 in
    let outs : length now.outs ≡ length s.outs = ap (λ (x : State). length x.outs) is ∙ ap length size.1 in
    let entries = ap length grown ∙ length-append begun (map Add units) ∙ ap (λ n. length begun + n) (length-map units Add) in
    record { outs = omega arith; history = omega arith }

pub holds-added : (base base_now : State) (history begun more : List Entry) (s now : State) (units : List Unit) (outs_room history_room outs_now history_now : ℕ) → Holds base history s outs_room history_room → replay base_now begun ≡ s → more ≡ begun ++ map Add units → now ≡ joined_all s units → All (HasLimit s.limits) units → length s.waiting + length s.outs + length units ≤ outs_now → length begun + (3 * length units + (2 * length s.waiting + length s.outs)) ≤ history_now → Holds base_now more now outs_now history_now
holds-added base base_now history begun more s now units outs_room history_room outs_now history_now holds begins grown is has outs_in history_in = record {
  replayed = ap (replay base_now) grown ∙ replay-append base_now begun (map Add units)
      ∙ ap (λ (x : State). replay x (map Add units)) begins ∙ replay-adds s units ∙ sym is;
  keeps = subst IsKept (sym is) (keeps-joined_all s units holds.keeps has);
  has_room = room-added s now begun more units outs_now history_now is grown outs_in history_in;
}

-- more room is room too
pub holds-wider : (base : State) (history : List Entry) (s now : State) (outs_room history_room outs_now history_now : ℕ) → Holds base history s outs_room history_room → now ≡ s → outs_room ≤ outs_now → history_room ≤ history_now → Holds base history now outs_now history_now
holds-wider base history s now outs_room history_room outs_now history_now holds is outs_wider history_wider =
    let a = holds.has_room.outs in
    let b = holds.has_room.history in
    rw is (record {
      replayed = holds.replayed;
      keeps = holds.keeps;
      has_room = record { outs = omega arith; history = omega arith };
    })

-- a history that begins anew does so from the state
anew-by : (long : Bool) (base base_now : State) (history begun : List Entry) (s : State) → replay base history ≡ s → MatchOption (next_base long s) (base_now ≡ base) (λ state. base_now ≡ state) → MatchOption (next_base long s) (begun ≡ history) (λ state. begun ≡ []) → (replay base_now begun ≡ s) × (length begun ≤ length history)
anew-by true base base_now history begun s replayed base_is begun_is =
    (ap (λ (entries : List Entry). replay base_now entries) begun_is ∙ base_is, let none = ap length begun_is in omega arith)
anew-by false base base_now history begun s replayed base_is begun_is =
    (ap (λ (entries : List Entry). replay base_now entries) begun_is ∙ ap (λ (state : State). replay state history) base_is ∙ replayed, let same = ap length begun_is in omega arith)

pub anew : (long : Bool) (next : Option State) (base base_now : State) (history begun : List Entry) (s : State) → next ≡ next_base long s → replay base history ≡ s → MatchOption next (base_now ≡ base) (λ state. base_now ≡ state) → MatchOption next (begun ≡ history) (λ state. begun ≡ []) → (replay base_now begun ≡ s) × (length begun ≤ length history)
anew long next base base_now history begun s is replayed base_is begun_is =
    anew-by long base base_now history begun s replayed
    (subst (λ (o : Option State). MatchOption o (base_now ≡ base) (λ state. base_now ≡ state)) is base_is)
    (subst (λ (o : Option State). MatchOption o (begun ≡ history) (λ state. begun ≡ [])) is begun_is)
