-- A history that grows, and units that are added one after the other.
use Rattle.std.proofs.Common.{◌≡◌, ℕ, List, [], ◌∷◌, ◌++◌, map, refl}
use Rattle.zr_names.specs.declared.unit.Unit.{Unit}
use Rattle.zr_ledger.specs.Steps.{after, coalesced_from, is_new, joined, joined_all, replay, with_one}
use Rattle.zr_ledger.specs.declared.state.Entry.{Entry}
use Rattle.zr_ledger.specs.declared.state.Entry.TheVariants.{Add}
use Rattle.zr_ledger.specs.declared.state.State.{State}

pub replay-append : (base : State) (history more : List Entry) → replay base (history ++ more) ≡ replay (replay base history) more
replay-append base [] more = refl
replay-append base (entry ∷ history) more = replay-append (after base entry) history more

pub replay-push : (base : State) (history : List Entry) (entry : Entry) → replay base (history ++ entry ∷ []) ≡ after (replay base history) entry
replay-push base history entry = replay-append base history (entry ∷ [])

-- the replay of adds is that of their units
pub replay-adds : (s : State) (units : List Unit) → replay s (map Add units) ≡ joined_all s units
replay-adds s [] = refl
replay-adds s (unit ∷ units) = replay-adds (joined s unit) units

pub joined_all-push : (s : State) (units : List Unit) (unit : Unit) → joined_all s (units ++ unit ∷ []) ≡ joined (joined_all s units) unit
joined_all-push s [] unit = refl
joined_all-push s (first ∷ units) unit = joined_all-push (joined s first) units unit

pub coalesced_from-push : (before : ℕ) (s : State) (units : List Unit) (unit : Unit) → coalesced_from before s (units ++ unit ∷ []) ≡ with_one (coalesced_from before s units) (is_new (joined_all s units) unit)
coalesced_from-push before s [] unit = refl
coalesced_from-push before s (first ∷ units) unit =
    coalesced_from-push (with_one before (is_new s first)) (joined s first) units unit
