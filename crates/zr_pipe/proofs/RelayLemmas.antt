-- A relay between two pieces, and how it ends.
use Rattle.std.proofs.Common.{◌≡◌, ℕ, ◌+◌, ◌≤◌, List, [], ◌++◌, length, take, Option, None, Some, refl, sym, ap, ◌∙◌, subst, arith, length-append}
use Rattle.std.proofs.lemmas.List.{length-take-le}
use Rattle.std.specs.Io.KnownBytes.{append_known, prepend_known, IsAtEnd}
use Rattle.zr_pipe.specs.declared.pieces.RelayEnd.{RelayEnd}
use Rattle.zr_pipe.specs.declared.pieces.RelayEnd.TheVariants.{Whole, ReadFault, Limit, NoMemory}
use Rattle.zr_pipe.specs.Ends.{IsNoneAtEnd, WroteFront}
use Rattle.zr_pipe.specs.Relay.{piece_max, relay_max, EndsBy, Relayed, Carried, Stopped}
use Rattle.zr_pipe.proofs.EndsLemmas.{append_known-append, append_known-nil, prepend_known-append, prepend_known-nil}

pub carried_more : (left left' left'' written written' written'' : Option (List ℕ)) (moved more : ℕ)
    → Carried left left' written written' moved → Carried left' left'' written' written'' more
    → Carried left left'' written written'' (moved + more)
carried_more left left' left'' written written' written'' moved more first second = record {
  whole = first.whole ++ second.whole;
  taken = first.taken ∙ ap (prepend_known first.whole) second.taken ∙ prepend_known-append first.whole second.whole left'';
  put = second.put ∙ ap (λ w. append_known w second.whole) first.put ∙ append_known-append written first.whole second.whole;
  moved_is = length-append first.whole second.whole ∙ ap (λ n. n + length second.whole) first.moved_is ∙ ap (λ n. moved + n) second.moved_is;
}

pub relayed_stopped : (left left' left'' written written' written'' : Option (List ℕ)) (moved : ℕ) (ending : RelayEnd)
    → Carried left left' written written' moved → Stopped left' left'' written' written'' moved ending
    → Relayed left left'' written written'' ending
relayed_stopped left left' left'' written written' written'' moved ending first last = record {
  whole = first.whole;
  piece = last.piece;
  count = last.put.count;
  taken = first.taken ∙ ap (prepend_known first.whole) last.taken ∙ prepend_known-append first.whole last.piece left'';
  put = last.put.told ∙ ap (λ w. append_known w (take last.put.count last.piece)) first.put ∙ append_known-append written first.whole (take last.put.count last.piece);
  within = last.put.within;
  small = last.small;
  limited = subst (λ n. n + last.put.count ≤ relay_max) (sym first.moved_is) last.limited;
  ends = subst (λ n. EndsBy ending n last.piece left'') (sym first.moved_is) last.ends;
}

-- a take that gave nothing leaves the source at its end
pub at_end : (left left' : Option (List ℕ)) → IsNoneAtEnd left 0 → left ≡ prepend_known [] left' → IsAtEnd left'
at_end None None none took = tt
at_end None (Some rest) none took = cc
at_end (Some all) None none took = tt
at_end (Some all) (Some rest) none took = let gone : all ≡ [] = none.0 refl in cc

pub stopped_whole : (left left' written : Option (List ℕ)) (moved count : ℕ) (buffer : List ℕ) → count ≡ 0
    → left ≡ prepend_known (take count buffer) left' → IsNoneAtEnd left count → moved ≤ relay_max
    → Stopped left left' written written moved (Whole moved)
stopped_whole left left' written moved count buffer zero took none limited =
    let nothing : take count buffer ≡ [] = ap (λ n. take n buffer) zero in
    let same : left ≡ prepend_known [] left' = subst (λ p. left ≡ prepend_known p left') nothing took in
    record {
      piece = [];
      taken = same;
      put = record { count = 0; within = omega arith; told = sym (append_known-nil written) };
      small = omega arith;
      limited = omega (arith, limited);
      ends = (refl, refl, at_end left left' (subst (IsNoneAtEnd left) zero none) same);
    }

pub stopped_read_fault : (left left' written : Option (List ℕ)) (moved : ℕ) → left' ≡ left → moved ≤ relay_max
    → Stopped left left' written written moved (ReadFault moved)
stopped_read_fault left left' written moved same limited = record {
  piece = [];
  taken = sym same ∙ sym (prepend_known-nil left');
  put = record { count = 0; within = omega arith; told = sym (append_known-nil written) };
  small = omega arith;
  limited = omega (arith, limited);
  ends = (refl, refl);
}

-- a piece was taken, and a front of it was put
pub stopped_piece : (left left' written written' : Option (List ℕ)) (moved count : ℕ) (buffer : List ℕ) (ending : RelayEnd)
    → left ≡ prepend_known (take count buffer) left' → WroteFront written written' (take count buffer)
    → count ≤ length buffer → length buffer ≤ piece_max → moved + length buffer ≤ relay_max
    → ((piece : List ℕ) → length piece ≡ count → EndsBy ending moved piece left')
    → Stopped left left' written written' moved ending
stopped_piece left left' written written' moved count buffer ending took gave fits small limited ends =
    let size : length (take count buffer) ≡ count = length-take-le count buffer fits in
    record {
      piece = take count buffer;
      taken = took;
      put = gave;
      small = omega (arith, size, fits, small);
      limited = omega (arith, size, fits, limited, gave.within);
      ends = ends (take count buffer) size;
    }

-- a piece more was taken where no more may be put
pub stopped_limit : (left left' written : Option (List ℕ)) (count : ℕ) (buffer : List ℕ)
    → left ≡ prepend_known (take count buffer) left' → count ≤ length buffer → length buffer ≤ piece_max → ¬ count ≡ 0
    → Stopped left left' written written relay_max Limit
stopped_limit left left' written count buffer took fits small some =
    let size : length (take count buffer) ≡ count = length-take-le count buffer fits in
    record {
      piece = take count buffer;
      taken = took;
      put = record { count = 0; within = omega arith; told = sym (append_known-nil written) };
      small = omega (arith, size, fits, small);
      limited = omega arith;
      ends = (refl, omega (arith, size, some));
    }

-- no memory for the buffer: nothing was taken or put
pub relayed_none : (left written : Option (List ℕ)) → Relayed left left written written NoMemory
relayed_none left written = record {
  whole = [];
  piece = [];
  count = 0;
  taken = sym (prepend_known-nil left);
  put = sym (append_known-nil written);
  within = omega arith;
  small = omega arith;
  limited = omega arith;
  ends = omega arith;
}
