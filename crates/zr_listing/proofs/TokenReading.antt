use Rattle.std.proofs.Common.{◌≡◌, ◌≢◌, ◌==◌, ◌+◌, ◌<◌, ◌≤◌, ℕ, Bool, true, List, [], ◌∷◌, ◌++◌, Option, Some, None, is_some, refl, arith, ap, ◌∙◌, sym, subst, length, append_assoc, length-append, Result, Ok, Err, IfErr}
use Rattle.std.specs.List.{AllZip, flat_map, join_with_byte}
use Rattle.std.proofs.lemmas.Bool.Decides.{nat_tests}
use Rattle.std.proofs.lemmas.Grind.{flat_map-append}
use Rattle.std.proofs.lemmas.List.{append_cancel_right, flat_map_more}
use Rattle.std.proofs.lemmas.List.Splits.{join_with_byte-slice_split}
use Rattle.zr_names.specs.declared.unit.Guid.{Guid}
use Rattle.zr_command.specs.declared.version.TokenInfo.{TokenInfo}
use Rattle.zr_listing.specs.Lines.{lines_of}
use Rattle.zr_listing.specs.Listing.{IsGarbled}
use Rattle.zr_listing.specs.Token.{IsTokenLine, IsTokenListing, to_guid, from_guid, to_guids, from_guids, guids_of}
use Rattle.zr_listing.specs.TokenFault.{IsBadTokenAt, IsFirstBadTokenLine, KeysDiffer}
use Rattle.zr_listing.specs.TokenSteps.{repeats, StopsAt, TakesLine}
use Rattle.zr_listing.specs.declared.faults.ListFault.{ListFault}
use Rattle.zr_listing.specs.declared.faults.ListFault.TheVariants as fault
use Rattle.zr_listing.specs.declared.token.Seen.{Seen}
use Rattle.zr_listing.specs.declared.token.TokenLine.{TokenLine}
use Rattle.zr_listing.specs.declared.token.TokenLine.TheVariants as line
use Rattle.zr_listing.proofs.Exact.{GoesOn, lines-one, walk, zip-one}
use Rattle.zr_listing.proofs.Reading.{zip-push}
use Rattle.zr_listing.proofs.TokenLines.{IsTokenLine-one}

-- what stands while lines are read: those before the rest say what was seen
pub record ReadingToken (bytes rest : List ℕ) (number : ℕ) (seen : Seen) : Type 0 where
  pub earlier : List (List ℕ)
  pub said : List TokenLine
  pub cut : lines_of bytes ≡ earlier ++ lines_of rest
  pub counted : number ≡ length earlier + 1
  pub each : AllZip IsTokenLine earlier said
  pub to : to_guids said ≡ guids_of seen.to
  pub from : from_guids said ≡ guids_of seen.from
  pub room : number + length rest ≤ length bytes + 1

pub begun : (bytes : List ℕ) (seen : Seen) → seen.to ≡ None → seen.from ≡ None → ReadingToken bytes bytes 1 seen
begun bytes seen to from = record {
  earlier = [];
  said = [];
  cut = refl;
  counted = refl;
  each = tt;
  to = ap guids_of (sym to);
  from = ap guids_of (sym from);
  room = omega arith;
}

-- one more good line
pub more : (bytes rest after : List ℕ) (number : ℕ) (seen seen' : Seen) → ReadingToken bytes rest number seen → TakesLine rest seen after seen' → ReadingToken bytes after (number + 1) seen'
more bytes rest after number seen seen' r t = record {
  earlier = r.earlier ++ t.line ∷ [];
  said = r.said ++ t.said ∷ [];
  cut = r.cut ∙ ap (λ l. r.earlier ++ l) t.cut ∙ sym (append_assoc r.earlier (t.line ∷ []) (lines_of after));
  counted = omega (arith, r.counted, length-append r.earlier (t.line ∷ []));
  each = zip-push IsTokenLine r.earlier r.said t.line t.said r.each t.spelled;
  to = sym (flat_map_more to_guid [] r.said t.said) ∙ ap (λ l. l ++ to_guid t.said) r.to ∙ sym t.sees.to;
  from = sym (flat_map_more from_guid [] r.said t.said) ∙ ap (λ l. l ++ from_guid t.said) r.from ∙ sym t.sees.from;
  room = omega (arith, r.room, t.shorter);
}

-- at most one guid
pub one-most : (o : Option Guid) → length (guids_of o) ≤ 1
one-most None = omega arith
one-most (Some guid) = omega arith

differ : (said : List TokenLine) (seen : Seen) → to_guids said ≡ guids_of seen.to → from_guids said ≡ guids_of seen.from → KeysDiffer said
differ said seen to from =
    let tos : length (to_guids said) ≡ length (guids_of seen.to) = ap length to in
    let froms : length (from_guids said) ≡ length (guids_of seen.from) = ap length from in
    record { to = omega (arith, tos, one-most seen.to); from = omega (arith, froms, one-most seen.from) }

some-twice : (o : Option Guid) (guid : Guid) → is_some o ≡ true → length (guids_of o ++ guid ∷ []) ≤ 1 → ⊥
some-twice None guid some few = cc
some-twice (Some other) guid some few = omega (arith, few)

twice : (seen : Seen) (said : TokenLine) → repeats seen said ≡ true → length (guids_of seen.to ++ to_guid said) ≤ 1 → length (guids_of seen.from ++ from_guid said) ≤ 1 → ⊥
twice seen (line.To guid) again to from = some-twice seen.to guid again to
twice seen (line.From guid) again to from = some-twice seen.from guid again from
twice seen line.Other again to from = cc

-- a line that is none, is not good or repeats a key
pub stopped : (bytes rest : List ℕ) (number : ℕ) (seen : Seen) → ReadingToken bytes rest number seen → StopsAt rest seen → 0 < length rest → IsFirstBadTokenLine bytes number
stopped bytes rest number seen r b some = record {
  earlier = r.earlier;
  line = b.line;
  later = b.later;
  said = r.said;
  cut = r.cut ∙ ap (λ l. r.earlier ++ l) b.cut;
  counted = r.counted;
  each = r.each;
  differ = differ r.said seen r.to r.from;
  missing = λ last empty.
      let whole : lines_of rest ≡ [] ∷ [] = b.cut ∙ (rw last (ap (λ l. l ∷ []) empty)) in
      let nothing : [] ≡ rest = sym (ap (join_with_byte 10) whole) ∙ join_with_byte-slice_split 10 rest in
      let none : 0 ≡ length rest = ap length nothing in
      absurd (omega (arith, none, some));
  bad = λ more last spelled keys.
      let to : to_guids (r.said ++ last ∷ []) ≡ guids_of seen.to ++ to_guid last = sym (flat_map_more to_guid [] r.said last) ∙ ap (λ l. l ++ to_guid last) r.to in
      let from : from_guids (r.said ++ last ∷ []) ≡ guids_of seen.from ++ from_guid last = sym (flat_map_more from_guid [] r.said last) ∙ ap (λ l. l ++ from_guid last) r.from in
      twice seen last (b.bad more last spelled) (subst (λ (l : List Guid). length l ≤ 1) to keys.to) (subst (λ (l : List Guid). length l ≤ 1) from keys.from);
}

-- all lines are good, and none gives the guid of what is sent
pub ended : (bytes : List ℕ) (number : ℕ) (seen : Seen) → ReadingToken bytes [] number seen → seen.to ≡ None → IsFirstBadTokenLine bytes number
ended bytes number seen r none = record {
  earlier = r.earlier;
  line = [];
  later = [];
  said = r.said;
  cut = r.cut;
  counted = r.counted;
  each = r.each;
  differ = differ r.said seen r.to r.from;
  missing = λ last empty. r.to ∙ ap guids_of none;
  bad = λ more last spelled keys. more refl;
}

-- all lines are good, and one gives it
pub done : (bytes : List ℕ) (number : ℕ) (seen : Seen) (to : Guid) → ReadingToken bytes [] number seen → seen.to ≡ Some to → IsTokenListing bytes (record { to = to; from = seen.from })
done bytes number seen to r some = record {
  said = r.said;
  lines = record { lines = r.earlier; ended = r.cut; each = r.each };
  to = r.to ∙ ap guids_of some;
  from = r.from;
}

guids-one : (a b : Option Guid) → guids_of a ≡ guids_of b → a ≡ b
guids-one None None same = refl
guids-one None (Some b) same = cc
guids-one (Some a) None same = cc
guids-one (Some a) (Some b) same = cc

-- bytes show one thing at most
pub token-one : (bytes : List ℕ) (a b : TokenInfo) → IsTokenListing bytes a → IsTokenListing bytes b → a ≡ b
token-one bytes a b p q =
    let same : p.said ≡ q.said = lines-one IsTokenLine IsTokenLine-one bytes p.said q.said p.lines q.lines in
    let tos : a.to ∷ [] ≡ b.to ∷ [] = sym p.to ∙ ap to_guids same ∙ q.to in
    let to : a.to ≡ b.to = cc in
    let from : a.from ≡ b.from = guids-one a.from b.from (sym p.from ∙ ap from_guids same ∙ q.from) in
    let info : Guid → Option Guid → TokenInfo = λ t f. record { to = t; from = f } in
    ap (λ t. info t a.from) to ∙ ap (info b.to) from

-- what lines give at most once, their first ones do
pub front-few : (f : TokenLine → List Guid) (rows more : List TokenLine) (row : TokenLine) → length (flat_map f (rows ++ row ∷ more)) ≤ 1 → length (flat_map f (rows ++ row ∷ [])) ≤ 1
front-few f rows more row few =
    let longer : flat_map f (rows ++ row ∷ more) ≡ flat_map f (rows ++ row ∷ []) ++ flat_map f more =
    ap (flat_map f) (sym (append_assoc rows (row ∷ []) more)) ∙ flat_map-append f (rows ++ row ∷ []) more in
    let count = ap length longer in
    omega (arith, count, few, length-append (flat_map f (rows ++ row ∷ [])) (flat_map f more))

-- the row with which a listing goes on behind its first lines repeats no key
goes-on : (bytes : List ℕ) (number : ℕ) (info : TokenInfo) (b : IsFirstBadTokenLine bytes number) (p : IsTokenListing bytes info) → GoesOn IsTokenLine b.line b.later b.said p.said → ⊥
goes-on bytes number info b p on =
    let tos : length (to_guids (b.said ++ on.row ∷ on.more)) ≤ 1 =
    let count : length (to_guids (b.said ++ on.row ∷ on.more)) ≡ 1 = ap (λ l. length (to_guids l)) (sym on.longer) ∙ ap length p.to in omega (arith, count) in
    let froms : length (from_guids (b.said ++ on.row ∷ on.more)) ≤ 1 =
    let count : length (from_guids (b.said ++ on.row ∷ on.more)) ≡ length (guids_of info.from) = ap (λ l. length (from_guids l)) (sym on.longer) ∙ ap length p.from in omega (arith, count, one-most info.from) in
    b.bad on.some on.row on.spelled (record { to = front-few to_guid b.said on.more on.row tos; from = front-few from_guid b.said on.more on.row froms })

no-to : (said : List TokenLine) (guid : Guid) → to_guids said ≡ [] → to_guids said ≡ guid ∷ [] → ⊥
no-to said guid none one = let same : [] ≡ guid ∷ [] = sym none ∙ one in cc

-- where a first line is bad, the bytes show nothing
pub bad-shows-none : (bytes : List ℕ) (number : ℕ) (info : TokenInfo) → IsFirstBadTokenLine bytes number → IsTokenListing bytes info → ⊥
bad-shows-none bytes number info b p = by-end b.later b.line refl refl where
  cut : b.earlier ++ b.line ∷ b.later ≡ p.lines.lines ++ [] ∷ []
  cut = sym b.cut ∙ p.lines.ended

  on : (b.later ≡ [] → b.line ≢ []) → ⊥
  on there = goes-on bytes number info b p (walk IsTokenLine IsTokenLine-one b.earlier p.lines.lines b.line b.later b.said p.said b.each p.lines.each cut there)

  by-end : (later : List (List ℕ)) (line : List ℕ) → b.later ≡ later → b.line ≡ line → ⊥
  by-end [] [] is_later is_line =
      let whole : b.earlier ++ [] ∷ [] ≡ p.lines.lines ++ [] ∷ [] = ap (λ l. b.earlier ++ l) (sym (rw (is_later, is_line) refl)) ∙ cut in
      let lines : p.lines.lines ≡ b.earlier = append_cancel_right p.lines.lines b.earlier ([] ∷ []) (sym whole) in
      let same : b.said ≡ p.said = zip-one IsTokenLine IsTokenLine-one b.earlier b.said p.said b.each (subst (λ (ls : List (List ℕ)). AllZip IsTokenLine ls p.said) lines p.lines.each) in
      no-to p.said info.to (ap to_guids (sym same) ∙ b.missing is_later is_line) p.to
  by-end [] (x ∷ xs) is_later is_line = on (λ _ empty. let same : [] ≡ x ∷ xs = sym empty ∙ is_line in cc)
  by-end (l ∷ ls) line is_later is_line = on (λ none. absurd (let same : [] ≡ l ∷ ls = sym none ∙ is_later in cc))

-- what a reader's fault says: nothing is shown
pub fault-shows-none : (bytes : List ℕ) (r : Result TokenInfo ListFault) → IfErr r (IsBadTokenAt bytes) → IsGarbled r → (info : TokenInfo) → IsTokenListing bytes info → ⊥
fault-shows-none bytes (Ok x) bad garbled info shows = garbled
fault-shows-none bytes (Err (fault.Garbled n)) bad garbled info shows = bad-shows-none bytes n info bad shows
fault-shows-none bytes (Err fault.NoMemory) bad garbled info shows = garbled

pub no-rest : (rest : List ℕ) (empty : Bool) → empty ≡ (length rest == 0) → empty ≡ true → rest ≡ []
no-rest [] empty e high = refl
no-rest (x ∷ xs) empty e high = absurd (grind (arith, nat_tests))
