-- The function that reads the contents of a resume token agrees with their grammar, and with their first bad line.

use Rattle.std.proofs.Common.{◌≡◌, ◌≢◌, ◌≤◌, ◌<◌, ◌&&◌, ℕ, ◌+◌, Bool, true, false, not, List, [], ◌∷◌, ◌++◌, Option, Some, None, Ok, Err, drop, length, take, nat_le, nat_lt, option_map, refl, arith, ap, ◌∙◌, sym, subst, append_assoc, length-append}
use Rattle.std.specs.Prelude.{codes, if◌then◌else◌}
use Rattle.std.specs.Char.{digit_value}
use Rattle.std.specs.List.{AllZip, list_all}
use Rattle.std.specs.Option.{option_map_or}
use Rattle.std.specs.Str.Parse.{AllDigits, digits_value}
use Rattle.std.proofs.Math.Seq.{drop-append_seam, take-append_seam}
use Rattle.std.proofs.lemmas.Bool.Decides.{nat_tests}
use Rattle.std.proofs.lemmas.List.{append-nil, take-append-drop}
use Rattle.zr_command.specs.Names.{same_text}
use Rattle.zr_command.specs.declared.version.TokenInfo.{TokenInfo}
use Rattle.zr_names.specs.declared.unit.Guid.{Guid}
use Rattle.zr_listing.specs.Lines.{lines_of}
use Rattle.zr_listing.specs.Token.{behind_blanks, from_guid, from_guids, from_key, guids_of, IsHexGuid, IsHexNumber, IsTokenLine, IsTokenListing, to_guid, to_guids, to_key}
use Rattle.zr_listing.specs.TokenFault.{IsFirstBadTokenLine, KeysDiffer}
use Rattle.zr_listing.specs.declared.token.TokenLine.{TokenLine}
use Rattle.zr_listing.specs.declared.token.TokenLine.TheVariants as line
use Rattle.zr_listing.proofs.TokenLines.{keys-differ}
use Rattle.zr_listing.proofs.TokenReading.{front-few, one-most}
use Rattle.zr_exec.specs.TokenContents.{behind_key, guid_in, guid_of, guid_of_digits, info_by, is_hex, keys_differ, said_by, info_in, token_line_of}
use Rattle.zr_exec.proofs.Names.{and-both, nonempty, not-false, not-true, same_itself, same_once}
use Rattle.zr_exec.proofs.RowLists.{not-empty, pushed}
use Rattle.zr_exec.proofs.SetLines.{filled, if-some}

less-passes : (n m : ℕ) → n < m → nat_lt n m ≡ true
less-passes n m is = grind (arith, nat_tests)

less-from : (n m : ℕ) → nat_lt n m ≡ true → n < m
less-from n m passes = grind (arith, nat_tests)

most-passes : (n m : ℕ) → n ≤ m → nat_le n m ≡ true
most-passes n m is = grind (arith, nat_tests)

most-from : (n m : ℕ) → nat_le n m ≡ true → n ≤ m
most-from n m passes = grind (arith, nat_tests)

key-read : (key text value : List ℕ) → text ≡ key ++ value → behind_key key text ≡ Some value
key-read key text value full =
    let front : take (length key) text ≡ key = ap (take (length key)) full ∙ take-append_seam key value in
    let back : drop (length key) text ≡ value = ap (drop (length key)) full ∙ drop-append_seam key value in
    let same : same_text (take (length key) text) key ≡ true = rw front (same_itself key) in
    rw same (ap Some back)

key-sound : (key text value : List ℕ) → behind_key key text ≡ Some value → text ≡ key ++ value
key-sound key text value read =
    let found = if-some (same_text (take (length key) text) key) (drop (length key) text) value read in
    let front = same_once (take (length key) text) key found.0 in
    sym (take-append-drop (length key) text) ∙ ap (λ xs. xs ++ drop (length key) text) front ∙ ap (λ v. key ++ v) found.1

no-key : (key text : List ℕ) → ((value : List ℕ) → text ≡ key ++ value → ⊥) → behind_key key text ≡ None
no-key key text none = choose (behind_key key text) refl where
  choose : (found : Option (List ℕ)) → behind_key key text ≡ found → behind_key key text ≡ None
  choose None e = e
  choose (Some value) e = absurd (none value (key-sound key text value e))

key-absent : (key text value : List ℕ) → behind_key key text ≡ None → text ≡ key ++ value → ⊥
key-absent key text value none full = let read = key-read key text value full in cc

digits-pass : (text : List ℕ) → AllDigits 16 text → list_all (λ c. nat_lt (digit_value c) 16) text ≡ true
digits-pass [] digits = refl
digits-pass (c ∷ cs) digits = rw (less-passes (digit_value c) 16 digits.0) (digits-pass cs digits.1)

digits-from : (text : List ℕ) → list_all (λ c. nat_lt (digit_value c) 16) text ≡ true → AllDigits 16 text
digits-from [] passes = tt
digits-from (c ∷ cs) passes =
    let both = and-both (nat_lt (digit_value c) 16) (list_all (λ c. nat_lt (digit_value c) 16) cs) passes in
    (less-from (digit_value c) 16 both.0, digits-from cs both.1)

guid : ℕ → Guid
guid n = record { 0 = n }

digits-read : (text : List ℕ) (n : ℕ) → IsHexNumber text n → guid_of_digits text ≡ Some (guid n)
unfolding guid
digits-read text n is =
    let some : same_text text [] ≡ false = filled text is.digits.0 in
    let short : nat_le (length text) 16 ≡ true = most-passes (length text) 16 is.short in
    let digits = digits-pass text is.digits.1 in
    rw (some, short, digits) (ap (λ m. Some (guid m)) (sym is.value))

digits-sound : (text : List ℕ) (one : Guid) → guid_of_digits text ≡ Some one → IsHexNumber text one.0
digits-sound text one read =
    let found = if-some (is_hex text) (record { 0 = digits_value 16 text }) one read in
    let outer = and-both (not (same_text text []) && nat_le (length text) 16) (list_all (λ c. nat_lt (digit_value c) 16) text) found.0 in
    let inner = and-both (not (same_text text [])) (nat_le (length text) 16) outer.0 in
    record {
      short = most-from (length text) 16 inner.1;
      digits = (nonempty text (not-true (same_text text []) inner.0), digits-from text outer.1);
      value = ap (λ (g : Guid). g.0) (sym found.1);
    }

guid-read : (value : List ℕ) (one : Guid) → IsHexGuid value one → guid_of value ≡ Some one
unfolding guid
guid-read value one is = ap guid_in (key-read (codes "0x") value is.digits is.spelled) ∙ digits-read is.digits one.0 is.is_number

guid-sound : (value : List ℕ) (one : Guid) → guid_of value ≡ Some one → IsHexGuid value one
guid-sound value one read = choose (behind_key (codes "0x") value) refl read where
  choose : (found : Option (List ℕ)) → behind_key (codes "0x") value ≡ found → guid_in found ≡ Some one → IsHexGuid value one
  choose None e r = cc
  choose (Some digits) e r = record {
    digits = digits;
    spelled = key-sound (codes "0x") value digits e;
    is_number = digits-sound digits one r;
  }

-- a line is read as what it says
line-read : (text : List ℕ) (said : TokenLine) → IsTokenLine text said → token_line_of text ≡ Some said
line-read text (line.To one) is =
    ap (λ to. said_by to (behind_key from_key (behind_blanks text))) (key-read to_key (behind_blanks text) is.value is.has_key)
    ∙ ap (option_map line.To) (guid-read is.value one is.is_guid)
line-read text (line.From one) is =
    ap (λ to. said_by to (behind_key from_key (behind_blanks text))) (no-key to_key (behind_blanks text) (λ value has. keys-differ text value is.value has is.has_key))
    ∙ ap (said_by None) (key-read from_key (behind_blanks text) is.value is.has_key)
    ∙ ap (option_map line.From) (guid-read is.value one is.is_guid)
line-read text line.Other is =
    ap (λ to. said_by to (behind_key from_key (behind_blanks text))) (no-key to_key (behind_blanks text) is.0)
    ∙ ap (said_by None) (no-key from_key (behind_blanks text) is.1)

mapped : (make : Guid → TokenLine) (found : Option Guid) (said : TokenLine) → option_map make found ≡ Some said → (one : Guid) × (found ≡ Some one) × (make one ≡ said)
mapped make None said e = cc
mapped make (Some one) said e = (one, refl, cc)

-- and says what it is read as
line-sound : (text : List ℕ) (said : TokenLine) → token_line_of text ≡ Some said → IsTokenLine text said
line-sound text said read = choose (behind_key to_key (behind_blanks text)) (behind_key from_key (behind_blanks text)) refl refl read where
  choose : (to from : Option (List ℕ)) → behind_key to_key (behind_blanks text) ≡ to → behind_key from_key (behind_blanks text) ≡ from → said_by to from ≡ Some said → IsTokenLine text said
  choose (Some value) from e f r =
      let found = mapped line.To (guid_of value) said r in
      subst (IsTokenLine text) found.2 (record {
        value = value;
        has_key = key-sound to_key (behind_blanks text) value e;
        is_guid = guid-sound value found.0 found.1;
      })
  choose None (Some value) e f r =
      let found = mapped line.From (guid_of value) said r in
      subst (IsTokenLine text) found.2 (record {
        value = value;
        has_key = key-sound from_key (behind_blanks text) value f;
        is_guid = guid-sound value found.0 found.1;
      })
  choose None None e f r =
      let same : line.Other ≡ said = cc in
      subst (IsTokenLine text) same (λ value has. key-absent to_key (behind_blanks text) value e has, λ value has. key-absent from_key (behind_blanks text) value f has)

differ-passes : (said : List TokenLine) → KeysDiffer said → keys_differ said ≡ true
differ-passes said differ =
    rw (most-passes (length (to_guids said)) 1 differ.to, most-passes (length (from_guids said)) 1 differ.from) refl

differ-from : (said : List TokenLine) → keys_differ said ≡ true → KeysDiffer said
differ-from said passes =
    let both = and-both (nat_le (length (to_guids said)) 1) (nat_le (length (from_guids said)) 1) passes in
    record { to = most-from (length (to_guids said)) 1 both.0; from = most-from (length (from_guids said)) 1 both.1 }

-- one line more that is read
one-more : (before : List TokenLine) (line : List ℕ) (later : List (List ℕ)) (said : TokenLine) → later ≢ [] → token_line_of line ≡ Some said → keys_differ (before ++ said ∷ []) ≡ true → info_in before (line ∷ later) ≡ info_in (before ++ said ∷ []) later
one-more before line [] said some read differ = absurd (some refl)
one-more before line (next ∷ later) said some read differ = rw (read, differ) refl

front-differs : (before more : List TokenLine) (said : TokenLine) → KeysDiffer (before ++ said ∷ more) → keys_differ (before ++ said ∷ []) ≡ true
front-differs before more said differ =
    differ-passes (before ++ said ∷ []) (record { to = front-few to_guid before more said differ.to; from = front-few from_guid before more said differ.from })

whole-from : (lines : List (List ℕ)) (before said : List TokenLine) → AllZip IsTokenLine lines said → KeysDiffer (before ++ said) → info_in before (lines ++ [] ∷ []) ≡ info_in (before ++ said) ([] ∷ [])
whole-from [] before [] each differ = ap (λ l. info_in l ([] ∷ [])) (sym (append-nil before))
whole-from [] before (one ∷ said) each differ = absurd each
whole-from (text ∷ lines) before [] each differ = absurd each
whole-from (text ∷ lines) before (one ∷ said) each differ =
    let more = one-more before text (lines ++ [] ∷ []) one (not-empty lines [] []) (line-read text one each.0) (front-differs before said one differ) in
    let same : (before ++ one ∷ []) ++ said ≡ before ++ one ∷ said = pushed before one said in
    let rest = whole-from lines (before ++ one ∷ []) said each.1 (subst KeysDiffer (sym same) differ) in
    more ∙ rest ∙ ap (λ l. info_in l ([] ∷ [])) same

told-by : (to : Guid) (from : Option Guid) → info_by (to ∷ []) (guids_of from) ≡ Some (record { to = to; from = from })
told-by to None = refl
told-by to (Some one) = refl

listing-differs : (bytes : List ℕ) (info : TokenInfo) (is : IsTokenListing bytes info) → KeysDiffer is.said
listing-differs bytes info is =
    let tos : length (to_guids is.said) ≡ 1 = ap length is.to in
    let froms : length (from_guids is.said) ≡ length (guids_of info.from) = ap length is.from in
    record { to = omega (arith, tos); from = omega (arith, froms, one-most info.from) }

-- contents that show what a token says are read as it
pub info_in-whole : (bytes : List ℕ) (info : TokenInfo) → IsTokenListing bytes info → info_in [] (lines_of bytes) ≡ Ok info
info_in-whole bytes info is =
    let told : info_by (to_guids is.said) (from_guids is.said) ≡ Some info =
    ap (λ tos. info_by tos (from_guids is.said)) is.to ∙ ap (info_by (info.to ∷ [])) is.from ∙ told-by info.to info.from in
    ap (info_in []) is.lines.ended
    ∙ whole-from is.lines.lines [] is.said is.lines.each (listing-differs bytes info is)
    ∙ ap (λ found. option_map_or Ok found (Err (length is.said + 1))) told

-- a line that is bad behind these lines
stops : (before : List TokenLine) (line : List ℕ) (later : List (List ℕ)) → (later ≡ [] → line ≡ [] → to_guids before ≡ []) → (later ≢ [] → (last : TokenLine) → IsTokenLine line last → KeysDiffer (before ++ last ∷ []) → ⊥) → info_in before (line ∷ later) ≡ Err (length before + 1)
stops before [] [] missing bad =
    ap (λ tos. option_map_or Ok (info_by tos (from_guids before)) (Err (length before + 1))) (missing refl refl)
stops before (b ∷ line) [] missing bad = refl
stops before line (next ∷ later) missing bad = choose (token_line_of line) refl where
  choose : (found : Option TokenLine) → token_line_of line ≡ found → option_map_or (λ said. if keys_differ (before ++ said ∷ []) then info_in (before ++ said ∷ []) (next ∷ later) else Err (length before + 1)) found (Err (length before + 1)) ≡ Err (length before + 1)
  choose None read = refl
  choose (Some said) read =
      let twice : keys_differ (before ++ said ∷ []) ≡ false = not-false (keys_differ (before ++ said ∷ [])) (λ passes. bad (λ none. cc) said (line-sound line said read) (differ-from (before ++ said ∷ []) passes)) in
      rw twice refl

bad-from : (earlier : List (List ℕ)) (before said : List TokenLine) (line : List ℕ) (later : List (List ℕ)) → AllZip IsTokenLine earlier said → KeysDiffer (before ++ said) → (later ≡ [] → line ≡ [] → to_guids (before ++ said) ≡ []) → (later ≢ [] → (last : TokenLine) → IsTokenLine line last → KeysDiffer ((before ++ said) ++ last ∷ []) → ⊥) → info_in before (earlier ++ line ∷ later) ≡ Err (length before + length earlier + 1)
bad-from [] before [] line later each differ missing bad =
    let same : before ++ [] ≡ before = append-nil before in
    stops before line later (λ last empty. ap to_guids (sym same) ∙ missing last empty) (λ more last spelled keys. bad more last spelled (subst (λ (l : List TokenLine). KeysDiffer (l ++ last ∷ [])) (sym same) keys))
    ∙ ap Err (omega arith)
bad-from [] before (one ∷ said) line later each differ missing bad = absurd each
bad-from (first ∷ earlier) before [] line later each differ missing bad = absurd each
bad-from (first ∷ earlier) before (one ∷ said) line later each differ missing bad =
    let more = one-more before first (earlier ++ line ∷ later) one (not-empty earlier line later) (line-read first one each.0) (front-differs before said one differ) in
    let same : (before ++ one ∷ []) ++ said ≡ before ++ one ∷ said = pushed before one said in
    let rest = bad-from earlier (before ++ one ∷ []) said line later each.1 (subst KeysDiffer (sym same) differ) (λ last empty. ap to_guids same ∙ missing last empty) (λ m last spelled keys. bad m last spelled (subst (λ (l : List TokenLine). KeysDiffer (l ++ last ∷ [])) same keys)) in
    more ∙ rest ∙ ap Err (omega (arith, length-append before (one ∷ [])))

-- the first bad line of contents is found
pub info_in-bad : (bytes : List ℕ) (number : ℕ) → IsFirstBadTokenLine bytes number → info_in [] (lines_of bytes) ≡ Err number
info_in-bad bytes number bad =
    ap (info_in []) bad.cut
    ∙ bad-from bad.earlier [] bad.said bad.line bad.later bad.each bad.differ bad.missing bad.bad
    ∙ ap Err (omega (arith, bad.counted))
