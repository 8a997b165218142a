use Rattle.std.proofs.Common.{◌≡◌, ◌⊎◌, inl, inr, ℕ, ◌<◌, ◌^◌, ◌==◌, Bool, true, false, true≢false, cond, ◌&&◌, ◌||◌, Decides, List, [], ◌∷◌, ◌++◌, Option, Some, None, Contains, find, filter, refl, ap, sym, subst, ◌∙◌}
use Rattle.std.specs.List.{list_any}
use Rattle.std.specs.Cmp.Lexicographic.{bytes_decides}
use Rattle.std.specs.Option.{option_map_or, option_or}
use Rattle.std.proofs.lemmas.Bool.Decides.{Decides-at, Decides-eqb}
use Rattle.std.proofs.lemmas.List.Folds.{Any-from_list_any, find-append, list_any-from_Any}
use Rattle.zr_names.specs.Marks.{cursor_text, IsMark, mark_kind}
use Rattle.zr_names.specs.declared.marks.MarkKind.{MarkKind}
use Rattle.zr_names.specs.declared.marks.MarkKind.TheVariants.{Cursor, Tentative, OldCursor, Other}
use Rattle.zr_names.specs.declared.unit.Guid.{Guid}
use Rattle.zr_names.proofs.MarkKinds.{kind_of_mark, mark_kind-is}
use Rattle.zr_command.specs.Names.{same_name}
use Rattle.zr_command.specs.declared.version.VersionName.{VersionName}
use Rattle.zr_command.specs.declared.version.VersionName.TheVariants.{Snap, Mark}
use Rattle.zr_command.specs.declared.version.VersionRow.{VersionRow}
use Rattle.zr_command.specs.Kinds.{is_cursor, is_snap, is_snap_of, is_tentative, is_tentative_of, kind_in, names_snap}
use Rattle.zr_known.specs.declared.known.Known.{Known}
use Rattle.zr_jobs.specs.declared.pair.Pair.{Pair}
use Rattle.zr_known.specs.Deciding.{ListsHolds, makes_cursor, MakesCursor}
use Rattle.zr_known.specs.Known.{is_among, is_row_of, source_row}
use Rattle.zr_known.specs.Replication.{HoldsKnown}

module _ {X : Type 0} (p q : X → Bool) where
  -- the first that passes among those that pass
  find-filter : (xs : List X) → find p (filter q xs) ≡ find (λ x. q x && p x) xs
  find-filter [] = refl
  find-filter (x ∷ xs) = by (q x) (find-filter xs) where
    by : (b : Bool) → find p (filter q xs) ≡ find (λ x. q x && p x) xs → find p (cond b (x ∷ filter q xs) (filter q xs)) ≡ cond (b && p x) (Some x) (find (λ x. q x && p x) xs)
    by true rest = ap (cond (p x) (Some x)) rest
    by false rest = rest

found-first : (name : VersionName) (source : Option (List VersionRow)) (marks : List VersionRow) → find (is_row_of name) (option_map_or (filter is_snap) source [] ++ marks) ≡ option_or (find (λ row. is_snap row && is_row_of name row) (option_map_or (λ rows. rows) source [])) (find (is_row_of name) marks)
found-first name None marks = refl
found-first name (Some rows) marks =
    find-append (is_row_of name) (filter is_snap rows) marks
    ∙ ap (λ (o : Option VersionRow). option_or o (find (is_row_of name) marks)) (find-filter (is_row_of name) is_snap rows)

-- a bookmark is made from the first listed snapshot of a name, else from the first mark of it
pub found_in : (name : VersionName) (known : Known) → source_row name known ≡ option_or (find (λ row. is_snap row && is_row_of name row) (option_map_or (λ rows. rows) known.source.listing [])) (find (is_row_of name) known.marks)
found_in name known = found-first name known.source.listing known.marks

both : (a b : Bool) → (a && b) ≡ true → (a ≡ true) × (b ≡ true)
both true true e = (refl, refl)
both true false e = absurd (true≢false (sym e))
both false b e = absurd (true≢false (sym e))

either : (a b : Bool) → (a || b) ≡ true → (a ≡ true) ⊎ (b ≡ true)
either true b e = inl refl
either false b e = inr e

one-of : (a b : Bool) → (a ≡ true) ⊎ (b ≡ true) → (a || b) ≡ true
one-of true b e = refl
one-of false b (inl e) = absurd (true≢false (sym e))
one-of false b (inr e) = e

-- names are equal, by the test
named : (one other : VersionName) → same_name one other ≡ true → other ≡ one
named (Snap one) (Snap other) e = ap Snap ((bytes_decides other one).0 e)
named (Snap one) (Mark other) e = absurd (true≢false (sym e))
named (Mark one) (Snap other) e = absurd (true≢false (sym e))
named (Mark one) (Mark other) e = ap Mark ((bytes_decides other one).0 e)

names-itself : (one : VersionName) → same_name one one ≡ true
names-itself (Snap one) = (bytes_decides one one).1 refl
names-itself (Mark one) = (bytes_decides one one).1 refl

-- the holds of a snapshot are known, by the test
holds-known : (row : VersionRow) (asked : List (List ℕ)) (name : List ℕ) → Decides ((row.refs == 0) || is_among asked name) (HoldsKnown row asked name)
holds-known row asked name = (λ e. to (either (row.refs == 0) (is_among asked name) e), λ h. one-of (row.refs == 0) (is_among asked name) (from h)) where
  to : (row.refs == 0 ≡ true) ⊎ (is_among asked name ≡ true) → HoldsKnown row asked name
  to (inl e) = inl ((Decides-eqb row.refs 0).0 e)
  to (inr e) = inr e

  from : HoldsKnown row asked name → (row.refs == 0 ≡ true) ⊎ (is_among asked name ≡ true)
  from (inl e) = inl ((Decides-eqb row.refs 0).1 e)
  from (inr e) = inr e

-- a listing has a row that passes a test
listed-row : (test : VersionRow → Bool) (listing : Option (List VersionRow)) → list_any test (option_map_or (λ rows. rows) listing []) ≡ true → (rows : List VersionRow) × (listing ≡ Some rows) × (row : VersionRow) × Contains rows row × (test row ≡ true)
listed-row test None e = absurd (true≢false (sym e))
listed-row test (Some rows) e =
    let found = Any-from_list_any test rows e in
    (rows, refl, found.1, (found.0, found.2, found.3), found.4)

row-listed : (test : VersionRow → Bool) (listing : Option (List VersionRow)) (rows : List VersionRow) (row : VersionRow) → listing ≡ Some rows → Contains rows row → test row ≡ true → list_any test (option_map_or (λ rows. rows) listing []) ≡ true
row-listed test listing rows row is among pass =
    subst (λ (o : Option (List VersionRow)). list_any test (option_map_or (λ rows. rows) o []) ≡ true) (sym is) (list_any-from_Any test rows (among.0, row, among.1, among.2, pass))

-- a source snapshot is listed, and its holds are known, by the test
lists-holds-test : (known : Known) (name : List ℕ) → Decides (list_any (λ row. is_row_of (Snap name) row && ((row.refs == 0) || is_among known.source.asked name)) (option_map_or (λ rows. rows) known.source.listing [])) (ListsHolds known name)
lists-holds-test known name = (to, from) where
  test : VersionRow → Bool
  test row = is_row_of (Snap name) row && ((row.refs == 0) || is_among known.source.asked name)

  to : list_any test (option_map_or (λ rows. rows) known.source.listing []) ≡ true → ListsHolds known name
  to e =
      let found = listed-row test known.source.listing e in
      let passes = both (is_row_of (Snap name) found.2) ((found.2.refs == 0) || is_among known.source.asked name) found.4 in
      record {
        row = found.2;
        listed = record { rows = found.0; are_listed = found.1; among = found.3; named = named (Snap name) found.2.name passes.0 };
        holds = (holds-known found.2 known.source.asked name).0 passes.1;
      }

  from : ListsHolds known name → list_any test (option_map_or (λ rows. rows) known.source.listing []) ≡ true
  from h = row-listed test known.source.listing h.listed.rows h.row h.listed.are_listed h.listed.among (passes h) where
    passes : (h : ListsHolds known name) → test h.row ≡ true
    passes h = rw (subst (λ (v : VersionName). same_name (Snap name) v ≡ true) (sym h.listed.named) (names-itself (Snap name)), (holds-known h.row known.source.asked name).1 h.holds) refl

pub lists-holds : (known : Known) (name : List ℕ) (holds : List (List ℕ)) (asked : Bool) (rows : List VersionRow) (r : Bool) → holds ≡ known.source.asked → asked ≡ is_among holds name → rows ≡ option_map_or (λ rows. rows) known.source.listing [] → r ≡ list_any (λ row. is_row_of (Snap name) row && ((row.refs == 0) || asked)) rows → Decides r (ListsHolds known name)
lists-holds known name holds asked rows r holds_are asked_is rows_are r_is =
    Decides-at r _ (
    r_is
    ∙ ap (λ (b : Bool). list_any (λ row. is_row_of (Snap name) row && ((row.refs == 0) || b)) rows) (asked_is ∙ ap (λ (names : List (List ℕ)). is_among names name) holds_are)
    ∙ ap (list_any (λ row. is_row_of (Snap name) row && ((row.refs == 0) || is_among known.source.asked name))) rows_are) (lists-holds-test known name)

-- a name is that of the job's cursor of a guid, by the test
pub cursor-decides : (name job : List ℕ) (guid : Guid) → guid.0 < 2 ^ 64 → Decides (is_cursor guid (mark_kind name job)) (name ≡ cursor_text guid.0 job)
cursor-decides name job guid fits = (to (mark_kind name job) (mark_kind-is name job), from) where
  to : (kind : MarkKind) → IsMark name job kind → is_cursor guid kind ≡ true → name ≡ cursor_text guid.0 job
  to (Cursor own) is e = is ∙ ap (λ n. cursor_text n job) ((Decides-eqb own.0 guid.0).0 e)
  to (Tentative own) is e = absurd (true≢false (sym e))
  to OldCursor is e = absurd (true≢false (sym e))
  to Other is e = absurd (true≢false (sym e))

  from : name ≡ cursor_text guid.0 job → is_cursor guid (mark_kind name job) ≡ true
  from is = subst (λ (kind : MarkKind). is_cursor guid kind ≡ true) (kind_of_mark name job (Cursor guid) fits is) ((Decides-eqb guid.0 guid.0).1 refl)

-- what was found passes
found-passes : (p : VersionRow → Bool) (rows : List VersionRow) (row : VersionRow) → find p rows ≡ Some row → p row ≡ true
found-passes p [] row e = absurd (let wrong : None ≡ Some row = e in cc)
found-passes p (first ∷ rows) row e = by (p first) refl (found-passes p rows row) e where
  by : (b : Bool) → p first ≡ b → (find p rows ≡ Some row → p row ≡ true) → cond b (Some first) (find p rows) ≡ Some row → p row ≡ true
  by true is rest e = let same : first ≡ row = (let it : Some first ≡ Some row = e in cc) in subst (λ (x : VersionRow). p x ≡ true) same is
  by false is rest e = rest e

-- where none passes, one that another test found does not
none-passes : (p q : VersionRow → Bool) (rows : List VersionRow) (row : VersionRow) → find p rows ≡ None → find q rows ≡ Some row → p row ≡ false
none-passes p q [] row none e = absurd (let wrong : None ≡ Some row = e in cc)
none-passes p q (first ∷ rows) row none e = by (p first) refl (q first) (none-passes p q rows row) none e where
  by : (b : Bool) → p first ≡ b → (c : Bool) → (find p rows ≡ None → find q rows ≡ Some row → p row ≡ false) → cond b (Some first) (find p rows) ≡ None → cond c (Some first) (find q rows) ≡ Some row → p row ≡ false
  by true is c rest none e = absurd (let wrong : Some first ≡ None = none in cc)
  by false is true rest none e = let same : first ≡ row = (let it : Some first ≡ Some row = e in cc) in subst (λ (x : VersionRow). p x ≡ false) same is
  by false is false rest none e = rest none e

-- a version makes the cursor of a guid, by the test
makes : (pair : Pair) (known : Known) (guid : Guid) (version : VersionName) → makes_cursor pair known guid version ≡ true → MakesCursor pair known guid version
makes pair known guid version e = by (source_row version known) refl e where
  by : (found : Option VersionRow) → source_row version known ≡ found → option_map_or (λ row. is_snap_of guid row || is_tentative_of pair.job guid row) found false ≡ true → MakesCursor pair known guid version
  by None is e = absurd (true≢false (sym e))
  by (Some row) is e = record { row = row; found = is; of_guid = either (is_snap_of guid row) (is_tentative_of pair.job guid row) e }

made : (pair : Pair) (known : Known) (guid : Guid) (version : VersionName) → MakesCursor pair known guid version → makes_cursor pair known guid version ≡ true
made pair known guid version m =
    ap (λ (o : Option VersionRow). option_map_or (λ row. is_snap_of guid row || is_tentative_of pair.job guid row) o false) m.found
    ∙ one-of (is_snap_of guid m.row) (is_tentative_of pair.job guid m.row) m.of_guid

snap-makes : (pair : Pair) (known : Known) (guid : Guid) (rows : List VersionRow) (row : VersionRow) → find (λ row. is_snap_of guid row && makes_cursor pair known guid row.name) rows ≡ Some row → MakesCursor pair known guid row.name
snap-makes pair known guid rows row e =
    makes pair known guid row.name (both (is_snap_of guid row) (makes_cursor pair known guid row.name) (found-passes (λ row. is_snap_of guid row && makes_cursor pair known guid row.name) rows row e)).1

mark-makes : (pair : Pair) (known : Known) (guid : Guid) (rows : List VersionRow) (row : VersionRow) → find (λ row. makes_cursor pair known guid row.name) rows ≡ Some row → MakesCursor pair known guid row.name
mark-makes pair known guid rows row e =
    makes pair known guid row.name (found-passes (λ row. makes_cursor pair known guid row.name) rows row e)

-- a snapshot is no tentative cursor
snap-is-none : (job : List ℕ) (guid : Guid) (version : VersionName) → names_snap version ≡ true → is_tentative guid (kind_in job version) ≡ false
snap-is-none job guid (Snap name) e = refl
snap-is-none job guid (Mark name) e = absurd (true≢false (sym e))

-- of a snapshot the guid is its own
snap-of : (job : List ℕ) (guid : Guid) (row : VersionRow) → is_snap row ≡ true → (is_snap_of guid row ≡ true) ⊎ (is_tentative_of job guid row ≡ true) → is_snap_of guid row ≡ true
snap-of job guid row snap (inl e) = e
snap-of job guid row snap (inr e) = absurd (true≢false (sym e ∙ snap-is-none job guid row.name snap))

-- the row that the cursor of a guid is made from: a listed snapshot, else a mark
abbrev pub maker : Pair → Known → Guid → Option VersionRow
maker pair known guid = option_or (find (λ row. is_snap_of guid row && makes_cursor pair known guid row.name) (option_map_or (λ rows. rows) known.source.listing [])) (find (λ row. makes_cursor pair known guid row.name) known.marks)

pub row-makes : (pair : Pair) (known : Known) (guid : Guid) (row : VersionRow) → maker pair known guid ≡ Some row → MakesCursor pair known guid row.name
row-makes pair known guid row e =
    by (find (λ row. is_snap_of guid row && makes_cursor pair known guid row.name) listed) refl e
  where
    listed : List VersionRow
    listed = option_map_or (λ rows. rows) known.source.listing []

    by : (found : Option VersionRow) → find (λ row. is_snap_of guid row && makes_cursor pair known guid row.name) listed ≡ found → option_or found (find (λ row. makes_cursor pair known guid row.name) known.marks) ≡ Some row → MakesCursor pair known guid row.name
    by None is e = mark-makes pair known guid known.marks row e
    by (Some first) is e = snap-makes pair known guid listed row (is ∙ e)

-- where neither a listed snapshot nor a mark makes the cursor of a guid, no version does
no-makes : (pair : Pair) (known : Known) (guid : Guid) → find (λ row. is_snap_of guid row && makes_cursor pair known guid row.name) (option_map_or (λ rows. rows) known.source.listing []) ≡ None → find (λ row. makes_cursor pair known guid row.name) known.marks ≡ None → (version : VersionName) → MakesCursor pair known guid version → ⊥
no-makes pair known guid no_snap no_mark version m =
    by (find (λ row. is_snap row && is_row_of version row) listed) refl (sym (found_in version known) ∙ m.found)
  where
    listed : List VersionRow
    listed = option_map_or (λ rows. rows) known.source.listing []

    renamed : (row : VersionRow) → is_row_of version row ≡ true → makes_cursor pair known guid row.name ≡ true
    renamed row e = subst (λ (v : VersionName). makes_cursor pair known guid v ≡ true) (sym (named version row.name e)) (made pair known guid version m)

    of-snap : (row : VersionRow) → row ≡ m.row → find (λ row. is_snap row && is_row_of version row) listed ≡ Some row → ⊥
    of-snap row same e =
        let passes = both (is_snap row) (is_row_of version row) (found-passes (λ row. is_snap row && is_row_of version row) listed row e) in
        let snap = snap-of pair.job guid row passes.0 (subst (λ (r : VersionRow). (is_snap_of guid r ≡ true) ⊎ (is_tentative_of pair.job guid r ≡ true)) (sym same) m.of_guid) in
        let yes : (is_snap_of guid row && makes_cursor pair known guid row.name) ≡ true = rw (snap, renamed row passes.1) refl in
        true≢false (sym yes ∙ none-passes (λ row. is_snap_of guid row && makes_cursor pair known guid row.name) (λ row. is_snap row && is_row_of version row) listed row no_snap e)

    of-mark : (row : VersionRow) → find (is_row_of version) known.marks ≡ Some row → ⊥
    of-mark row e =
        true≢false (sym (renamed row (found-passes (is_row_of version) known.marks row e)) ∙ none-passes (λ row. makes_cursor pair known guid row.name) (is_row_of version) known.marks row no_mark e)

    by : (found : Option VersionRow) → find (λ row. is_snap row && is_row_of version row) listed ≡ found → option_or found (find (is_row_of version) known.marks) ≡ Some m.row → ⊥
    by None is e = of-mark m.row e
    by (Some row) is e = of-snap row (let it : Some row ≡ Some m.row = e in cc) is

pub none-makes : (pair : Pair) (known : Known) (guid : Guid) → maker pair known guid ≡ None → (version : VersionName) → MakesCursor pair known guid version → ⊥
none-makes pair known guid e =
    by (find (λ row. is_snap_of guid row && makes_cursor pair known guid row.name) listed) refl e
  where
    listed : List VersionRow
    listed = option_map_or (λ rows. rows) known.source.listing []

    by : (found : Option VersionRow) → find (λ row. is_snap_of guid row && makes_cursor pair known guid row.name) listed ≡ found → option_or found (find (λ row. makes_cursor pair known guid row.name) known.marks) ≡ None → (version : VersionName) → MakesCursor pair known guid version → ⊥
    by None is e = no-makes pair known guid is e
    by (Some first) is e = absurd (let wrong : Some first ≡ None = e in cc)
