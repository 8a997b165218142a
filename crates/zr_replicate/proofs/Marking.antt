use Rattle.std.proofs.Common.{◌≡◌, ◌≢◌, ◌∙◌, ◌<◌, ◌&&◌, ◌||◌, ℕ, Bool, true, false, true≢false, not, List, [], ◌∷◌, ◌++◌, Option, Some, None, Contains, find, filter, length, slice_get, refl, ap, sym, subst, inr}
use Rattle.std.specs.List.{list_all, list_any}
use Rattle.std.specs.Option.{option_or}
use Rattle.std.specs.Cmp.Lexicographic.{bytes_decides, nat_list_eq_equiv}
use Rattle.std.proofs.lemmas.Bool.Decides.{Decides-eqb}
use Rattle.std.proofs.lemmas.List.Folds.{Any-from_list_any, list_all-append, list_any-append}
use Rattle.zr_names.specs.Marks.{cursor_text, IsMark, mark_kind}
use Rattle.zr_names.specs.declared.marks.MarkKind.{MarkKind}
use Rattle.zr_names.specs.declared.marks.MarkKind.TheVariants.{Cursor, Tentative, OldCursor, Other}
use Rattle.zr_names.specs.declared.unit.Guid.{Guid}
use Rattle.zr_names.proofs.MarkKinds.{mark_kind-is}
use Rattle.zr_command.specs.Names.{same_name, same_text}
use Rattle.zr_command.specs.declared.command.Answer.TheVariants.{Done}
use Rattle.zr_command.specs.declared.command.Cmd.TheVariants as cmd
use Rattle.zr_command.specs.declared.command.Reply.TheVariants as reply
use Rattle.zr_command.specs.declared.version.VersionName.{VersionName}
use Rattle.zr_command.specs.declared.version.VersionName.TheVariants.{Snap, Mark}
use Rattle.zr_command.specs.declared.version.VersionRow.{VersionRow}
use Rattle.zr_world.proofs.Keeping.{found-passes}
use Rattle.zr_command.specs.Kinds.{is_cursor, is_cursor_of, kind_in, names_snap}
use Rattle.zr_known.specs.declared.known.Known.{Known}
use Rattle.zr_jobs.specs.declared.pair.Pair.{Pair}
use Rattle.zr_known.specs.Known.{is_among, is_own_kind, is_row_of, set_among, told_by, with_last_held, with_step_held, without_name}
use Rattle.zr_known.specs.Replication.{MayDestroyMark, MayMark, MayReleaseLast}
use Rattle.zr_replicate.specs.declared.settlement.Newest.{Newest}
use Rattle.zr_replicate.specs.Settlement.{first_other, HasCursor, is_any_cursor, is_bookmark, IsAlone, IsOtherMark, IsOtherName, IsSafe, SettlesFrom}
use Rattle.zr_replicate.specs.Progress.{IsMarked}
use Rattle.zr_replicate.proofs.Lists.{all-filter, any-filter, any-of, filter-fewer, first-of, found-in, none-fails, passes-of}

pub equal : (text : List ℕ) → same_text text text ≡ true
equal text = nat_list_eq_equiv.refl text

pub differ : (one other : List ℕ) → one ≢ other → same_text one other ≡ false
differ one other wrong = by (same_text one other) refl where
  by : (b : Bool) → same_text one other ≡ b → b ≡ false
  by true e = absurd (wrong ((bytes_decides one other).0 e))
  by false e = refl

not-true : (b : Bool) → not b ≡ true → b ≡ false
not-true true e = absurd (true≢false (sym e))
not-true false e = refl

pub or-true : (b : Bool) → (b || true) ≡ true
or-true true = refl
or-true false = refl

-- a bookmark of the job's own
pub is-marked : (pair : Pair) (before now : Known) (version : VersionName) (name : List ℕ) → is_own_kind (kind_in pair.job (Mark name)) ≡ true → MayMark pair before version name → now ≡ told_by pair (cmd.Bookmark pair.source version name) (Done reply.Nothing) before → IsMarked version name before now
is-marked pair before now version name own may is = record {
  row = may.row;
  found = may.found;
  known_is = is ∙ rw (equal pair.source, own, may.found) refl;
}

-- a cursor's name is one of the job's own, and is that of its guid alone
pub cursor-is-own : (name job : List ℕ) (guid : Guid) → mark_kind name job ≡ Cursor guid → is_own_kind (kind_in job (Mark name)) ≡ true
cursor-is-own name job guid kind = ap is_own_kind kind

cursor-kind : (name job : List ℕ) (guid : Guid) → mark_kind name job ≡ Cursor guid → is_cursor guid (mark_kind name job) ≡ true
cursor-kind name job guid kind = ap (is_cursor guid) kind ∙ (Decides-eqb guid.0 guid.0).1 refl

cursor-name : (job : List ℕ) (guid : Guid) (name : VersionName) → is_cursor guid (kind_in job name) ≡ true → name ≡ Mark (cursor_text guid.0 job)
cursor-name job guid (Snap name) e = absurd (true≢false (sym e))
cursor-name job guid (Mark name) e = ap Mark (by (mark_kind name job) (mark_kind-is name job) e) where
  by : (kind : MarkKind) → IsMark name job kind → is_cursor guid kind ≡ true → name ≡ cursor_text guid.0 job
  by (Cursor own) is e = is ∙ ap (λ n. cursor_text n job) ((Decides-eqb own.0 guid.0).0 e)
  by (Tentative own) is e = absurd (true≢false (sym e))
  by OldCursor is e = absurd (true≢false (sym e))
  by Other is e = absurd (true≢false (sym e))

named : (name : List ℕ) (other : VersionName) → same_name (Mark name) other ≡ true → other ≡ Mark name
named name (Snap other) e = absurd (true≢false (sym e))
named name (Mark other) e = ap Mark ((bytes_decides other name).0 e)

-- where a mark has the cursor's name, the cursor is there
pub cursor-there : (name job : List ℕ) (guid : Guid) (marks : List VersionRow) → mark_kind name job ≡ Cursor guid → list_any (is_row_of (Mark name)) marks ≡ true → list_any (is_cursor_of job guid) marks ≡ true
cursor-there name job guid marks kind any =
    let found = Any-from_list_any (is_row_of (Mark name)) marks any in
    any-of (is_cursor_of job guid) marks found.1 (found.0, found.2, found.3)
    (subst (λ (v : VersionName). is_cursor guid (kind_in job v) ≡ true) (sym (named name found.1.name found.4)) (cursor-kind name job guid kind))

-- once it was made it is
marked-there : (name job : List ℕ) (guid : Guid) (marks : List VersionRow) (row : VersionRow) → mark_kind name job ≡ Cursor guid → list_any (is_cursor_of job guid) (marks ++ record row { name = Mark name; refs = 0 } ∷ []) ≡ true
marked-there name job guid marks row kind =
    list_any-append (is_cursor_of job guid) marks (record row { name = Mark name; refs = 0 } ∷ [])
    ∙ ap (λ (b : Bool). list_any (is_cursor_of job guid) marks || (b || false)) (cursor-kind name job guid kind)
    ∙ or-true (list_any (is_cursor_of job guid) marks)

marked-marks : (name : List ℕ) (marks : List VersionRow) (row : VersionRow) → list_all is_bookmark marks ≡ true → list_all is_bookmark (marks ++ record row { name = Mark name; refs = 0 } ∷ []) ≡ true
marked-marks name marks row all =
    list_all-append is_bookmark marks (record row { name = Mark name; refs = 0 } ∷ []) ∙ ap (λ (b : Bool). b && true) all

-- the newest snapshot has its cursor, where a mark has that name
pub has-cursor : (pair : Pair) (known : Known) (newest : Newest) (version : VersionName) (name : List ℕ) → mark_kind name pair.job ≡ Cursor newest.guid → SettlesFrom pair known newest version → list_any (is_row_of (Mark name)) known.marks ≡ true → HasCursor pair known newest
has-cursor pair known newest version name kind may any = record {
  last = may.last;
  is_newest = may.is_newest;
  cursor = cursor-there name pair.job newest.guid known.marks kind any;
  bookmarks = may.bookmarks;
}

-- and once it was made
pub made-cursor : (pair : Pair) (before now : Known) (newest : Newest) (version : VersionName) (name : List ℕ) → mark_kind name pair.job ≡ Cursor newest.guid → SettlesFrom pair before newest version → IsMarked version name before now → HasCursor pair now newest
made-cursor pair before now newest version name kind may marked =
    subst (λ (known : Known). HasCursor pair known newest) (sym marked.known_is) (record {
      last = may.last;
      is_newest = record {
        is_newest = may.is_newest.is_newest;
        named = may.is_newest.named;
        of_guid = may.is_newest.of_guid;
        holds = may.is_newest.holds;
        no_partial = may.is_newest.no_partial;
      };
      cursor = marked-there name pair.job newest.guid before.marks marked.row kind;
      bookmarks = marked-marks name before.marks marked.row may.bookmarks;
    })

-- a name among others once it was put there, and once another was taken out
pub among-set : (name : List ℕ) (names : List (List ℕ)) → is_among (set_among true name names) name ≡ true
among-set name names =
    list_any-append (λ other. same_text other name) (without_name name names) (name ∷ [])
    ∙ ap (λ (b : Bool). list_any (λ other. same_text other name) (without_name name names) || (b || false)) (equal name)
    ∙ or-true (list_any (λ other. same_text other name) (without_name name names))

among-without : (name other : List ℕ) (names : List (List ℕ)) → other ≢ name → is_among names name ≡ true → is_among (without_name other names) name ≡ true
among-without name other names differs among =
    any-filter (λ x. same_text x name) (λ x. not (same_text x other)) keeps names among where
      keeps : (x : List ℕ) → same_text x name ≡ true → not (same_text x other) ≡ true
      keeps x e = rw (differ x other (λ same. differs (sym same ∙ (bytes_decides x name).0 e))) refl

-- the settled newest snapshot with its hold
pub held-safe : (pair : Pair) (before now : Known) (newest : Newest) → HasCursor pair before newest → now ≡ with_last_held (set_among true newest.name before.target.held) before → IsSafe pair now newest
held-safe pair before now newest has is =
    subst (λ (known : Known). IsSafe pair known newest) (sym is) (record {
      last = has.last;
      settled = record {
        is_newest = has.is_newest.is_newest;
        named = has.is_newest.named;
        cursor = subst (λ (g : Guid). list_any (is_cursor_of pair.job g) before.marks ≡ true) (sym has.is_newest.of_guid) has.cursor;
        held = among-set newest.name before.target.held;
      };
      of_guid = has.is_newest.of_guid;
      no_partial = has.is_newest.no_partial;
      bookmarks = has.bookmarks;
    })

-- what is no longer wanted of the last-received holds goes
pub may-release_last : (pair : Pair) (known : Known) (newest : Newest) (name : List ℕ) → IsSafe pair known newest → IsOtherName known.target.held newest.name name → MayReleaseLast known name
may-release_last pair known newest name safe other = record {
  held = other.among;
  last = safe.last;
  last_name = newest.name;
  is_newest = safe.settled.is_newest;
  named = safe.settled.named;
  other = other.is_other;
  moved = safe.settled.held;
}

pub released-safe : (pair : Pair) (before now : Known) (newest : Newest) (name : List ℕ) → IsSafe pair before newest → name ≢ newest.name → now ≡ with_last_held (without_name name before.target.held) before → IsSafe pair now newest
released-safe pair before now newest name safe other is =
    subst (λ (known : Known). IsSafe pair known newest) (sym is) (record {
      last = safe.last;
      settled = record {
        is_newest = safe.settled.is_newest;
        named = safe.settled.named;
        cursor = safe.settled.cursor;
        held = among-without newest.name name before.target.held other safe.settled.held;
      };
      of_guid = safe.of_guid;
      no_partial = safe.no_partial;
      bookmarks = safe.bookmarks;
    })

pub fewer-names : (name : List ℕ) (names names' : List (List ℕ)) → is_among names name ≡ true → names' ≡ without_name name names → length names' < length names
fewer-names name names names' among is =
    subst (λ (xs : List (List ℕ)). length xs < length names) (sym is) (filter-fewer (λ other. same_text other name) names among)

-- a mark that is not the cursor has another name than that
apart : (pair : Pair) (known : Known) (newest : Newest) (name : List ℕ) → IsSafe pair known newest → is_cursor newest.guid (mark_kind name pair.job) ≡ false → name ≢ cursor_text newest.guid.0 pair.job
apart pair known newest name safe other same =
    let found = Any-from_list_any (is_cursor_of pair.job safe.last.guid) known.marks safe.settled.cursor in
    let of_newest = subst (λ (g : Guid). is_cursor g (kind_in pair.job found.1.name) ≡ true) safe.of_guid found.4 in
    let is = cursor-name pair.job newest.guid found.1.name of_newest in
    let yes = subst (λ (v : VersionName). is_cursor newest.guid (kind_in pair.job v) ≡ true) is of_newest in
    true≢false (sym yes ∙ ap (λ (n : List ℕ). is_cursor newest.guid (mark_kind n pair.job)) (sym same) ∙ other)

-- of the marks
pub may-destroy : (pair : Pair) (known : Known) (newest : Newest) (name : List ℕ) → IsSafe pair known newest → IsOtherMark pair known newest name → MayDestroyMark pair known name
may-destroy pair known newest name safe other = record {
  is_known = other.is_known;
  clear = record {
    no_partial = safe.no_partial;
    settled = inr (safe.last, newest.name, safe.settled, λ e. apart pair known newest name safe other.is_other (name-of (cursor_text safe.last.guid.0 pair.job) e ∙ ap (λ (g : Guid). cursor_text g.0 pair.job) safe.of_guid));
  };
} where
  name-of : (text : List ℕ) → Some name ≡ Some text → name ≡ text
  name-of text e = cc

pub destroyed-safe : (pair : Pair) (before now : Known) (newest : Newest) (name : List ℕ) → IsSafe pair before newest → IsOtherMark pair before newest name → now ≡ record before { marks = filter (λ row. not (is_row_of (Mark name) row)) before.marks } → IsSafe pair now newest
destroyed-safe pair before now newest name safe other is =
    subst (λ (known : Known). IsSafe pair known newest) (sym is) (record {
      last = safe.last;
      settled = record {
        is_newest = safe.settled.is_newest;
        named = safe.settled.named;
        cursor = any-filter (is_cursor_of pair.job safe.last.guid) (λ row. not (is_row_of (Mark name) row)) keeps before.marks safe.settled.cursor;
        held = safe.settled.held;
      };
      of_guid = safe.of_guid;
      no_partial = safe.no_partial;
      bookmarks = all-filter is_bookmark (λ row. not (is_row_of (Mark name) row)) before.marks safe.bookmarks;
    }) where
      differs : cursor_text safe.last.guid.0 pair.job ≢ name
      differs e = apart pair before newest name safe other.is_other (sym e ∙ ap (λ (g : Guid). cursor_text g.0 pair.job) safe.of_guid)

      keeps : (row : VersionRow) → is_cursor_of pair.job safe.last.guid row ≡ true → not (is_row_of (Mark name) row) ≡ true
      keeps row e =
          subst (λ (v : VersionName). not (same_name (Mark name) v) ≡ true) (sym (cursor-name pair.job safe.last.guid row.name e))
          (rw (differ (cursor_text safe.last.guid.0 pair.job) name differs) refl)

pub fewer-marks : (name : List ℕ) (marks marks' : List VersionRow) → list_any (is_row_of (Mark name)) marks ≡ true → marks' ≡ filter (λ row. not (is_row_of (Mark name) row)) marks → length marks' < length marks
fewer-marks name marks marks' any is =
    subst (λ (xs : List VersionRow). length xs < length marks) (sym is) (filter-fewer (is_row_of (Mark name)) marks any)

-- the next to go, and that none is left
pub other-name : (names : List (List ℕ)) (own name : List ℕ) → find (λ other. not (same_text other own)) names ≡ Some name → IsOtherName names own name
other-name names own name found =
    let differs = not-true (same_text name own) (found-passes (λ other. not (same_text other own)) names name found) in
    record {
      among = any-of (λ other. same_text other name) names name (found-in (λ other. not (same_text other own)) names name found) (equal name);
      is_other = λ same. true≢false (sym (equal name) ∙ ap (same_text name) same ∙ differs);
    }

pub no-other-name : (names : List (List ℕ)) (own : List ℕ) → find (λ other. not (same_text other own)) names ≡ None → list_all (λ other. same_text other own) names ≡ true
no-other-name names own none = none-fails (λ other. same_text other own) names none

pub first-among : (names : List (List ℕ)) (name : List ℕ) → slice_get names 0 ≡ Some name → is_among names name ≡ true
first-among names name first = any-of (λ other. same_text other name) names name (first-of names name first) (equal name)

mark-of : (pair : Pair) (known : Known) (newest : Newest) (row : VersionRow) (name : List ℕ) → Contains known.marks row → is_cursor_of pair.job newest.guid row ≡ false → row.name ≡ Mark name → IsOtherMark pair known newest name
mark-of pair known newest row name among differs is = record {
  is_known = any-of (is_row_of (Mark name)) known.marks row among (subst (λ (v : VersionName). same_name (Mark name) v ≡ true) (sym is) (equal name));
  is_other = subst (λ (v : VersionName). is_cursor newest.guid (kind_in pair.job v) ≡ false) is differs;
}

-- a mark that is found is one of them, and is not the cursor
pub other-found : (job : List ℕ) (guid : Guid) (marks : List VersionRow) (row : VersionRow) → first_other job guid marks ≡ Some row → Contains marks row × (is_cursor_of job guid row ≡ false)
other-found job guid marks row found = by (find other_cursor marks) refl found where
  other_cursor : VersionRow → Bool
  other_cursor x = is_any_cursor (kind_in job x.name) && not (is_cursor_of job guid x)

  other : VersionRow → Bool
  other x = not (is_cursor_of job guid x)

  right : (a b : Bool) → (a && b) ≡ true → b ≡ true
  right true b e = e
  right false b e = absurd (true≢false (sym e))

  by : (first : Option VersionRow) → find other_cursor marks ≡ first → option_or first (find other marks) ≡ Some row → Contains marks row × (is_cursor_of job guid row ≡ false)
  by None is e = (found-in other marks row e, not-true (is_cursor_of job guid row) (found-passes other marks row e))
  by (Some one) is e =
      let same : find other_cursor marks ≡ Some row = is ∙ e in
      (found-in other_cursor marks row same, not-true (is_cursor_of job guid row) (right (is_any_cursor (kind_in job row.name)) (other row) (found-passes other_cursor marks row same)))

pub other-mark : (pair : Pair) (known : Known) (newest : Newest) (row : VersionRow) (name : List ℕ) → first_other pair.job newest.guid known.marks ≡ Some row → row.name ≡ Mark name → IsOtherMark pair known newest name
other-mark pair known newest row name found is =
    let it = other-found pair.job newest.guid known.marks row found in
    mark-of pair known newest row name it.0 it.1 is

pub no-other-mark : (job : List ℕ) (guid : Guid) (marks : List VersionRow) → first_other job guid marks ≡ None → list_all (is_cursor_of job guid) marks ≡ true
no-other-mark job guid marks none =
    none-fails (is_cursor_of job guid) marks (right (find (λ row. is_any_cursor (kind_in job row.name) && not (is_cursor_of job guid row)) marks) (find (λ row. not (is_cursor_of job guid row)) marks) none) where
      right : (a b : Option VersionRow) → option_or a b ≡ None → b ≡ None
      right None b e = e
      right (Some x) b e = cc

-- what is left among bookmarks is none but a bookmark
pub other-is-bookmark : (job : List ℕ) (guid : Guid) (marks : List VersionRow) (row : VersionRow) (name : List ℕ) → list_all is_bookmark marks ≡ true → first_other job guid marks ≡ Some row → row.name ≡ Snap name → ⊥
other-is-bookmark job guid marks row name all found is =
    let yes = passes-of is_bookmark marks row all (other-found job guid marks row found).0 in
    true≢false (sym yes ∙ ap (λ (v : VersionName). not (names_snap v)) is)

-- one more change of the same kind
pub marks-again : (first before now : Known) (marks : List VersionRow) → before ≡ record first { marks = before.marks } → now ≡ record before { marks = marks } → now ≡ record first { marks = now.marks }
marks-again first before now marks one other =
    other ∙ ap (λ (k : Known). record k { marks = marks }) one ∙ ap (λ (m : List VersionRow). record first { marks = m }) (sym (ap (λ (k : Known). k.marks) other))

pub last-again : (first before now : Known) (names : List (List ℕ)) → before ≡ with_last_held before.target.held first → now ≡ with_last_held names before → now ≡ with_last_held now.target.held first
last-again first before now names one other =
    other ∙ ap (with_last_held names) one ∙ ap (λ (n : List (List ℕ)). with_last_held n first) (sym (ap (λ (k : Known). k.target.held) other))

-- once each clearing stage is done, nothing else is left
pub all-clear : (pair : Pair) (newest : Newest) (released destroyed now : Known) → list_all (λ other. same_text other newest.name) released.target.held ≡ true → destroyed ≡ record released { marks = destroyed.marks } → list_all (is_cursor_of pair.job newest.guid) destroyed.marks ≡ true → now ≡ with_step_held now.source.held destroyed → now.source.held ≡ [] → IsAlone pair now newest
all-clear pair newest released destroyed now last one marks other none = record {
  marks = ap (λ (k : Known). list_all (is_cursor_of pair.job newest.guid) k.marks) other ∙ marks;
  last_held =
      ap (λ (k : Known). list_all (λ x. same_text x newest.name) k.target.held) other
      ∙ ap (λ (k : Known). list_all (λ x. same_text x newest.name) k.target.held) one
      ∙ last;
  step_held = none;
}
