use Rattle.std.proofs.Common.{◌≡◌, ◌&&◌, ◌||◌, ℕ, Bool, true, false, true≢false, cond, if◌then◌else◌, List, [], ◌∷◌, ◌++◌, Option, Some, None, find, filter, is_some, is_none, reverse, refl, ap, sym, ◌∙◌}
use Rattle.std.specs.List.{list_any}
use Rattle.std.specs.Option.{option_or, option_to_list}
use Rattle.std.proofs.lemmas.List.{reverse-append}
use Rattle.std.proofs.lemmas.List.Folds.{find-append, list_any-append}
use Rattle.zr_names.specs.declared.policy.Initial.TheVariants.{MostRecent}
use Rattle.zr_names.specs.declared.unit.Guid.{Guid}
use Rattle.zr_command.specs.declared.version.VersionRow.{VersionRow}
use Rattle.zr_plan.specs.Plan.{in_full, initial_plan, is_later, own_version, plan_after, plan_from, plan_of, steps_of, steps_plan}
use Rattle.zr_command.specs.Kinds.{is_cursor_of, is_snap, newest}
use Rattle.zr_plan.specs.declared.target.Conflict.TheVariants.{NoSenderSnapshots}
use Rattle.zr_plan.specs.declared.target.Planned.TheVariants.{Conflict, Steps}

-- some snapshot is the last one
newest-some : (rows : List VersionRow) → is_some (newest rows) ≡ list_any is_snap rows
newest-some [] = refl
newest-some (row ∷ rows) =
    ap is_some (ap (find is_snap) (reverse-append (row ∷ []) rows) ∙ find-append is_snap (reverse rows) (row ∷ []))
    ∙ by (find is_snap (reverse rows)) (is_snap row) (newest-some rows)
  where
    by : (last : Option VersionRow) (b : Bool) → is_some last ≡ list_any is_snap rows → is_some (option_or last (cond b (Some row) None)) ≡ (b || list_any is_snap rows)
    by None true rest = refl
    by None false rest = rest
    by (Some last) true rest = refl
    by (Some last) false rest = rest

any-kept : (rows : List VersionRow) → list_any is_snap (filter is_snap rows) ≡ list_any is_snap rows
any-kept [] = refl
any-kept (row ∷ rows) = by (is_snap row) refl (any-kept rows) where
  by : (b : Bool) → is_snap row ≡ b → list_any is_snap (filter is_snap rows) ≡ list_any is_snap rows → list_any is_snap (cond b (row ∷ filter is_snap rows) (filter is_snap rows)) ≡ (b || list_any is_snap rows)
  by true is rest = rw is refl
  by false is rest = rest

none-is-false : (X : Type 0) (o : Option X) → is_some o ≡ true → is_none o ≡ false
none-is-false X None e = absurd (true≢false (sym e))
none-is-false X (Some x) e = refl

-- the source's rows for a plan have a snapshot where its listing has one
pub source-some : (rows marks : List VersionRow) → is_some (newest rows) ≡ true → is_none (newest (filter is_snap rows ++ marks)) ≡ false
source-some rows marks some =
    none-is-false VersionRow (newest (filter is_snap rows ++ marks)) (
    newest-some (filter is_snap rows ++ marks)
    ∙ list_any-append is_snap (filter is_snap rows) marks
    ∙ ap (λ (b : Bool). b || list_any is_snap marks) (any-kept rows ∙ sym (newest-some rows) ∙ some))

-- the own version of the newest snapshot is its cursor, where that is known
pub cursor-found : (job : List ℕ) (guid : Guid) (snaps marks : List VersionRow) → list_any (is_cursor_of job guid) marks ≡ true → (own : VersionRow) × (own_version job (snaps ++ marks) guid ≡ Some own)
cursor-found job guid snaps marks any =
    by (find (is_cursor_of job guid) (snaps ++ marks)) refl
  where
    by : (found : Option VersionRow) → find (is_cursor_of job guid) (snaps ++ marks) ≡ found → (own : VersionRow) × (own_version job (snaps ++ marks) guid ≡ Some own)
    by (Some own) is = (own, rw is refl)
    by None is = absurd (true≢false (sym (some-of (is_cursor_of job guid) marks any) ∙ ap is_some (from-right (is_cursor_of job guid) snaps marks is))) where
      from-right : (p : VersionRow → Bool) (xs ys : List VersionRow) → find p (xs ++ ys) ≡ None → find p ys ≡ None
      from-right p xs ys e = right (find p xs) (find p ys) (sym (find-append p xs ys) ∙ e) where
        right : (a b : Option VersionRow) → option_or a b ≡ None → b ≡ None
        right None b e = e
        right (Some x) b e = cc

      some-of : (p : VersionRow → Bool) (xs : List VersionRow) → list_any p xs ≡ true → is_some (find p xs) ≡ true
      some-of p [] e = absurd (true≢false (sym e))
      some-of p (x ∷ xs) e = pick (p x) (some-of p xs) e where
        pick : (b : Bool) → (list_any p xs ≡ true → is_some (find p xs) ≡ true) → (b || list_any p xs) ≡ true → is_some (cond b (Some x) (find p xs)) ≡ true
        pick true rest e = refl
        pick false rest e = rest e

-- by what a plan tests first
if-none : {X : Type 0} (none nothing : Bool) (conflict first plan : X) → none ≡ false → nothing ≡ false → (if none then conflict else (if nothing then first else plan)) ≡ plan
if-none true nothing conflict first plan is other = absurd (true≢false is)
if-none false true conflict first plan is other = absurd (true≢false other)
if-none false false conflict first plan is other = refl

if-first : {X : Type 0} (none nothing : Bool) (conflict first plan : X) → none ≡ false → nothing ≡ true → (if none then conflict else (if nothing then first else plan)) ≡ first
if-first true nothing conflict first plan is other = absurd (true≢false is)
if-first false true conflict first plan is other = refl
if-first false false conflict first plan is other = absurd (true≢false (sym other))

has-some : (flag : Bool) (o : Option VersionRow) (last : VersionRow) → o ≡ Some last → (flag && is_none o) ≡ false
has-some true None last is = cc
has-some true (Some row) last is = refl
has-some false o last is = refl

after-last : (job : List ℕ) (source rows : List VersionRow) (o : Option VersionRow) (last own : VersionRow) → o ≡ Some last → own_version job source last.guid ≡ Some own → plan_after job source rows o ≡ steps_plan (steps_of (filter (is_later source last.guid own) source))
after-last job source rows o last own is is_own =
    ap (plan_after job source rows) is ∙ ap (plan_from job source rows last) is_own

-- the plan onto a target whose newest snapshot has its cursor: increments to what is later
pub plan-onto : (job : List ℕ) (source rows : List VersionRow) (flag : Bool) (last own : VersionRow) → is_none (newest source) ≡ false → newest rows ≡ Some last → own_version job source last.guid ≡ Some own → plan_of job source (record { there = true; placeholder = flag; rows = rows; partial = None }) MostRecent ≡ steps_plan (steps_of (filter (is_later source last.guid own) source))
unfolding plan_of
plan-onto job source rows flag last own some is is_own =
    if-none (is_none (newest source)) (flag && is_none (newest rows)) (Conflict NoSenderSnapshots) (initial_plan source MostRecent) (plan_after job source rows (newest rows)) some (has-some flag (newest rows) last is)
    ∙ after-last job source rows (newest rows) last own is is_own

-- the plan onto a target that is not there: the newest snapshot in full
pub plan-first : (job : List ℕ) (source : List VersionRow) → is_none (newest source) ≡ false → plan_of job source (record { there = false; placeholder = false; rows = []; partial = None }) MostRecent ≡ Steps (in_full (steps_of (option_to_list (newest source))))
unfolding plan_of
plan-first job source some =
    if-first (is_none (newest source)) true (Conflict NoSenderSnapshots) (initial_plan source MostRecent) (plan_after job source [] None) some refl
