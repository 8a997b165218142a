use Rattle.std.proofs.Common.{◌≡◌, ◌<◌, ◌&&◌, ◌||◌, ℕ, Bool, true, false, true≢false, not, cond, nat_lt, append-nil, arith, List, [], ◌∷◌, ◌++◌, filter, length, refl, ap, sym, ◌∙◌, Contains}
use Rattle.std.specs.List.{list_all}
use Rattle.std.proofs.lemmas.Bool.Decides.{Decides-ltb}
use Rattle.std.proofs.lemmas.List.Elements.{All-weaker, Contains-append_left, filter-append}
use Rattle.std.proofs.lemmas.List.Sums.{AllPass-from_list_all, list_all-from_AllPass}
use Rattle.zr_names.specs.declared.unit.Guid.{Guid}
use Rattle.zr_command.specs.declared.version.VersionName.{VersionName}
use Rattle.zr_command.specs.declared.version.VersionName.TheVariants.{Snap, Mark}
use Rattle.zr_command.specs.declared.version.VersionRow.{VersionRow}
use Rattle.zr_command.specs.Kinds.{is_cursor, is_cursor_of, is_snap, is_snap_of, kind_in, names_snap}
use Rattle.zr_plan.specs.Plan.{is_later, steps_of}
use Rattle.zr_replicate.proofs.Lists.{any-of, kept-fewer, passes-of}

both : (a b : Bool) → (a && b) ≡ true → (a ≡ true) × (b ≡ true)
both true true e = (refl, refl)
both true false e = absurd (true≢false (sym e))
both false b e = absurd (true≢false (sym e))

-- an increment is planned to each row that passes and is a snapshot
pub steps-count : (p : VersionRow → Bool) (rows : List VersionRow) → length (steps_of (filter p rows)) ≡ length (filter (λ row. p row && is_snap row) rows)
steps-count p [] = refl
steps-count p (row ∷ rows) = by (p row) row.name refl (steps-count p rows) where
  by : (b : Bool) (name : VersionName) → row.name ≡ name → length (steps_of (filter p rows)) ≡ length (filter (λ row. p row && is_snap row) rows) → length (steps_of (cond b (row ∷ filter p rows) (filter p rows))) ≡ length (cond (b && names_snap row.name) (row ∷ filter (λ row. p row && is_snap row) rows) (filter (λ row. p row && is_snap row) rows))
  by false name is rest = rest
  by true (Snap name) is rest = rw is (omega (arith, rest))
  by true (Mark name) is rest = rw is rest

-- cursors are no snapshots
cursor-is-none : (job : List ℕ) (guid : Guid) (name : VersionName) → is_cursor guid (kind_in job name) ≡ true → names_snap name ≡ false
cursor-is-none job guid (Snap name) e = absurd (true≢false (sym e))
cursor-is-none job guid (Mark name) e = refl

none-kept : (p : VersionRow → Bool) (job : List ℕ) (guid : Guid) (marks : List VersionRow) → list_all (is_cursor_of job guid) marks ≡ true → filter (λ row. p row && is_snap row) marks ≡ []
none-kept p job guid [] all = refl
none-kept p job guid (row ∷ rows) all =
    let passes = both (is_cursor_of job guid row) (list_all (is_cursor_of job guid) rows) all in
    by (p row) (names_snap row.name) (cursor-is-none job guid row.name passes.0) (none-kept p job guid rows passes.1) where
      by : (b c : Bool) → c ≡ false → filter (λ row. p row && is_snap row) rows ≡ [] → cond (b && c) (row ∷ filter (λ row. p row && is_snap row) rows) (filter (λ row. p row && is_snap row) rows) ≡ []
      by true true e rest = absurd (true≢false e)
      by true false e rest = rest
      by false c e rest = rest

-- the increments to the rows of a plan are those to the source's snapshots
plan-count : (p : VersionRow → Bool) (job : List ℕ) (guid : Guid) (snaps marks : List VersionRow) → list_all (is_cursor_of job guid) marks ≡ true → length (steps_of (filter p (snaps ++ marks))) ≡ length (filter (λ row. p row && is_snap row) snaps)
plan-count p job guid snaps marks all =
    steps-count p (snaps ++ marks)
    ∙ ap length (filter-append (λ row. p row && is_snap row) snaps marks)
    ∙ ap (λ (rows : List VersionRow). length (filter (λ row. p row && is_snap row) snaps ++ rows)) (none-kept p job guid marks all)
    ∙ ap length (append-nil (filter (λ row. p row && is_snap row) snaps))

-- a later row is later than each snapshot with the guid
after-snap : (source : List VersionRow) (guid : Guid) (own row other : VersionRow) → is_later source guid own row ≡ true → Contains source other → is_snap_of guid other ≡ true → other.txg < row.txg
after-snap source guid own row other later among snap =
    let each = (both (nat_lt own.txg row.txg) _ later).1 in
    let one = passes-of (λ (x : VersionRow). not (is_snap_of guid x) || nat_lt x.txg row.txg) source other each among in
    (Decides-ltb other.txg row.txg).0 (by (is_snap_of guid other) snap one) where
      by : (b : Bool) → b ≡ true → (not b || nat_lt other.txg row.txg) ≡ true → nat_lt other.txg row.txg ≡ true
      by true e one = one
      by false e one = absurd (true≢false (sym e))

-- a row that is after a later one is later
later-after : (source : List VersionRow) (guid : Guid) (own row next : VersionRow) → is_later source guid own row ≡ true → row.txg < next.txg → is_later source guid own next ≡ true
later-after source guid own row next later after =
    let passes = both (nat_lt own.txg row.txg) (list_all (λ (x : VersionRow). not (is_snap_of guid x) || nat_lt x.txg row.txg) source) later in
    let own_first : own.txg < row.txg = (Decides-ltb own.txg row.txg).0 passes.0 in
    let first : nat_lt own.txg next.txg ≡ true = (Decides-ltb own.txg next.txg).1 (omega (arith, own_first, after)) in
    let rest = list_all-from_AllPass (λ (x : VersionRow). not (is_snap_of guid x) || nat_lt x.txg next.txg) source
    (All-weaker (λ (x : VersionRow). (not (is_snap_of guid x) || nat_lt x.txg row.txg) ≡ true) (λ (x : VersionRow). (not (is_snap_of guid x) || nat_lt x.txg next.txg) ≡ true) (λ x. each x (is_snap_of guid x)) source (AllPass-from_list_all (λ (x : VersionRow). not (is_snap_of guid x) || nat_lt x.txg row.txg) source passes.1)) in
    rw first rest where
      each : (x : VersionRow) (b : Bool) → (not b || nat_lt x.txg row.txg) ≡ true → (not b || nat_lt x.txg next.txg) ≡ true
      each x false e = refl
      each x true e =
          let before : x.txg < row.txg = (Decides-ltb x.txg row.txg).0 e in
          (Decides-ltb x.txg next.txg).1 (omega (arith, before, after))

-- once a planned snapshot is the target's newest, fewer increments are planned
pub fewer-steps : (job : List ℕ) (snaps one other : List VersionRow) (guid next : Guid) (own own' row : VersionRow) → list_all (is_cursor_of job guid) one ≡ true → list_all (is_cursor_of job next) other ≡ true → Contains snaps row → is_snap_of next row ≡ true → is_later (snaps ++ one) guid own row ≡ true → length (steps_of (filter (is_later (snaps ++ other) next own') (snaps ++ other))) < length (steps_of (filter (is_later (snaps ++ one) guid own) (snaps ++ one)))
fewer-steps job snaps one other guid next own own' row ones others among snap later =
    omega (arith, counted-other, counted-one, kept-fewer p q less snaps (any-of (λ x. p x && not (q x)) snaps row among passes))
  where
    p : VersionRow → Bool
    p x = is_later (snaps ++ one) guid own x && is_snap x

    q : VersionRow → Bool
    q x = is_later (snaps ++ other) next own' x && is_snap x

    inside : Contains (snaps ++ other) row
    inside = Contains-append_left snaps other row among

    less : (x : VersionRow) → q x ≡ true → p x ≡ true
    less x e =
        let parts = both (is_later (snaps ++ other) next own' x) (is_snap x) e in
        rw (later-after (snaps ++ one) guid own row x later (after-snap (snaps ++ other) next own' x row parts.0 inside snap)) parts.1

    not-again : is_later (snaps ++ other) next own' row ≡ false
    not-again = by (is_later (snaps ++ other) next own' row) refl where
      by : (b : Bool) → is_later (snaps ++ other) next own' row ≡ b → b ≡ false
      by true e = let wrong : row.txg < row.txg = after-snap (snaps ++ other) next own' row row e inside snap in absurd (omega (arith, wrong))
      by false e = refl

    passes : (p row && not (q row)) ≡ true
    passes = rw (later, (both (is_snap row) _ snap).0, not-again) refl

    counted-one : length (steps_of (filter (is_later (snaps ++ one) guid own) (snaps ++ one))) ≡ length (filter p snaps)
    counted-one = plan-count (is_later (snaps ++ one) guid own) job guid snaps one ones

    counted-other : length (steps_of (filter (is_later (snaps ++ other) next own') (snaps ++ other))) ≡ length (filter q snaps)
    counted-other = plan-count (is_later (snaps ++ other) next own') job next snaps other others
