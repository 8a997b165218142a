-- The lines of the jobs and the counts of snapshots, as a unit comes and goes.
use Rattle.std.proofs.Common.{◌≡◌, ◌+◌, ◌<◌, ◌≤◌, ℕ, Bool, cond, List, [], ◌∷◌, ◌++◌, All, count_by, filter, get_or, length, map, remove, set, slice_get, slice_index, Some, take, refl, sym, ap, ◌∙◌, subst, arith, append-nil, replicate, ⊎_elim}
use Rattle.std.proofs.lemmas.Bool.{cases_eq, cases_lt, cond-false, cond-true, eq-eqb, ne_eqb}
use Rattle.std.proofs.lemmas.Option.{get_or_from_slice_get}
use Rattle.std.proofs.lemmas.List.Elements.{All-head, All-tail}
use Rattle.std.proofs.lemmas.List.{get_or-map, get_or-replicate, length-replicate, get_or_append_left, get_or_push, length_push, map-append, get_or-set_other, get_or-set_same, get_or_past, length-map, map-set}
use Rattle.zr_names.specs.declared.unit.Unit.{Unit}
use Rattle.zr_ledger.specs.Index.{HoldsLines, IsIndexed, is_snap_in, line_at, rooms_of}
use Rattle.zr_ledger.specs.Queue.{HasRoomFor, Lined, is_of_job}
use Rattle.zr_ledger.specs.Seats.{is_scan}
use Rattle.zr_ledger.specs.declared.slots.TheConstants.{SLOTS}
use Rattle.zr_ledger.proofs.Lines.{filter-push, filter-remove, filter-remove_other, filter-there}
use Rattle.zr_ledger.proofs.Steady.{count_by-cons, count_by-push, count_by-remove}

abbrev units_of : Lined → List Unit
units_of line = line.units

-- a line is what stands at its job
pub line-there : (lines : List Lined) (job : ℕ) (line : Lined) → job < length lines → line ≡ get_or lines job line → line_at lines job ≡ line.units
line-there lines job line within is =
    get_or-map units_of lines job line [] within ∙ ap units_of (sym is)

pub line-past : (lines : List Lined) (job : ℕ) → length lines ≤ job → line_at lines job ≡ []
line-past lines job past =
    let long = length-map lines units_of in get_or_past (map units_of lines) job [] (omega arith)

-- after a write of one line
line-written : (lines : List Lined) (job : ℕ) (now : Lined) → job < length lines → line_at (set lines job now) job ≡ now.units
line-written lines job now within =
    let long = length-map lines units_of in
    let inside : job < length (map units_of lines) = omega arith in
    ap (λ (us : List (List Unit)). get_or us job []) (map-set units_of lines job now) ∙ get_or-set_same (map units_of lines) job now.units [] inside

line-other : (lines : List Lined) (job other : ℕ) (now : Lined) → (other ≡ job → ⊥) → line_at (set lines job now) other ≡ line_at lines other
line-other lines job other now differ =
    ap (λ (us : List (List Unit)). get_or us other []) (map-set units_of lines job now) ∙ get_or-set_other (map units_of lines) job other now.units [] differ

-- a unit is added to the order and to its job's line
pub lines-push : (lines : List Lined) (order : List Unit) (line now : Lined) (unit : Unit) → HoldsLines lines order → unit.job < length lines → line ≡ get_or lines unit.job line → now.units ≡ line.units ++ unit ∷ [] → HoldsLines (set lines unit.job now) (order ++ unit ∷ [])
lines-push lines order line now unit holds within is grown = λ job.
    ⊎_elim
    (λ (same : job ≡ unit.job).
    subst (λ (j : ℕ). line_at (set lines unit.job now) j ≡ filter (is_of_job j) (order ++ unit ∷ [])) (sym same)
    (line-written lines unit.job now within ∙ grown
    ∙ ap (λ (us : List Unit). us ++ unit ∷ []) (sym (line-there lines unit.job line within is) ∙ holds unit.job)
    ∙ ap (λ (us : List Unit). filter (is_of_job unit.job) order ++ us) (sym (cond-true (is_of_job unit.job unit) (unit ∷ []) [] (eq-eqb unit.job unit.job refl)))
    ∙ sym (filter-push (is_of_job unit.job) order unit)))
    (λ (differ : job ≡ unit.job → ⊥).
    line-other lines unit.job job now differ ∙ holds job ∙ sym (append-nil (filter (is_of_job job) order))
    ∙ ap (λ (us : List Unit). filter (is_of_job job) order ++ us) (sym (cond-false (is_of_job job unit) (unit ∷ []) [] (ne_eqb unit.job job (λ e. differ (sym e)))))
    ∙ sym (filter-push (is_of_job job) order unit))
    (cases_eq job unit.job)

-- a unit goes from its place in the order, and from its job's line
pub lines-remove : (lines : List Lined) (order : List Unit) (place : ℕ) (line now : Lined) (unit : Unit) → HoldsLines lines order → place < length order → get_or order place unit ≡ unit → unit.job < length lines → line ≡ get_or lines unit.job line → now.units ≡ remove line.units (count_by (is_of_job unit.job) (take place order)) → HoldsLines (set lines unit.job now) (remove order place)
lines-remove lines order place line now unit holds inside there within is shrunk = λ job.
    ⊎_elim
    (λ (same : job ≡ unit.job).
    subst (λ (j : ℕ). line_at (set lines unit.job now) j ≡ filter (is_of_job j) (remove order place)) (sym same)
    (line-written lines unit.job now within ∙ shrunk
    ∙ ap (λ (us : List Unit). remove us (count_by (is_of_job unit.job) (take place order))) (sym (line-there lines unit.job line within is) ∙ holds unit.job)
    ∙ sym (filter-remove (is_of_job unit.job) order place unit inside there (eq-eqb unit.job unit.job refl))))
    (λ (differ : job ≡ unit.job → ⊥).
    line-other lines unit.job job now differ ∙ holds job
    ∙ sym (filter-remove_other (is_of_job job) order place unit inside there (ne_eqb unit.job job (λ e. differ (sym e)))))
    (cases_eq job unit.job)

abbrev room_of : Lined → ℕ
room_of line = line.room

room-written : (lines : List Lined) (job : ℕ) (now : Lined) → job < length lines → slice_index (rooms_of (set lines job now)) job ≡ now.room
room-written lines job now within =
    let long = length-map lines room_of in
    let inside : job < length (map room_of lines) = omega arith in
    ap (λ (ns : List ℕ). get_or ns job 0) (map-set room_of lines job now) ∙ get_or-set_same (map room_of lines) job now.room 0 inside

room-other : (lines : List Lined) (job other : ℕ) (now : Lined) → (other ≡ job → ⊥) → slice_index (rooms_of (set lines job now)) other ≡ slice_index (rooms_of lines) other
room-other lines job other now differ =
    ap (λ (ns : List ℕ). get_or ns other 0) (map-set room_of lines job now) ∙ get_or-set_other (map room_of lines) job other now.room 0 differ

pub room-there : (lines : List Lined) (job : ℕ) (line : Lined) → job < length lines → line ≡ get_or lines job line → slice_index (rooms_of lines) job ≡ line.room
room-there lines job line within is = get_or-map room_of lines job line 0 within ∙ ap room_of (sym is)

-- the room that is left once a unit has come
pub room-push : (units more : List Unit) (lines : List Lined) (room left : ℕ) (line now : Lined) (unit : Unit) → unit.job < length lines → line ≡ get_or lines unit.job line → now.room + 1 ≡ line.room → left + 1 ≡ room → (rest : List Unit) → HasRoomFor (record { units = units; room = room; rooms = rooms_of lines }) (unit ∷ rest) → HasRoomFor (record { units = more; room = left; rooms = rooms_of (set lines unit.job now) }) rest
room-push units more lines room left line now unit within is fewer less rest has = record {
  order = let a = has.order in omega arith;
  lines = λ job.
      let a = has.lines job in
      let b = count_by-cons (is_of_job job) unit rest in
      ⊎_elim
      (λ (same : job ≡ unit.job).
      let c : ◌≡◌ {A = ℕ} (cond (is_of_job job unit) 1 0) 1 = cond-true (is_of_job job unit) 1 0 (eq-eqb unit.job job (sym same)) in
      let d = subst (λ (j : ℕ). slice_index (rooms_of (set lines unit.job now)) j ≡ now.room) (sym same) (room-written lines unit.job now within) in
      let e = subst (λ (j : ℕ). slice_index (rooms_of lines) j ≡ line.room) (sym same) (room-there lines unit.job line within is) in
      omega (arith, b, c, d, e))
      (λ (differ : job ≡ unit.job → ⊥).
      let d = room-other lines unit.job job now differ in
      omega arith)
      (cases_eq job unit.job);
}

-- a line that keeps its units
pub line-kept : (lines : List Lined) (job : ℕ) (line now : Lined) → job < length lines → line ≡ get_or lines job line → now.units ≡ line.units → (other : ℕ) → line_at (set lines job now) other ≡ line_at lines other
line-kept lines job line now within is same other =
    ⊎_elim
    (λ (here : other ≡ job).
    subst (λ (j : ℕ). line_at (set lines job now) j ≡ line_at lines j) (sym here)
    (line-written lines job now within ∙ same ∙ sym (line-there lines job line within is)))
    (λ (differ : other ≡ job → ⊥). line-other lines job other now differ)
    (cases_eq other job)

-- a line more, which has no units
pub line-pushed : (lines : List Lined) (line : Lined) → line.units ≡ [] → (job : ℕ) → line_at (lines ++ line ∷ []) job ≡ line_at lines job
line-pushed lines line none job =
    let long = length-map lines units_of in
    let grown = ap (λ (us : List (List Unit)). get_or us job []) (map-append units_of lines (line ∷ [])) in
    ⊎_elim
    (λ (within : job < length lines).
    let inside : job < length (map units_of lines) = omega arith in
    grown ∙ get_or_append_left (map units_of lines) (line.units ∷ []) [] job inside)
    (λ (past : length lines ≤ job).
    ⊎_elim
    (λ (at : job ≡ length lines).
    grown ∙ get_or_push (map units_of lines) line.units [] job (let e : length (map units_of lines) ≡ job = omega arith in e) ∙ none ∙ sym (line-past lines job past))
    (λ (beyond : job ≡ length lines → ⊥).
    let more = length_push (map units_of lines) line.units in
    grown ∙ get_or_past (map units_of lines ++ line.units ∷ []) job [] (omega arith) ∙ sym (line-past lines job past))
    (cases_eq job (length lines)))
    (cases_lt job (length lines))

-- there is room in each line so far
pub rooms-more : (lines : List Lined) (units : List Unit) (job : ℕ) (line now : Lined) → job < length lines → count_by (is_of_job job) units ≤ now.room → ((j : ℕ) → j < job → count_by (is_of_job j) units ≤ slice_index (rooms_of lines) j) → (j : ℕ) → j < job + 1 → count_by (is_of_job j) units ≤ slice_index (rooms_of (set lines job now)) j
rooms-more lines units job line now within enough before j below =
    ⊎_elim
    (λ (same : j ≡ job).
    let room = subst (λ (k : ℕ). slice_index (rooms_of (set lines job now)) k ≡ now.room) (sym same) (room-written lines job now within) in
    let count = subst (λ (k : ℕ). count_by (is_of_job k) units ≤ now.room) (sym same) enough in
    omega arith)
    (λ (differ : j ≡ job → ⊥).
    let room = room-other lines job j now differ in
    let less : j < job = omega arith in
    let count = before j less in
    omega arith)
    (cases_eq j job)

none-of : (units : List Unit) (jobs job : ℕ) → All (λ (unit : Unit). unit.job < jobs) units → jobs ≤ job → count_by (is_of_job job) units ≡ 0
none-of [] jobs job all past = refl
none-of (unit ∷ units) jobs job all past =
    let first = All-head (λ (u : Unit). u.job < jobs) unit units all in
    let rest = none-of units jobs job (All-tail (λ (u : Unit). u.job < jobs) unit units all) past in
    let sum = count_by-cons (is_of_job job) unit units in
    let other : ◌≡◌ {A = ℕ} (cond (is_of_job job unit) 1 0) 0 = cond-false (is_of_job job unit) 1 0 (ne_eqb unit.job job (λ e. absurd (omega arith))) in
    omega (arith, sum, other, rest)

-- there is room for the units of each job
pub rooms-all : (lines : List Lined) (units : List Unit) (jobs : ℕ) → All (λ (unit : Unit). unit.job < jobs) units → jobs ≤ length lines → ((job : ℕ) → job < length lines → count_by (is_of_job job) units ≤ slice_index (rooms_of lines) job) → (job : ℕ) → count_by (is_of_job job) units ≤ slice_index (rooms_of lines) job
rooms-all lines units jobs all long enough job =
    ⊎_elim
    (λ (within : job < length lines). enough job within)
    (λ (past : length lines ≤ job). let none = none-of units jobs job all (omega arith) in omega arith)
    (cases_lt job (length lines))

-- a unit for which there is room has its line
pub job-inside : (lines : List Lined) (unit : Unit) → count_by (is_of_job unit.job) (unit ∷ []) ≤ slice_index (rooms_of lines) unit.job → (unit.job < length lines) × (1 ≤ slice_index (rooms_of lines) unit.job)
job-inside lines unit room =
    let one = count_by-cons (is_of_job unit.job) unit [] in
    let is : ◌≡◌ {A = ℕ} (cond (is_of_job unit.job unit) 1 0) 1 = cond-true (is_of_job unit.job unit) 1 0 (eq-eqb unit.job unit.job refl) in
    let long = length-map lines room_of in
    ⊎_elim
    (λ (within : unit.job < length lines). (within, omega (arith, one, is, room)))
    (λ (past : length lines ≤ unit.job).
    let none = get_or_past (map room_of lines) unit.job 0 (omega arith) in
    absurd (omega (arith, one, is, room, none)))
    (cases_lt unit.job (length lines))

-- the line of a unit that waits is there
pub unit-inside : (lines : List Lined) (order : List Unit) (place : ℕ) (unit : Unit) → HoldsLines lines order → place < length order → get_or order place unit ≡ unit → unit.job < length lines
unit-inside lines order place unit holds within there =
    let kept = filter-there (is_of_job unit.job) order place unit unit within there (eq-eqb unit.job unit.job refl) in
    ⊎_elim
    (λ (inside : unit.job < length lines). inside)
    (λ (past : length lines ≤ unit.job).
    let empty = ap (λ (us : List Unit). length us) (sym (holds unit.job) ∙ line-past lines unit.job past) in
    let some = kept.0 in
    absurd (omega arith))
    (cases_lt unit.job (length lines))

-- in its line it stands behind as many as of its job stand before it
pub rank-there : (lines : List Lined) (order : List Unit) (place : ℕ) (line : Lined) (unit d : Unit) → HoldsLines lines order → place < length order → get_or order place unit ≡ unit → line ≡ get_or lines unit.job line → (count_by (is_of_job unit.job) (take place order) < length line.units) × (get_or line.units (count_by (is_of_job unit.job) (take place order)) d ≡ unit)
rank-there lines order place line unit d holds within there is =
    let inside = unit-inside lines order place unit holds within there in
    let kept = filter-there (is_of_job unit.job) order place unit d within there (eq-eqb unit.job unit.job refl) in
    let same = sym (holds unit.job) ∙ line-there lines unit.job line inside is in (
      subst (λ (us : List Unit). count_by (is_of_job unit.job) (take place order) < length us) same kept.0,
      subst (λ (us : List Unit). get_or us (count_by (is_of_job unit.job) (take place order)) d ≡ unit) same kept.1,
    )

-- so its twin is the unit itself
pub twin-there : (lines : List Lined) (order : List Unit) (place rank : ℕ) (line : Lined) (unit twin : Unit) → HoldsLines lines order → place < length order → get_or order place unit ≡ unit → line ≡ get_or lines unit.job line → rank ≡ count_by (is_of_job unit.job) (take place order) → slice_get line.units rank ≡ Some twin → twin ≡ unit
twin-there lines order place rank line unit twin holds within there is ranked at =
    sym (get_or_from_slice_get line.units rank twin unit at) ∙ ap (λ (n : ℕ). get_or line.units n unit) ranked
    ∙ (rank-there lines order place line unit unit holds within there is).1

-- what passes at a place is counted
pub counted-at : (p : Unit → Bool) (order : List Unit) (place : ℕ) (unit : Unit) → place < length order → get_or order place unit ≡ unit → count_by p (remove order place) + cond (p unit) 1 0 ≡ count_by p order
counted-at p order place unit within there =
    subst (λ (u : Unit). count_by p (remove order place) + cond (p u) 1 0 ≡ count_by p order) there (count_by-remove p order place unit within)

pub indexed-push : (order more : List Unit) (lines : List Lined) (scans now_scans : ℕ) (snaps now_snaps : List ℕ) (line now : Lined) (unit : Unit) → IsIndexed order lines scans snaps → more ≡ order ++ unit ∷ [] → unit.job < length lines → line ≡ get_or lines unit.job line → now.units ≡ line.units ++ unit ∷ [] → now_scans ≡ scans + cond (is_scan unit.work) 1 0 → length now_snaps ≡ SLOTS → ((slot : ℕ) → slot < SLOTS → slice_index now_snaps slot ≡ slice_index snaps slot + cond (is_snap_in slot unit.work) 1 0) → IsIndexed more (set lines unit.job now) now_scans now_snaps
indexed-push order more lines scans now_scans snaps now_snaps line now unit so grown within is put scanned slots counted =
    rw grown (record {
      same = lines-push lines order line now unit so.same within is put;
      scanning = scanned ∙ ap (λ (n : ℕ). n + cond (is_scan unit.work) 1 0) so.scanning ∙ sym (count_by-push (λ (u : Unit). is_scan u.work) order unit);
      snapping = record {
        slots = slots;
        counts = λ slot below. counted slot below ∙ ap (λ (n : ℕ). n + cond (is_snap_in slot unit.work) 1 0) (so.snapping.counts slot below) ∙ sym (count_by-push (λ (u : Unit). is_snap_in slot u.work) order unit);
      };
    })

pub indexed-remove : (order fewer : List Unit) (place : ℕ) (lines : List Lined) (scans now_scans : ℕ) (snaps now_snaps : List ℕ) (line now : Lined) (unit : Unit) → IsIndexed order lines scans snaps → place < length order → get_or order place unit ≡ unit → fewer ≡ remove order place → line ≡ get_or lines unit.job line → now.units ≡ remove line.units (count_by (is_of_job unit.job) (take place order)) → now_scans + cond (is_scan unit.work) 1 0 ≡ scans → length now_snaps ≡ SLOTS → ((slot : ℕ) → slot < SLOTS → slice_index now_snaps slot + cond (is_snap_in slot unit.work) 1 0 ≡ slice_index snaps slot) → IsIndexed fewer (set lines unit.job now) now_scans now_snaps
indexed-remove order fewer place lines scans now_scans snaps now_snaps line now unit so within there shrunk is taken scanned slots counted =
    rw shrunk (record {
      same = lines-remove lines order place line now unit so.same within there (unit-inside lines order place unit so.same within there) is taken;
      scanning = let a = so.scanning in let b = counted-at (λ (u : Unit). is_scan u.work) order place unit within there in omega arith;
      snapping = record {
        slots = slots;
        counts = λ slot below. let a = so.snapping.counts slot below in let b = counted-at (λ (u : Unit). is_snap_in slot u.work) order place unit within there in let d = counted slot below in omega arith;
      };
    })

pub indexed-nothing : (order : List Unit) (lines : List Lined) (snaps : List ℕ) → order ≡ [] → lines ≡ [] → snaps ≡ replicate SLOTS 0 → IsIndexed order lines 0 snaps
indexed-nothing order lines snaps none empty zeros =
    rw (none, empty, zeros) (record {
      same = λ job. refl;
      scanning = refl;
      snapping = record {
        slots = length-replicate {A = ℕ} SLOTS 0;
        counts = λ slot below. get_or-replicate SLOTS slot 0 0 below;
      };
    })
