-- What a look-up in the index tells of the whole list.
use Rattle.std.proofs.Common.{◌≡◌, ◌==◌, ◌&&◌, ◌||◌, ◌+◌, ℕ, Bool, true, false, cond, List, [], ◌∷◌, ap, arith, count_by, filter, ltb, refl, sym, ◌∙◌}
use Rattle.std.specs.List.{list_any}
use Rattle.std.specs.Cmp.Lexicographic.{bytes_decides}
use Rattle.std.proofs.lemmas.Bool.{and_parts, eq-eqb, eqb-true, false≢true, lt-ltb, true≢false}
use Rattle.std.proofs.lemmas.List.Sums.{sum_by-cons}
use Rattle.zr_names.specs.declared.unit.Unit.{Unit}
use Rattle.zr_names.specs.declared.unit.Work.{Work}
use Rattle.zr_names.specs.declared.unit.Work.TheVariants.{Scan, Parents, Snap, Replicate, PruneSource, PruneTarget}
use Rattle.zr_ledger.specs.Index.{is_snap_in, slot_of}
use Rattle.zr_ledger.specs.Queue.{is_of_job}
use Rattle.zr_ledger.specs.Seats.{has_key, is_ancestor_of, is_replicate_above, is_snap, is_snap_of, same_kind, same_seat, same_text, seat_at}
use Rattle.zr_ledger.proofs.Lines.{any-filter}
use Rattle.zr_ledger.proofs.Starting.{none-within}

any-count-by : (is : Bool) (n total : ℕ) (rest : Bool) → total ≡ cond is 1 0 + n → ltb 0 n ≡ rest → ltb 0 total ≡ (is || rest)
any-count-by true n total rest sum same = lt-ltb 0 total (omega arith)
any-count-by false n total rest sum same = let e : total ≡ n = omega arith in ap (ltb 0) e ∙ same

-- some pass where their count is not 0
pub any-count : {X : Type 0} (p : X → Bool) (xs : List X) → ltb 0 (count_by p xs) ≡ list_any p xs
any-count p [] = refl
any-count p (x ∷ xs) =
    any-count-by (p x) (count_by p xs) (count_by p (x ∷ xs)) (list_any p xs) (sum_by-cons (λ y. cond (p y) 1 0) x xs) (any-count p xs)

-- two works of one key are of one job, but for snapshots
key-job-by : (job other : ℕ) (work its : Work) → is_snap work ≡ false → (same_kind work its && same_seat (seat_at job work) (seat_at other its)) ≡ true → job ≡ other
key-job-by job other (Snap path prefix) its late key = absurd (true≢false late)
key-job-by job other Scan Scan late key = eqb-true job other key
key-job-by job other Parents Parents late key = eqb-true job other key
key-job-by job other (Replicate path) (Replicate own) late key = eqb-true job other (and_parts (job == other) (same_text path own) key).0
key-job-by job other (PruneSource path) (PruneSource own) late key = eqb-true job other (and_parts (job == other) (same_text path own) key).0
key-job-by job other (PruneTarget path) (PruneTarget own) late key = eqb-true job other (and_parts (job == other) (same_text path own) key).0
key-job-by job other work its late key = absurd (false≢true key)

key-job : (job : ℕ) (work : Work) (unit : Unit) → is_snap work ≡ false → has_key job work unit ≡ true → is_of_job job unit ≡ true
key-job job work unit late key = eq-eqb unit.job job (sym (key-job-by job unit.job work unit.work late key))

-- who has a key that is no snapshot's is found among those of the job
pub any-key : (job : ℕ) (work : Work) (units : List Unit) → is_snap work ≡ false → list_any (has_key job work) (filter (is_of_job job) units) ≡ list_any (has_key job work) units
any-key job work units late =
    any-filter (has_key job work) (is_of_job job) units (λ unit key. key-job job work unit late key)

pub any-ancestor : (job : ℕ) (path : List ℕ) (units : List Unit) → list_any (is_ancestor_of job path) (filter (is_of_job job) units) ≡ list_any (is_ancestor_of job path) units
any-ancestor job path units =
    any-filter (is_ancestor_of job path) (is_of_job job) units (λ unit is. (and_parts (unit.job == job) (is_replicate_above path unit.work) is).0)

snap-in : (path : List ℕ) (work : Work) → is_snap_of path work ≡ true → is_snap_in (slot_of path) work ≡ true
snap-in path Scan is = is
snap-in path Parents is = is
snap-in path (Snap own prefix) is = eq-eqb (slot_of own) (slot_of path) (sym (ap slot_of ((bytes_decides path own).0 is)))
snap-in path (Replicate own) is = is
snap-in path (PruneSource own) is = is
snap-in path (PruneTarget own) is = is

-- where no snapshot is in a path's slot, none of the path waits
pub none-in-slot : (path : List ℕ) (p : Unit → Bool) (units : List Unit) → ((unit : Unit) → p unit ≡ true → is_snap_of path unit.work ≡ true) → ltb 0 (count_by (λ (unit : Unit). is_snap_in (slot_of path) unit.work) units) ≡ false → list_any p units ≡ false
none-in-slot path p units only none =
    none-within p (λ (unit : Unit). is_snap_in (slot_of path) unit.work) units (λ unit is. snap-in path unit.work (only unit is))
    (sym (any-count (λ (unit : Unit). is_snap_in (slot_of path) unit.work) units) ∙ none)
