use Rattle.std.proofs.Common.{◌≡◌, ◌∙◌, ℕ, true, List, [], ◌∷◌, ◌++◌, Option, Some, None, ap, append-nil, append_assoc, inl, inr, refl, subst, sym, map}
use Rattle.std.specs.List.{All, AllZip}
use Rattle.std.proofs.lemmas.List.Elements.{All-append, All-cons, All-head, All-nil}
use Rattle.std.proofs.lemmas.Grind.{flat_map-append}
use Rattle.zr_names.specs.declared.outcome.Outcome.{Outcome}
use Rattle.zr_names.specs.declared.totals.Totals.{Totals}
use Rattle.zr_names.specs.declared.unit.Unit.{Unit}
use Rattle.zr_command.specs.declared.command.Entry.{Entry}
use Rattle.zr_world.specs.Answering.{appended}
use Rattle.zr_jobset.specs.Sets.{Jobs}
use Rattle.zr_jobset.specs.Units.{IsOfFile, is_scanned}
use Rattle.zr_permit.specs.Runs.{Ran}
use Rattle.zr_top.specs.Units.{IsDueUnit}
use Rattle.zr_names.specs.Totals.{plus}
use Rattle.zr_top.specs.Attempts.{AreNumbered, Attempt, Attempted, entries, IsGood, IsNumbered, no_totals, run_entries, tallied, tallied_all}
use Rattle.zr_top.specs.Due.{due_jobs, Found, joined, RanDue, RunUpTo, scan_of, ScanRan, ScansRan}

abbrev unit_of : Attempt → Unit
unit_of a = a.unit

abbrev entries_in : Attempt → List Entry
entries_in a = run_entries a.unit a.begun

units-append : (one other : List Attempt) → map unit_of (one ++ other) ≡ map unit_of one ++ map unit_of other
units-append [] other = refl
units-append (a ∷ one) other = ap (λ us. a.unit ∷ us) (units-append one other)

tallied-append : (one other : List Attempt) (t : Totals) → tallied_all (one ++ other) t ≡ tallied_all other (tallied_all one t)
tallied-append [] other t = refl
tallied-append (a ∷ one) other t = tallied-append one other (tallied a.ended t)

appended-append : (before : Option (List Entry)) (one other : List Entry) → appended (appended before one) other ≡ appended before (one ++ other)
appended-append None one other = refl
appended-append (Some told) one other = ap Some (append_assoc told one other)

appended-nil : (before : Option (List Entry)) → appended before [] ≡ before
appended-nil None = refl
appended-nil (Some told) = ap Some (append-nil told)

-- the records of some attempts and then of others
recorded-then : (before mid now : Option (List Entry)) (one other : List Attempt) → mid ≡ appended before (entries one) → now ≡ appended mid (entries other) → now ≡ appended before (entries (one ++ other))
recorded-then before mid now one other first second =
    second ∙ ap (λ told. appended told (entries other)) first
    ∙ appended-append before (entries one) (entries other)
    ∙ ap (appended before) (sym (flat_map-append entries_in one other))

totals-then : (start then' totals : Totals) (one other : List Attempt) → then' ≡ tallied_all one start → totals ≡ tallied_all other then' → totals ≡ tallied_all (one ++ other) start
totals-then start then' totals one other first second =
    second ∙ ap (tallied_all other) first ∙ sym (tallied-append one other start)

numbered-append : (one other : List Attempt) (t : Totals) → AreNumbered t one → AreNumbered (tallied_all one t) other → AreNumbered t (one ++ other)
numbered-append [] other t first second = second
numbered-append (a ∷ one) other t first second = (first.0, numbered-append one other (tallied a.ended t) first.1 second)

-- the numbers of some attempts and then of others
numbered-then : (start then' : Totals) (one other : List Attempt) → then' ≡ tallied_all one start → AreNumbered start one → AreNumbered then' other → AreNumbered start (one ++ other)
numbered-then start then' one other is first second =
    numbered-append one other start first (subst (λ (t : Totals). AreNumbered t other) is second)

-- no unit was due
pub attempted-none : (jobs : Jobs) (told : Option (List Entry)) (start : Totals) → Attempted jobs [] told told start start
attempted-none jobs told start = record {
  attempts = [];
  units_are = refl;
  good = All-nil (IsGood jobs);
  recorded = sym (appended-nil told);
  numbered = tt;
  totals_are = refl;
}

-- some units after others
pub attempted-then : (jobs : Jobs) (due more : List Unit) (before mid now : Option (List Entry)) (start then' totals : Totals) → Attempted jobs due before mid start then' → Attempted jobs more mid now then' totals → Attempted jobs (due ++ more) before now start totals
attempted-then jobs due more before mid now start then' totals one other = record {
  attempts = one.attempts ++ other.attempts;
  units_are = units-append one.attempts other.attempts ∙ ap (λ us. us ++ map unit_of other.attempts) one.units_are ∙ ap (λ us. due ++ us) other.units_are;
  good = All-append (IsGood jobs) one.attempts other.attempts one.good other.good;
  recorded = recorded-then before mid now one.attempts other.attempts one.recorded other.recorded;
  numbered = numbered-then start then' one.attempts other.attempts one.totals_are one.numbered other.numbered;
  totals_are = totals-then start then' totals one.attempts other.attempts one.totals_are other.totals_are;
}

one-recorded : (before now : Option (List Entry)) (attempt : Attempt) → now ≡ appended before (entries_in attempt) → now ≡ appended before (entries (attempt ∷ []))
one-recorded before now attempt recorded = recorded ∙ ap (appended before) (sym (append-nil (entries_in attempt)))

one-attempted : (jobs : Jobs) (before now : Option (List Entry)) (start : Totals) (attempt : Attempt) → IsGood jobs attempt → IsNumbered (plus start.due 1) attempt.begun → now ≡ appended before (entries_in attempt) → Attempted jobs (attempt.unit ∷ []) before now start (tallied attempt.ended start)
one-attempted jobs before now start attempt good numbered recorded = record {
  attempts = attempt ∷ [];
  units_are = refl;
  good = All-cons (IsGood jobs) attempt [] good (All-nil (IsGood jobs));
  recorded = one-recorded before now attempt recorded;
  numbered = (numbered, tt);
  totals_are = refl;
}

-- a unit that was run, or could not begin
pub attempted-run : (jobs : Jobs) (unit : Unit) (run : ℕ) (before now : Option (List Entry)) (start : Totals) (ended : Outcome) → IsOfFile jobs unit → run ≡ plus start.due 1 → Ran jobs unit run before now ended → Attempted jobs (unit ∷ []) before now start (tallied ended start)
attempted-run jobs unit run before now start ended of_file next (inl ran) =
    let attempt : Attempt = record { unit = unit; begun = Some (run, ran.turns); ended = ended } in
    one-attempted jobs before now start attempt (record { of_file = of_file; ends_well = (ran.legal, ran.result) }) next ran.recorded
attempted-run jobs unit run before now start ended of_file next (inr none) =
    let attempt : Attempt = record { unit = unit; begun = None; ended = ended } in
    one-attempted jobs before now start attempt (record { of_file = of_file; ends_well = none.0 }) tt (none.1 ∙ sym (appended-nil before))

-- no unit of some was run yet
pub run-none : (jobs : Jobs) (all : List Unit) (told : Option (List Entry)) (start : Totals) → RunUpTo jobs all all told told start start
run-none jobs all told start = record {
  run = [];
  parts = refl;
  ran = attempted-none jobs told start;
}

-- one unit more of some was run
pub run-more : (jobs : Jobs) (all left rest : List Unit) (unit : Unit) (run : ℕ) (before mid now : Option (List Entry)) (start then' totals : Totals) (ended : Outcome) → RunUpTo jobs all left before mid start then' → left ≡ unit ∷ rest → IsOfFile jobs unit → run ≡ plus then'.due 1 → Ran jobs unit run mid now ended → totals ≡ tallied ended then' → RunUpTo jobs all rest before now start totals
run-more jobs all left rest unit run before mid now start then' totals ended up_to is of_file next ran counted =
    let at : Totals → Type 0 = λ t. Attempted jobs (up_to.run ++ unit ∷ []) before now start t in
    record {
      run = up_to.run ++ unit ∷ [];
      parts = append_assoc up_to.run (unit ∷ []) rest ∙ ap (λ us. up_to.run ++ us) (sym is) ∙ up_to.parts;
      ran = subst at (sym counted) (attempted-then jobs up_to.run (unit ∷ []) before mid now start then' _ up_to.ran (attempted-run jobs unit run mid now then' ended of_file next ran));
    }

-- the units of one scan more were run
pub run-joined : (jobs : Jobs) (all left rest : List (List Unit)) (units : List Unit) (before mid now : Option (List Entry)) (start then' totals : Totals) → RunUpTo jobs (joined all) (joined left) before mid start then' → left ≡ units ∷ rest → Attempted jobs units mid now then' totals → RunUpTo jobs (joined all) (joined rest) before now start totals
run-joined jobs all left rest units before mid now start then' totals up_to is ran = record {
  run = up_to.run ++ units;
  parts = append_assoc up_to.run units (joined rest) ∙ ap (λ us. up_to.run ++ joined us) (sym is) ∙ up_to.parts;
  ran = attempted-then jobs up_to.run units before mid now start then' totals up_to.ran ran;
}

-- the first of some units
pub first-of : (jobs : Jobs) (unit : Unit) (rest all : List Unit) → all ≡ unit ∷ rest → All (IsDueUnit jobs) all → IsOfFile jobs unit
first-of jobs unit rest all is each =
    let due : List Unit → Type 0 = All (IsDueUnit jobs) in
    (All-head (IsDueUnit jobs) unit rest (subst due is each)).of_file

-- a scan is a unit of the job file
pub scan-of-file : (jobs : Jobs) (job moment : ℕ) → is_scanned jobs job ≡ true → IsOfFile jobs (scan_of moment job)
scan-of-file jobs job moment scanned = record {
  of_job = scanned;
  work_is = tt;
}

-- no scan was run yet
pub scanned-none : (jobs : Jobs) (moment : ℕ) (told : Option (List Entry)) (start : Totals) → ScansRan jobs moment [] told told start start []
scanned-none jobs moment told start = record {
  attempts = [];
  units_are = refl;
  good = All-nil (IsGood jobs);
  recorded = sym (appended-nil told);
  numbered = tt;
  totals_are = refl;
  found_are = tt;
}

map-last : (moment : ℕ) (numbers : List ℕ) (number : ℕ) → map (scan_of moment) (numbers ++ number ∷ []) ≡ map (scan_of moment) numbers ++ scan_of moment number ∷ []
map-last moment [] number = refl
map-last moment (n ∷ numbers) number = ap (λ us. scan_of moment n ∷ us) (map-last moment numbers number)

zip-more : (jobs : Jobs) (attempts : List Attempt) (found : List (List Unit)) (attempt : Attempt) (units : List Unit) → AllZip (Found jobs) attempts found → Found jobs attempt units → AllZip (Found jobs) (attempts ++ attempt ∷ []) (found ++ units ∷ [])
zip-more jobs [] [] attempt units each finds = (finds, tt)
zip-more jobs [] (us ∷ found) attempt units each finds = absurd each
zip-more jobs (a ∷ attempts) [] attempt units each finds = absurd each
zip-more jobs (a ∷ attempts) (us ∷ found) attempt units each finds =
    (each.0, zip-more jobs attempts found attempt units each.1 finds)

-- the scan of one job more was run
pub scanned-more : (jobs : Jobs) (moment : ℕ) (numbers : List ℕ) (number run : ℕ) (before mid now : Option (List Entry)) (start then' totals : Totals) (ended : Outcome) (found : List (List Unit)) (units : List Unit) → is_scanned jobs number ≡ true → ScansRan jobs moment numbers before mid start then' found → ScanRan jobs (scan_of moment number) run mid now ended units → run ≡ plus then'.due 1 → totals ≡ tallied ended then' → ScansRan jobs moment (numbers ++ number ∷ []) before now start totals (found ++ units ∷ [])
scanned-more jobs moment numbers number run before mid now start then' totals ended found units due scans scan next counted =
    let attempt : Attempt = record { unit = scan_of moment number; begun = scan.begun; ended = ended } in
    let good : IsGood jobs attempt = record { of_file = scan-of-file jobs number moment due; ends_well = scan.ends_well } in
    record {
      attempts = scans.attempts ++ attempt ∷ [];
      units_are = units-append scans.attempts (attempt ∷ []) ∙ ap (λ us. us ++ attempt.unit ∷ []) scans.units_are ∙ sym (map-last moment numbers number);
      good = All-append (IsGood jobs) scans.attempts (attempt ∷ []) scans.good (All-cons (IsGood jobs) attempt [] good (All-nil (IsGood jobs)));
      recorded = recorded-then before mid now scans.attempts (attempt ∷ []) scans.recorded (one-recorded mid now attempt scan.recorded);
      numbered = numbered-then start then' scans.attempts (attempt ∷ []) scans.totals_are scans.numbered (subst (λ (n : ℕ). IsNumbered n scan.begun) next scan.numbered, tt);
      totals_are = totals-then start then' totals scans.attempts (attempt ∷ []) scans.totals_are counted;
      found_are = zip-more jobs scans.attempts found attempt units scans.found_are scan.finds;
    }

-- all that was due was attempted: the scans, and then the units that they found
pub ran-due : (jobs : Jobs) (moment : ℕ) (before mid now : Option (List Entry)) (start then' totals : Totals) (found : List (List Unit)) → start ≡ no_totals → ScansRan jobs moment (due_jobs jobs) before mid start then' found → Attempted jobs (joined found) mid now then' totals → RanDue jobs (Some moment) before now totals
ran-due jobs moment before mid now start then' totals found zeros scans others = record {
  attempts = scans.attempts ++ others.attempts;
  due = record {
    scans = scans.attempts;
    others = others.attempts;
    parts = refl;
    scans_are = scans.units_are;
    found = found;
    found_are = scans.found_are;
    others_are = others.units_are;
  };
  good = All-append (IsGood jobs) scans.attempts others.attempts scans.good others.good;
  recorded = recorded-then before mid now scans.attempts others.attempts scans.recorded others.recorded;
  numbered = subst (λ (t : Totals). AreNumbered t (scans.attempts ++ others.attempts)) zeros (numbered-then start then' scans.attempts others.attempts scans.totals_are scans.numbered others.numbered);
  totals_are = totals-then start then' totals scans.attempts others.attempts scans.totals_are others.totals_are ∙ ap (tallied_all (scans.attempts ++ others.attempts)) zeros;
}
