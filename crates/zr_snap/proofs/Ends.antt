use Rattle.std.proofs.Common.{◌≡◌, ◌≢◌, ◌∙◌, ℕ, true, false, List, [], ◌∷◌, Option, ap, filter, length, not, refl, subst, sym}
use Rattle.std.specs.List.{All}
use Rattle.std.proofs.lemmas.List.Elements.{All-nil}
use Rattle.zr_names.specs.declared.outcome.Outcome.{Outcome}
use Rattle.zr_names.specs.declared.outcome.Outcome.TheVariants as outcome
use Rattle.zr_names.specs.declared.unit.Unit.{Unit}
use Rattle.zr_names.specs.declared.unit.Work.{Work}
use Rattle.zr_names.specs.declared.unit.Work.TheVariants as work
use Rattle.zr_command.specs.declared.command.Answer.TheVariants as answer
use Rattle.zr_command.specs.declared.command.Cmd.TheVariants as cmd
use Rattle.zr_command.specs.declared.command.Reply.TheVariants as reply
use Rattle.zr_command.specs.declared.version.SetRow.{SetRow}
use Rattle.zr_base.specs.Count.{Rose}
use Rattle.zr_command.specs.declared.command.Entry.{Entry}
use Rattle.zr_permit.specs.declared.told.Told.{Told}
use Rattle.zr_permit.specs.declared.told.Told.TheVariants as told
use Rattle.zr_permit.specs.Sight.{HasEnded, HasJustBegun, Sight, Went}
use Rattle.zr_permit.specs.Turned.{IsRecordOf, IsRecordAfter, IsRecordOfUnit, Turns}
use Rattle.zr_permit.proofs.Ending.{begun-at-work, ended-undone, went-nowhere}
use Rattle.zr_snap.specs.Scanning.{Gives}
use Rattle.zr_jobset.specs.Sets.{Jobs}
use Rattle.zr_jobset.specs.Units.{fits_in, matched}
use Rattle.zr_permit.specs.Result.{capped, ended_as, is_child_fault, is_out_of_memory, ResultOf}
use Rattle.zr_permit.specs.Transcript.{Allowed, GoesOn, Permits, Transcript, Turn}

pub failed-undone : told.Failed ≢ told.Done
failed-undone e = cc

pub garbled-undone : (line : ℕ) → told.Garbled line ≢ told.Done
garbled-undone line e = cc

-- a scan ends where its listing failed
pub scan-ends : (unit_work : Work) → unit_work ≡ work.Scan → GoesOn unit_work cmd.Sets answer.Failed → ⊥
scan-ends unit_work is goes =
    let Goes : Work → Type 0 = λ w. GoesOn w cmd.Sets answer.Failed in
    subst Goes is goes

-- a scan may list the datasets
pub scan-allowed : (jobs : Jobs) (unit : Unit) (turns : Transcript) → turns ≡ [] → unit.work ≡ work.Scan → Allowed jobs unit turns cmd.Sets
scan-allowed jobs unit turns none is =
    let Goes : Turn → Type 0 = λ turn. GoesOn unit.work turn.0 turn.1 in
    let All_go : Transcript → Type 0 = λ ts. All Goes ts in
    let May : Work → Type 0 = λ w. Permits jobs unit.job w turns cmd.Sets in
    record {
      goes_on = subst All_go (sym none) (All-nil Goes);
      is_new = tt;
      permits = subst May (sym is) tt;
    }

-- the outcome of a scan over a listing
abbrev pub scanned : Jobs → ℕ → List SetRow → Outcome
scanned jobs number rows = outcome.Scanned (capped (length (filter (fits_in jobs number) (matched jobs number rows)))) (capped (length (filter (λ path. not (fits_in jobs number path)) (matched jobs number rows))))

-- a scan that has listed the datasets has this result
pub scanned-result : (jobs jobs' : Jobs) (unit unit' : Unit) (turns : Transcript) (rows : List SetRow) (ended : Outcome) → jobs' ≡ jobs → unit' ≡ unit → unit.work ≡ work.Scan → turns ≡ (cmd.Sets, answer.Done (reply.Sets rows)) ∷ [] → ended ≡ scanned jobs' unit'.job rows → ResultOf jobs unit turns ended
scanned-result jobs jobs' unit unit' turns rows ended same_jobs same_unit is told ends =
    let by_jobs : Jobs → Outcome = λ j. scanned j unit'.job rows in
    let by_unit : Unit → Outcome = λ u. scanned jobs u.job rows in
    let of : Outcome → Type 0 = λ o. ResultOf jobs unit turns o in
    subst of (sym (ends ∙ ap by_jobs same_jobs ∙ ap by_unit same_unit)) (record {
      work_is = is;
      rows = rows;
      told = told;
      found_are = refl;
      too_long_are = refl;
    })

pub memory-undone : told.NoMemory ≢ told.Done
memory-undone e = cc

-- a scan has ended where its listing was not done
pub scan-ended : (before now : Sight) (given : Told) (ended : Outcome) → HasJustBegun before → before.unit.work ≡ work.Scan → Went before now → Turns before.turns now.turns cmd.Sets given → (given ≡ told.Failed → Rose before.faults now.faults) → ((base : Option (List Entry)) → IsRecordOf base before.history before.turns → IsRecordAfter base now.history before.turns now.turns cmd.Sets given) → given ≢ told.Done → ended ≡ ended_as (length now.turns) given → HasEnded before now ended
scan-ended before now given ended begun is went turns rose records undone ended_is =
    ended-undone before now cmd.Sets given ended (begun-at-work before begun) went turns rose records undone (λ failed. scan-ends before.unit.work is) ended_is

-- what is given of the same unit of the same jobs
pub gives-same : (jobs jobs' : Jobs) (unit unit' : Unit) (turns : Transcript) (ended : Outcome) (units : List Unit) → jobs' ≡ jobs → unit' ≡ unit → Gives jobs' unit' turns ended units → Gives jobs unit turns ended units
gives-same jobs jobs' unit unit' turns ended units same_jobs same_unit gives =
    let by_jobs : Jobs → Type 0 = λ j. Gives j unit' turns ended units in
    let by_unit : Unit → Type 0 = λ u. Gives jobs u turns ended units in
    subst by_unit same_unit (subst by_jobs same_jobs gives)

no-fault : false ≡ true → ⊥
no-fault e = cc

-- a scan has ended with the outcome of its listing
pub scanned-ended : (now : Sight) (ended : Outcome) → ResultOf now.jobs now.unit now.turns ended → is_child_fault ended ≡ false → is_out_of_memory ended ≡ false → HasEnded now now ended
scanned-ended now ended result sound memory = record {
  went = went-nowhere now;
  result = result;
  records = λ base records. as-is base ended memory records;
  rose = λ fault. absurd (no-fault (sym sound ∙ fault));
} where
  as-is : (base : Option (List Entry)) (outcome_is : Outcome) → is_out_of_memory outcome_is ≡ false → IsRecordOf base now.history now.turns → IsRecordOfUnit base now.history now.turns outcome_is
  as-is base outcome.NoMemory short records = cc
  as-is base other short records = records
