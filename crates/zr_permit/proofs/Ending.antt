use Rattle.std.proofs.Common.{◌≡◌, ◌≢◌, ◌∙◌, ◌⊎◌, ℕ, ◌+◌, ◌≤◌, true, false, List, [], ◌∷◌, ◌++◌, Option, Some, inl, inr, ap, refl, sym, subst, length, length-append, append-nil, append_assoc, slice_get, arith}
use Rattle.std.specs.List.{All}
use Rattle.std.proofs.lemmas.List.Elements.{All-cons, All-head, All-nil, All-push, All-tail}
use Rattle.zr_base.specs.Count.{Rose}
use Rattle.zr_names.specs.declared.outcome.Outcome.{Outcome}
use Rattle.zr_names.specs.declared.outcome.Outcome.TheVariants as outcome
use Rattle.zr_names.specs.declared.unit.Work.{Work}
use Rattle.zr_command.specs.declared.command.Entry.{Entry}
use Rattle.zr_world.specs.declared.pools.Pools.{Pools}
use Rattle.zr_names.specs.declared.unit.Unit.{Unit}
use Rattle.zr_command.specs.declared.command.Answer.{Answer}
use Rattle.zr_command.specs.declared.command.Answer.TheVariants as answer
use Rattle.zr_command.specs.declared.command.Cmd.{Cmd}
use Rattle.zr_jobset.specs.Sets.{Jobs}
use Rattle.zr_permit.specs.declared.told.Told.{Told}
use Rattle.zr_permit.specs.declared.told.Told.TheVariants as told
use Rattle.zr_permit.specs.Result.{capped, ended_as, is_child_fault, ResultOf, WantsMemory}
use Rattle.zr_permit.specs.Sight.{ActedBy, Follows, HasEnded, HasJustBegun, IsAtWork, Sight, Went}
use Rattle.zr_permit.specs.Transcript.{GoesOn, Transcript, Turn}
use Rattle.zr_permit.specs.Turned.{HasTurned, IsRecordOf, IsRecordAfter, IsRecordOfUnit, told_of, Turns}

-- the last of some turns
last-turn : (turns : Transcript) (turn : Turn) → slice_get (turns ++ turn ∷ []) (length turns) ≡ Some turn
last-turn [] turn = refl
last-turn (first ∷ turns) turn = last-turn turns turn

length-more : (turns : Transcript) (turn : Turn) → length (turns ++ turn ∷ []) ≡ length turns + 1
length-more turns turn = omega (arith, length-append turns (turn ∷ []))

failed-is : (got : Answer) → told.Failed ≡ told_of got → got ≡ answer.Failed
failed-is (answer.Done reply) e = cc
failed-is answer.Failed e = refl
failed-is (answer.Garbled line) e = cc
failed-is answer.NoMemory e = cc

garbled-is : (line : ℕ) (got : Answer) → told.Garbled line ≡ told_of got → got ≡ answer.Garbled line
garbled-is line (answer.Done reply) e = cc
garbled-is line answer.Failed e = cc
garbled-is line (answer.Garbled other) e = cc
garbled-is line answer.NoMemory e = cc

-- the command that was given last, where its answer is known
at-last : (before after : Transcript) (command : Cmd) (got given : Answer) → after ≡ before ++ (command, got) ∷ [] → got ≡ given → slice_get after (length before) ≡ Some (command, given)
at-last before after command got given turns same =
    ap (λ ts. slice_get ts (length before)) turns ∙ last-turn before (command, got) ∙ ap (λ a. Some (command, a)) same

number-is : (before after : Transcript) (turn : Turn) → after ≡ before ++ turn ∷ [] → capped (length after) ≡ capped (length before + 1)
number-is before after turn turns = ap (λ ts. capped (length ts)) turns ∙ ap capped (length-more before turn)

All-either : (P Q : Turn → Type 0) (turns : Transcript) → All P turns → All (λ (turn : Turn). P turn ⊎ Q turn) turns
All-either P Q [] each = All-nil (λ (turn : Turn). P turn ⊎ Q turn)
All-either P Q (turn ∷ turns) each =
    All-cons (λ (t : Turn). P t ⊎ Q t) turn turns (inl (All-head P turn turns each)) (All-either P Q turns (All-tail P turn turns each))

abbrev Goes : Work → Turn → Type 0
Goes unit_work turn = GoesOn unit_work turn.0 turn.1

abbrev Short : Turn → Type 0
Short turn = turn.1 ≡ answer.NoMemory

abbrev Either : Work → Turn → Type 0
Either unit_work turn = GoesOn unit_work turn.0 turn.1 ⊎ (turn.1 ≡ answer.NoMemory)

-- want of memory is the result of turns after which the unit goes on
pub wants-memory : (unit_work : Work) (turns : Transcript) → All (λ turn. GoesOn unit_work turn.0 turn.1) turns → WantsMemory unit_work turns
wants-memory unit_work turns goes = All-either (Goes unit_work) Short turns goes

-- and of a command that was answered by it
wants-more : (unit_work : Work) (before after : Transcript) (command : Cmd) → All (λ turn. GoesOn unit_work turn.0 turn.1) before → after ≡ before ++ (command, answer.NoMemory) ∷ [] → WantsMemory unit_work after
wants-more unit_work before after command goes turns =
    let Wants : Transcript → Type 0 = λ ts. WantsMemory unit_work ts in
    subst Wants (sym turns) (All-push (Either unit_work) before (command, answer.NoMemory) (wants-memory unit_work before goes) (inr refl))

wants-run : (unit_work : Work) (before after : Transcript) (command : Cmd) → All (λ turn. GoesOn unit_work turn.0 turn.1) before → Turns before after command told.NoMemory → WantsMemory unit_work after
wants-run unit_work before after command goes (inl same) =
    let Wants : Transcript → Type 0 = λ ts. WantsMemory unit_work ts in
    subst Wants (sym same) (wants-memory unit_work before goes)
wants-run unit_work before after command goes (inr turns) = wants-more unit_work before after command goes turns

-- a command that was not done ends its unit with a result
pub ended-result : (jobs : Jobs) (unit : Unit) (before after : Transcript) (command : Cmd) (given : Told) → All (λ turn. GoesOn unit.work turn.0 turn.1) before → Turns before after command given → given ≢ told.Done → (given ≡ told.Failed → GoesOn unit.work command answer.Failed → ⊥) → ResultOf jobs unit after (ended_as (length after) given)
ended-result jobs unit before after command told.Done goes turns undone ends = absurd (undone refl)
ended-result jobs unit before after command told.NoMemory goes turns undone ends = wants-run unit.work before after command goes turns
ended-result jobs unit before after command told.Failed goes turns undone ends = record {
  place = length before;
  command = command;
  failed = at-last before after command turns.got answer.Failed turns.turns_are (failed-is turns.got turns.told_is);
  ends = ends refl;
  number_is = number-is before after (command, turns.got) turns.turns_are;
}
ended-result jobs unit before after command (told.Garbled line) goes turns undone ends = record {
  place = length before;
  command = command;
  garbled = at-last before after command turns.got (answer.Garbled line) turns.turns_are (garbled-is line turns.got turns.told_is);
  number_is = number-is before after (command, turns.got) turns.turns_are;
}

-- nothing was done
pub went-nowhere : (now : Sight) → Went now now
went-nowhere now = record {
  same_jobs = refl;
  same_unit = refl;
  more = [];
  turns_are = sym (append-nil now.turns);
  acted = refl;
  later = omega arith;
}

-- a unit at work to which memory is refused between its commands has ended
pub ended_memory : (now : Sight) → IsAtWork now → HasEnded now now outcome.NoMemory
ended_memory now at_work = record {
  went = went-nowhere now;
  result = wants-memory now.unit.work now.turns at_work.goes_on;
  records = λ base records. inl records;
  rose = λ fault. cc;
}

acted-on : (one other : Transcript) (first before now : Option Pools) → ActedBy one first before → ActedBy other before now → ActedBy (one ++ other) first now
acted-on [] other first before now same acted =
    let From : Option Pools → Type 0 = λ pools. ActedBy other pools now in
    subst From same acted
acted-on (turn ∷ one) other first before now (mid, acts, rest) acted = (mid, acts, acted-on one other mid before now rest acted)

-- what went on goes on
pub went-on : (first before now : Sight) → Went first before → Went before now → Went first now
went-on first before now one other = record {
  same_jobs = other.same_jobs ∙ one.same_jobs;
  same_unit = other.same_unit ∙ one.same_unit;
  more = one.more ++ other.more;
  turns_are = other.turns_are ∙ ap (λ ts. ts ++ other.more) one.turns_are ∙ append_assoc first.turns one.more other.more;
  acted = acted-on one.more other.more first.pools before.pools now.pools one.acted other.acted;
  later = omega (arith, one.later, other.later);
}

rose-later : (first before now : ℕ) → first ≤ before → Rose before now → Rose first now
rose-later first before now later rose = omega (arith, later, rose)

-- what went on has ended
pub ended-on : (first before now : Sight) (ended : Outcome) → Went first before → Follows first before → HasEnded before now ended → HasEnded first now ended
ended-on first before now ended went follows has =
    let by_jobs : Jobs → Type 0 = λ jobs. ResultOf jobs before.unit now.turns ended in
    let by_unit : Unit → Type 0 = λ unit. ResultOf first.jobs unit now.turns ended in
    record {
      went = went-on first before now went has.went;
      result = subst by_unit went.same_unit (subst by_jobs went.same_jobs has.result);
      records = λ base records. has.records base (follows base records);
      rose = λ fault. rose-later first.faults before.faults now.faults went.later (has.rose fault);
    }

-- the record of a command that was not done, once the unit has ended by it
pub records-end : (base now : Option (List Entry)) (before after : Transcript) (command : Cmd) (given : Told) (number : ℕ) → given ≢ told.Done → IsRecordAfter base now before after command given → IsRecordOfUnit base now after (ended_as number given)
records-end base now before after command told.Done number undone records = absurd (undone refl)
records-end base now before after command told.Failed number undone records = records
records-end base now before after command (told.Garbled line) number undone records = records
records-end base now before after command told.NoMemory number undone (inl same) =
    let On : Transcript → Type 0 = λ ts. IsRecordOf base now ts in
    inl (subst On (sym same.0) same.1)
records-end base now before after command told.NoMemory number undone (inr cut) =
    inr (record { before = before; command = command; turns_are = cut.0; cut = cut.1 })

fault-is : (given : Told) (number : ℕ) → is_child_fault (ended_as number given) ≡ true → given ≡ told.Failed
fault-is told.Done number e = cc
fault-is told.Failed number e = refl
fault-is (told.Garbled line) number e = cc
fault-is told.NoMemory number e = cc

-- a command that was not done ends its unit
pub ended-undone : (before now : Sight) (command : Cmd) (given : Told) (ended : Outcome) → IsAtWork before → Went before now → Turns before.turns now.turns command given → (given ≡ told.Failed → Rose before.faults now.faults) → ((base : Option (List Entry)) → IsRecordOf base before.history before.turns → IsRecordAfter base now.history before.turns now.turns command given) → given ≢ told.Done → (given ≡ told.Failed → GoesOn before.unit.work command answer.Failed → ⊥) → ended ≡ ended_as (length now.turns) given → HasEnded before now ended
ended-undone before now command given ended at_work went turns rose records undone ends is =
    let Ends : Outcome → Type 0 = λ o. HasEnded before now o in
    subst Ends (sym is) (record {
      went = went;
      result = ended-result before.jobs before.unit before.turns now.turns command given at_work.goes_on turns undone ends;
      records = λ base is_record. records-end base now.history before.turns now.turns command given (length now.turns) undone (records base is_record);
      rose = λ fault. rose (fault-is given (length now.turns) fault);
    })

-- a unit that has just begun is at work
pub begun-at-work : (now : Sight) → HasJustBegun now → IsAtWork now
begun-at-work now begun =
    let Each : Transcript → Type 0 = λ ts. All (Goes now.unit.work) ts in
    record { with_memory = begun.with_memory; goes_on = subst Each (sym begun.no_turns) (All-nil (Goes now.unit.work)) }

done-goes : (unit_work : Work) (command : Cmd) (got : Answer) → told.Done ≡ told_of got → GoesOn unit_work command got
done-goes unit_work command (answer.Done reply) e = tt
done-goes unit_work command answer.Failed e = cc
done-goes unit_work command (answer.Garbled line) e = cc
done-goes unit_work command answer.NoMemory e = cc

-- after a command that was done the unit is at work
pub at-work-more : (before now : Sight) (command : Cmd) → IsAtWork before → Went before now → HasTurned before.turns now.turns command told.Done → now.out_of_memory ≡ false → IsAtWork now
at-work-more before now command at_work went turned memory =
    let turn : Turn = (command, turned.got) in
    let of_unit : Unit → Type 0 = λ u. All (Goes u.work) now.turns in
    let of_turns : Transcript → Type 0 = λ ts. All (Goes before.unit.work) ts in
    let goes = All-push (Goes before.unit.work) before.turns turn at_work.goes_on (done-goes before.unit.work command turned.got turned.told_is) in
    record { with_memory = memory; goes_on = subst of_unit (sym went.same_unit) (subst of_turns (sym turned.turns_are) goes) }

-- a turn of a unit that has just begun is its first
pub turned-first : (before : Sight) (turns : Transcript) (command : Cmd) (given : Told) → HasJustBegun before → HasTurned before.turns turns command given → HasTurned [] turns command given
turned-first before turns command given begun turned =
    let First : Transcript → Type 0 = λ ts. HasTurned ts turns command given in
    subst First begun.no_turns turned
