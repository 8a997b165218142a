use Rattle.std.specs.Bool.{if◌then◌else◌}
use Rattle.std.specs.List.{count_by}
use Rattle.std.proofs.lemmas.Bool.Decides.{Decides-eqb}
use Rattle.std.proofs.Common.{◌&&◌, ◌≡◌, ◌≢◌, ◌∙◌, ◌<◌, ◌==◌, arith, Bool, true, zero, suc, List, [], ◌∷◌, ◌++◌, ℕ, false, Option, Result, Ok, Err, ap, length, refl, sym, subst}
use Rattle.zr_base.specs.Count.{Rose}
use Rattle.zr_names.specs.declared.outcome.Outcome.{Outcome}
use Rattle.zr_names.specs.declared.unit.Unit.{Unit}
use Rattle.zr_names.specs.declared.unit.Work.{Work}
use Rattle.zr_names.specs.declared.unit.Work.TheVariants as work
use Rattle.zr_command.specs.declared.command.Answer.{Answer}
use Rattle.zr_command.specs.declared.command.Answer.TheVariants.{Done}
use Rattle.zr_command.specs.declared.command.Answer.TheVariants as answer
use Rattle.zr_command.specs.declared.command.Cmd.{Cmd}
use Rattle.zr_command.specs.declared.command.Reply.{Reply}
use Rattle.zr_jobs.specs.declared.pair.Pair.{Pair}
use Rattle.zr_jobset.specs.Sets.{Jobs}
use Rattle.zr_command.specs.declared.command.Entry.{Entry}
use Rattle.zr_permit.specs.declared.told.Told.{Told}
use Rattle.zr_permit.specs.declared.told.Told.TheVariants as told
use Rattle.zr_jobset.specs.Units.{has_default_policy, pair_of}
use Rattle.zr_known.specs.Known.{known_of, nothing_known, told_by}
use Rattle.zr_names.specs.declared.outcome.Outcome.TheVariants as outcome
use Rattle.zr_known.specs.declared.straight.TheConstants.{NOT_STRAIGHT}
use Rattle.zr_known.specs.Straight.{has_listed, is_straight, IsFinished}
use Rattle.zr_permit.specs.Result.{capped, ended_as, HasReplicated, is_done_transfer}
use Rattle.zr_permit.specs.Sight.{HasEnded, HasJustBegun, Went}
use Rattle.zr_permit.specs.Transcript.{GoesOn, Turn}
use Rattle.zr_permit.specs.Turned.{HasTurned, IsRecordOf, IsRecordAfter, told_of, Turns}
use Rattle.zr_permit.proofs.Ending.{at-work-more, begun-at-work, ended-on, ended-undone, went-nowhere, went-on}
use Rattle.zr_known.proofs.Knowing.{known-more}
use Rattle.zr_replicate.specs.Listing.{OnlyLists}
use Rattle.zr_replicate.specs.Outcomes.{finished_with, IsPairOf}
use Rattle.zr_replicate.specs.Progress.{AtWork, by_default, GoesOnWith, HasEndedAs, is_ready, Learnt, Progress, Stage}

done-is : (got : Answer) → told.Done ≡ told_of got → (given : Reply) × (got ≡ Done given)
done-is (Done given) e = (given, refl)
done-is answer.Failed e = cc
done-is (answer.Garbled line) e = cc
done-is answer.NoMemory e = cc

-- after a command that was done the unit is at work, and knows what it told
pub knows-more : (pair : Pair) (before now : Progress) (command : Cmd) → AtWork pair before → Went before.unit now.unit → now.unit.out_of_memory ≡ false → HasTurned before.unit.turns now.unit.turns command told.Done → Learnt pair now.unit.turns before.known now.known → AtWork pair now
knows-more pair before now command at went memory turned learnt =
    let done = done-is turned.got turned.told_is in
    let given : Reply = done.0 in
    let turns : now.unit.turns ≡ before.unit.turns ++ (command, Done given) ∷ [] = turned.turns_are ∙ ap (λ (a : Answer). before.unit.turns ++ (command, a) ∷ []) done.1 in
    record {
      work_is = ap (λ (u : Unit). u.work) went.same_unit ∙ at.work_is;
      pair_is = ap (λ (j : Jobs). pair_of j now.unit.unit.job pair.source) went.same_jobs ∙ ap (λ (u : Unit). pair_of before.unit.jobs u.job pair.source) went.same_unit ∙ at.pair_is;
      at_work = at-work-more before.unit now.unit command at.at_work went turned memory;
      known_is =
          learnt before.unit.turns command given turns
          ∙ ap (told_by pair command (Done given)) at.known_is
          ∙ sym (known-more pair nothing_known before.unit.turns (command, Done given))
          ∙ ap (known_of pair) (sym turns);
    }

ends : (unit_work : Work) (path : List ℕ) (command : Cmd) → unit_work ≡ work.Replicate path → GoesOn unit_work command answer.Failed → ⊥
ends unit_work path command is goes = subst (λ (w : Work). GoesOn w command answer.Failed) is goes

-- a command that was not done ends the unit
pub ended-turn : (pair : Pair) (before now : Progress) (command : Cmd) (given : Told) (outcome : Outcome) → AtWork pair before → now.lent ≡ before.lent → Went before.unit now.unit → Turns before.unit.turns now.unit.turns command given → (given ≡ told.Failed → Rose before.unit.faults now.unit.faults) → ((base : Option (List Entry)) → IsRecordOf base before.unit.history before.unit.turns → IsRecordAfter base now.unit.history before.unit.turns now.unit.turns command given) → given ≢ told.Done → outcome ≡ ended_as (length now.unit.turns) given → HasEndedAs before now outcome
ended-turn pair before now command given outcome at same went turns rose records undone is = record {
  ended = ended-undone before.unit now.unit command given outcome at.at_work went turns rose records undone (λ failed. ends before.unit.unit.work pair.source command at.work_is) is;
  same_lent = same;
}

pub failed-undone : told.Failed ≢ told.Done
failed-undone e = cc

pub garbled-undone : (line : ℕ) → told.Garbled line ≢ told.Done
garbled-undone line e = cc

pub memory-undone : told.NoMemory ≢ told.Done
memory-undone e = cc

-- what goes on goes on
pub goes-on-with : (pair : Pair) (first before now : Progress) → GoesOnWith pair first before → GoesOnWith pair before now → GoesOnWith pair first now
goes-on-with pair first before now one other = record {
  went = went-on first.unit before.unit now.unit one.went other.went;
  at_work = other.at_work;
  follows = λ base records. other.follows base (one.follows base records);
  same_lent = other.same_lent ∙ one.same_lent;
}

-- and what has ended behind it has ended
pub ends-with : (pair : Pair) (first before now : Progress) (outcome : Outcome) → GoesOnWith pair first before → HasEndedAs before now outcome → HasEndedAs first now outcome
ends-with pair first before now outcome one other = record {
  ended = ended-on first.unit before.unit now.unit outcome one.went one.follows other.ended;
  same_lent = other.same_lent ∙ one.same_lent;
}

-- a stage behind another is a stage from the first on
pub stage-on : {T : Type 0} (pair : Pair) (first before now : Progress) (result : Result T Outcome) → GoesOnWith pair first before → Stage pair before now result → Stage pair first now result
stage-on pair first before now (Ok value) one other = goes-on-with pair first before now one other
stage-on pair first before now (Err outcome) one other = ends-with pair first before now outcome one other

-- a replication unit that has just begun is at work, and knows nothing
pub begins-at-work : (pair : Pair) (now : Progress) → HasJustBegun now.unit → IsPairOf now.unit.jobs now.unit.unit pair → now.known ≡ nothing_known → AtWork pair now
begins-at-work pair now begun of_pair nothing = record {
  work_is = of_pair.work_is;
  pair_is = of_pair.pair_is;
  at_work = begun-at-work now.unit begun;
  known_is = nothing ∙ sym (ap (known_of pair) begun.no_turns);
}

positive : (n : ℕ) → (n == 0) ≡ false → 0 < n
positive zero e = cc
positive (suc n) e = omega arith

no-fault : false ≡ true → ⊥
no-fault e = cc

-- a unit that has finished has ended with the number of its transfers
pub finished_ended : (pair : Pair) (now : Progress) (ended : Outcome) → AtWork pair now → IsFinished pair now.known → by_default now ≡ true → ended ≡ finished_with (capped (count_by (λ (turn : Turn). is_done_transfer turn.0 turn.1) now.unit.turns)) → HasEndedAs now now ended
finished_ended pair now ended at finished default is =
    record { ended = subst (λ (o : Outcome). HasEnded now.unit now.unit o) (sym is) (by (steps == 0) refl); same_lent = refl } where
      steps : ℕ
      steps = capped (count_by (λ (turn : Turn). is_done_transfer turn.0 turn.1) now.unit.turns)

      replicated : HasReplicated now.unit.jobs now.unit.unit now.unit.turns steps
      replicated = record {
        pair = pair;
        replicating = record { path = pair.source; work_is = at.work_is; pair_is = at.pair_is; goes_on = at.at_work.goes_on };
        by_default = default;
        finished = subst (IsFinished pair) at.known_is finished;
        steps_are = refl;
      }

      by : (b : Bool) → (steps == 0) ≡ b → HasEnded now.unit now.unit (if b then outcome.UpToDate else outcome.Replicated steps)
      by true none = record {
        went = went-nowhere now.unit;
        result = subst (λ (n : ℕ). HasReplicated now.unit.jobs now.unit.unit now.unit.turns n) ((Decides-eqb steps 0).0 none) replicated;
        records = λ base records. records;
        rose = λ fault. absurd (no-fault fault);
      }
      by false some = record {
        went = went-nowhere now.unit;
        result = (replicated, positive steps some);
        records = λ base records. records;
        rose = λ fault. absurd (no-fault fault);
      }

-- a unit that has listed all and done nothing else has ended in a conflict where it is not ready
pub conflict-ended : (pair : Pair) (before now : Progress) → GoesOnWith pair before now → OnlyLists now.unit.turns → has_listed pair now.known ≡ true → is_ready pair now ≡ false → HasEndedAs before now (outcome.Conflict NOT_STRAIGHT)
conflict-ended pair before now goes lists listed unready =
    let known_is = goes.at_work.known_is in
    ends-with pair before now now (outcome.Conflict NOT_STRAIGHT) goes (record {
      ended = record {
        went = went-nowhere now.unit;
        result = record {
          pair = pair;
          replicating = record { path = pair.source; work_is = goes.at_work.work_is; pair_is = goes.at_work.pair_is; goes_on = goes.at_work.at_work.goes_on };
          lists_alone = lists;
          listed = ap (has_listed pair) (sym known_is) ∙ listed;
          not_ready = ap (λ known. by_default now && is_straight pair known) (sym known_is) ∙ unready;
          number_is = refl;
        };
        records = λ base records. records;
        rose = λ fault. absurd (no-fault fault);
      };
      same_lent = refl;
    })

-- a unit that is ready replicates by default a pair that is straight
pub ready-parts : (pair : Pair) (now : Progress) → is_ready pair now ≡ true → (by_default now ≡ true) × (is_straight pair now.known ≡ true)
ready-parts pair now e = both (by_default now) (is_straight pair now.known) e where
  both : (a b : Bool) → (a && b) ≡ true → (a ≡ true) × (b ≡ true)
  both true true e = (refl, refl)
  both true false e = cc
  both false b e = cc

-- and still does so later
pub default-later : (pair : Pair) (before now : Progress) → GoesOnWith pair before now → by_default before ≡ true → by_default now ≡ true
default-later pair before now goes default =
    ap (λ (j : Jobs). has_default_policy j now.unit.unit.job) goes.went.same_jobs
    ∙ ap (λ (u : Unit). has_default_policy before.unit.jobs u.job) goes.went.same_unit
    ∙ default
