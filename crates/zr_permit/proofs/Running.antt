use Rattle.std.proofs.Common.{◌≡◌, ◌∙◌, ◌⊎◌, ℕ, true, false, List, [], ◌∷◌, ◌++◌, Option, Some, None, ap, append-nil, append_assoc, inl, inr, refl, subst, sym}
use Rattle.std.specs.List.{All}
use Rattle.std.proofs.lemmas.List.Elements.{All-cons, All-head, All-nil, All-tail}
use Rattle.zr_names.specs.declared.outcome.Outcome.{Outcome}
use Rattle.zr_names.specs.declared.outcome.Outcome.TheVariants as outcome
use Rattle.zr_names.specs.declared.unit.Unit.{Unit}
use Rattle.zr_names.specs.declared.unit.Work.{Work}
use Rattle.zr_command.specs.declared.command.Answer.TheVariants as answer
use Rattle.zr_command.specs.declared.command.Entry.{Entry}
use Rattle.zr_command.specs.declared.command.Entry.TheVariants.{Begin}
use Rattle.zr_world.specs.Answering.{appended}
use Rattle.zr_jobset.specs.Sets.{Jobs}
use Rattle.zr_permit.specs.Result.{is_out_of_memory, ResultOf, WantsMemory}
use Rattle.zr_permit.specs.Runs.{GoesOnToTheLast, HasRun, Ran}
use Rattle.zr_permit.specs.Sight.{HasEnded, HasJustBegun, Sight}
use Rattle.zr_permit.specs.Transcript.{GoesOn, Legal, LegalAfter, Transcript, Turn}
use Rattle.zr_permit.specs.Turned.{calls, IsRecordOf, IsRecordOfUnit}
use Rattle.zr_permit.proofs.Legality.{legal-answered, legal-front}

-- what a record is after a begin and some calls
after-begin : (before now : Option (List Entry)) (unit : Unit) (run : ℕ) (turns : Transcript) → IsRecordOf (appended before (Begin unit run ∷ [])) now turns → now ≡ appended before (Begin unit run ∷ calls turns)
after-begin None now unit run turns records = records
after-begin (Some entries) now unit run turns records =
    records ∙ ap Some (append_assoc entries (Begin unit run ∷ []) (calls turns))

-- a record with no calls yet
records-none : (base : Option (List Entry)) → IsRecordOf base base []
records-none None = refl
records-none (Some entries) = ap Some (sym (append-nil entries))

abbrev Wants : Work → Turn → Type 0
Wants unit_work turn = GoesOn unit_work turn.0 turn.1 ⊎ (turn.1 ≡ answer.NoMemory)

abbrev Goes : Work → Turn → Type 0
Goes unit_work turn = GoesOn unit_work turn.0 turn.1

-- nothing is allowed after a turn that does not let the unit go on, so it is the last
to-the-last : (jobs : Jobs) (unit : Unit) (past turns : Transcript) → LegalAfter jobs unit past turns → All (Goes unit.work) past → WantsMemory unit.work turns → GoesOnToTheLast unit.work turns
to-the-last jobs unit past [] legal went wants = record { front = []; goes_on = All-nil (Goes unit.work); parts = inl refl }
to-the-last jobs unit past (turn ∷ []) legal went wants =
    record { front = []; goes_on = All-nil (Goes unit.work); parts = inr (turn, refl) }
to-the-last jobs unit past (turn ∷ (next ∷ turns)) legal went wants =
    let goes = All-last past turn legal.1.0.goes_on in
    let rest = to-the-last jobs unit (past ++ turn ∷ []) (next ∷ turns) legal.1 legal.1.0.goes_on (All-tail (Wants unit.work) turn (next ∷ turns) wants) in
    record {
      front = turn ∷ rest.front;
      goes_on = All-cons (Goes unit.work) turn rest.front goes rest.goes_on;
      parts = elim rest.parts [
        | inl same ↦ inl (ap (λ (ts : Transcript). turn ∷ ts) same)
        | inr last ↦ inr (last.0, ap (λ (ts : Transcript). turn ∷ ts) last.1)
      ];
    }
  where
    All-last : (past : Transcript) (turn : Turn) → All (Goes unit.work) (past ++ turn ∷ []) → Goes unit.work turn
    All-last [] turn each = All-head (Goes unit.work) turn [] each
    All-last (first ∷ past) turn each = All-last past turn (All-tail (Goes unit.work) first (past ++ turn ∷ []) each)

-- a run, and what else is known of its transcript unless memory was refused
abbrev pub RunWith : Jobs → Unit → ℕ → Option (List Entry) → Option (List Entry) → Outcome → (Transcript → Type 0) → Type 0
RunWith jobs unit run before now ended Known =
    (ran : HasRun jobs unit run before now ended) × (is_out_of_memory ended ≡ false → Known ran.turns)

-- where memory was refused, the record may have the last call with another answer, or lack it
short-run : (jobs : Jobs) (unit : Unit) (run : ℕ) (before now : Option (List Entry)) (turns : Transcript) → Legal jobs unit turns → WantsMemory unit.work turns → IsRecordOfUnit (appended before (Begin unit run ∷ [])) now turns outcome.NoMemory → HasRun jobs unit run before now outcome.NoMemory
short-run jobs unit run before now turns legal wants (inl records) = record {
  turns = turns;
  legal = legal;
  result = to-the-last jobs unit [] turns legal (All-nil (Goes unit.work)) wants;
  recorded = after-begin before now unit run turns records;
}
short-run jobs unit run before now turns legal wants (inr short) =
    let legal_short : Legal jobs unit (short.before ++ (short.command, answer.NoMemory) ∷ []) = subst (λ (ts : Transcript). Legal jobs unit ts) short.turns_are legal in
    let goes = (legal-front jobs unit short.before short.command answer.NoMemory legal_short).1 in
    elim short.cut [
      | inl records ↦
          record {
            turns = short.before;
            legal = (legal-front jobs unit short.before short.command answer.NoMemory legal_short).0;
            result = record { front = short.before; goes_on = goes; parts = inl refl };
            recorded = after-begin before now unit run short.before records;
          }
      | inr cut ↦
          record {
            turns = short.before ++ (short.command, cut.0) ∷ [];
            legal = legal-answered jobs unit short.before short.command answer.NoMemory cut.0 legal_short;
            result = record { front = short.before; goes_on = goes; parts = inr ((short.command, cut.0), refl) };
            recorded = after-begin before now unit run (short.before ++ (short.command, cut.0) ∷ []) cut.1;
          }
    ]

not-short : true ≡ false → ⊥
not-short e = cc

has-run : (jobs : Jobs) (unit : Unit) (run : ℕ) (before now : Option (List Entry)) (turns : Transcript) (ended : Outcome) (Known : Transcript → Type 0) → Legal jobs unit turns → ResultOf jobs unit turns ended → IsRecordOfUnit (appended before (Begin unit run ∷ [])) now turns ended → Known turns → RunWith jobs unit run before now ended Known
has-run jobs unit run before now turns outcome.NoMemory Known legal result records known =
    (short-run jobs unit run before now turns legal result records, λ ample. absurd (not-short ample))
has-run jobs unit run before now turns other Known legal result records known = (
  record {
    turns = turns;
    legal = legal;
    result = result;
    recorded = after-begin before now unit run turns records;
  },
  λ ample. known,
)

-- a unit that began and ended has run, and what is known of its transcript
pub ran-with : (jobs : Jobs) (unit : Unit) (run : ℕ) (before : Option (List Entry)) (begun now : Sight) (ended : Outcome) (Known : Transcript → Type 0) → begun.jobs ≡ jobs → begun.unit ≡ unit → begun.history ≡ appended before (Begin unit run ∷ []) → HasJustBegun begun → Legal now.jobs now.unit now.turns → HasEnded begun now ended → Known now.turns → RunWith jobs unit run before now.history ended Known
ran-with jobs unit run before begun now ended Known same_jobs same_unit begins fresh legal has known =
    let legal_jobs : Jobs → Type 0 = λ j. Legal j now.unit now.turns in
    let legal_unit : Unit → Type 0 = λ u. Legal jobs u now.turns in
    let result_jobs : Jobs → Type 0 = λ j. ResultOf j begun.unit now.turns ended in
    let result_unit : Unit → Type 0 = λ u. ResultOf jobs u now.turns ended in
    let from : Option (List Entry) → Type 0 = λ base. IsRecordOfUnit base now.history now.turns ended in
    let empty : Transcript → Type 0 = λ ts. IsRecordOf begun.history begun.history ts in
    has-run jobs unit run before now.history now.turns ended Known
    (subst legal_unit (has.went.same_unit ∙ same_unit) (subst legal_jobs (has.went.same_jobs ∙ same_jobs) legal))
    (subst result_unit same_unit (subst result_jobs same_jobs has.result))
    (subst from begins (has.records begun.history (subst empty (sym fresh.no_turns) (records-none begun.history))))
    known

-- a unit that began and ended has run
pub ran-begun : (jobs : Jobs) (unit : Unit) (run : ℕ) (before : Option (List Entry)) (begun now : Sight) (ended : Outcome) → begun.jobs ≡ jobs → begun.unit ≡ unit → begun.history ≡ appended before (Begin unit run ∷ []) → HasJustBegun begun → Legal now.jobs now.unit now.turns → HasEnded begun now ended → Ran jobs unit run before now.history ended
ran-begun jobs unit run before begun now ended same_jobs same_unit begins fresh legal has =
    inl (ran-with jobs unit run before begun now ended (λ ts. Legal now.jobs now.unit now.turns) same_jobs same_unit begins fresh legal has legal).0
