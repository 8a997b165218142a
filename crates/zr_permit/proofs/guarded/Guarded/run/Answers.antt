use Rattle.std.proofs.Common.{◌∙◌, ◌++◌, ◌∷◌, [], ap, append-nil, arith, inl, refl, subst, sym}
use Rattle.zr_permit.specs.declared.told.Told.{Told}
use Rattle.zr_permit.specs.Transcript.{Transcript}
use Rattle.zr_permit.specs.Turned.{IsRecordAfter, told_of}
use Rattle.zr_permit.proofs.Recording.{records-run}
use Rattle.zr_permit.proofs.guarded.Guarded.run.Goals as goal

pub returns-then-is_err-clause-went : goal.returns-then-is_err-clause-went
returns-then-is_err-clause-went g c = record {
  same_jobs = c.make_room.ensures.jobs;
  same_unit = c.make_room.ensures.unit;
  more = [];
  turns_are = c.make_room.ensures.turns ∙ sym (append-nil c.args.self.now.log.turns);
  acted = refl;
  later = omega arith;
}

pub returns-then-is_err-clause-records : goal.returns-then-is_err-clause-records
returns-then-is_err-clause-records g c = λ base records. inl (c.make_room.ensures.turns, records)

pub returns-clause-went : goal.returns-clause-went
returns-clause-went g c =
    let got = c.run-answer.result in
    record {
      same_jobs = c.note.ensures.jobs ∙ c.make_room.ensures.jobs;
      same_unit = c.note.ensures.unit ∙ c.make_room.ensures.unit;
      more = (c.args.cmd, got) ∷ [];
      turns_are = c.note.ensures.turns ∙ ap (λ ts. ts ++ (c.args.cmd, got) ∷ []) c.make_room.ensures.turns;
      acted = (g.Z.Zfs.pools c.run-answer.new.self, c.run-answer.ensures.pools, refl);
      later = c.run-answer.ensures.cause.later;
    }

pub returns-clause-records : goal.returns-clause-records
returns-clause-records g c = λ base records.
    let log = c.args.self.now.log in
    let now = g.Z.Zfs.history c.run-answer.new.self in
    let got = c.run-answer.result in
    let run = records-run base _ now log.turns c.args.cmd got c.run-answer.ensures.told records in
    let turns = c.note.ensures.turns ∙ ap (λ ts. ts ++ (c.args.cmd, got) ∷ []) c.make_room.ensures.turns in
    let at_turns : Transcript → Type 0 = λ ts. IsRecordAfter base now log.turns ts c.args.cmd (told_of got) in
    let at_told : Told → Type 0 = λ told. IsRecordAfter base now log.turns c.note.new.self.turns c.args.cmd told in
    subst at_told (sym c.of-told.ensures) (subst at_turns (sym turns) run)
