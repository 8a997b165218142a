use Rattle.std.proofs.Common.{◌≢◌, ◌∙◌, [], ℕ, ap, refl, subst}
use Rattle.zr_names.specs.declared.unit.Unit.{Unit}
use Rattle.zr_command.specs.declared.command.Cmd.TheVariants as cmd
use Rattle.zr_permit.specs.declared.told.Told.TheVariants as told
use Rattle.zr_permit.specs.Transcript.{Transcript}
use Rattle.zr_permit.specs.Turned.{HasTurned}
use Rattle.zr_permit.proofs.Ending.{at-work-more, begun-at-work, ended-on, turned-first}
use Rattle.zr_snap.proofs.Ends.{failed-undone, garbled-undone, gives-same, scan-ended, memory-undone}
use Rattle.zr_snap.proofs.scan.Goals as goal

pub scan_done-requires-clause-at_work : goal.scan_done-requires-clause-at_work
scan_done-requires-clause-at_work g c =
    at-work-more _ _ cmd.Sets (begun-at-work _ c.requires.begun) c.list.ensures.went c.in-Done.ensures.turns c.in-Done.ensures.memory

pub scan_done-requires-clause-work : goal.scan_done-requires-clause-work
scan_done-requires-clause-work g c = ap (λ (u : Unit). u.work) c.list.ensures.went.same_unit ∙ c.requires.kind

pub scan_done-requires-clause-listed : goal.scan_done-requires-clause-listed
scan_done-requires-clause-listed g c = turned-first _ _ _ _ c.requires.begun c.in-Done.ensures.turns

pub returns-in-Done-clause-ended : goal.returns-in-Done-clause-ended
returns-in-Done-clause-ended g c = ended-on _ _ _ _ c.list.ensures.went c.in-Done.ensures.records c.scan_done.ensures.ended

pub returns-in-Done-clause-units : goal.returns-in-Done-clause-units
returns-in-Done-clause-units g c = gives-same _ _ _ _ _ _ _ c.list.ensures.went.same_jobs c.list.ensures.went.same_unit c.scan_done.ensures.units

pub returns-in-Failed-clause-ended : goal.returns-in-Failed-clause-ended
returns-in-Failed-clause-ended g c =
    let told = c.in-Failed.ensures in
    scan-ended _ _ _ _ c.requires.begun c.requires.kind c.list.ensures.went told.turns told.rose told.records failed-undone c.ended.ensures

pub returns-in-Garbled-clause-ended : goal.returns-in-Garbled-clause-ended
returns-in-Garbled-clause-ended g c =
    let told = c.in-Garbled.ensures in
    scan-ended _ _ _ _ c.requires.begun c.requires.kind c.list.ensures.went told.turns told.rose told.records (garbled-undone c.in-Garbled.line) c.ended-in-Garbled.ensures

pub returns-in-NoMemory-clause-ended : goal.returns-in-NoMemory-clause-ended
returns-in-NoMemory-clause-ended g c =
    let told = c.in-NoMemory.ensures in
    scan-ended _ _ _ _ c.requires.begun c.requires.kind c.list.ensures.went told.turns told.rose told.records memory-undone c.ended-in-NoMemory.ensures
