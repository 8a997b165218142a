use Rattle.std.proofs.Common.{◌≢◌, ◌∙◌, ℕ, ap, refl}
use Rattle.zr_names.specs.declared.unit.Unit.{Unit}
use Rattle.zr_command.specs.declared.command.Cmd.TheVariants as cmd
use Rattle.zr_permit.specs.declared.told.Told.TheVariants as told
use Rattle.zr_permit.proofs.Ending.{at-work-more, begun-at-work, ended-on, turned-first, went-on}
use Rattle.zr_prune.proofs.Alone.{prunes-alone}
use Rattle.zr_prune.proofs.Steps.{destroys-in-groups, listing-ended}
use Rattle.zr_prune.proofs.prune.Goals as goal

failed-undone : told.Failed ≢ told.Done
failed-undone e = cc

garbled-undone : (line : ℕ) → told.Garbled line ≢ told.Done
garbled-undone line e = cc

memory-undone : told.NoMemory ≢ told.Done
memory-undone e = cc

pub out_of_memory-requires : goal.out_of_memory-requires
out_of_memory-requires g c = record { at_work = begun-at-work _ c.requires.begun }

pub prune_listed-requires-clause-at_work : goal.prune_listed-requires-clause-at_work
prune_listed-requires-clause-at_work g c =
    at-work-more _ _ (cmd.Versions c.in-Ok.path) (begun-at-work _ c.requires.begun) c.list.ensures.went c.in-Done.ensures.turns (c.in-Done.ensures.memory refl)

pub prune_listed-requires-clause-own : goal.prune_listed-requires-clause-own
prune_listed-requires-clause-own g c = ap (λ (u : Unit). u.work) c.list.ensures.went.same_unit ∙ c.in-Ok.ensures

pub prune_listed-requires-clause-listed : goal.prune_listed-requires-clause-listed
prune_listed-requires-clause-listed g c = turned-first _ _ _ _ c.requires.begun c.in-Done.ensures.turns

pub returns-in-Done-clause-ended : goal.returns-in-Done-clause-ended
returns-in-Done-clause-ended g c = ended-on _ _ _ _ c.list.ensures.went c.in-Done.ensures.records c.prune_listed.ensures.ended

pub returns-in-Failed-clause-ended : goal.returns-in-Failed-clause-ended
returns-in-Failed-clause-ended g c =
    let told = c.in-Failed.ensures in
    listing-ended _ _ c.in-Ok.path _ _ c.requires.begun c.in-Ok.ensures c.list.ensures.went told.turns told.rose told.records failed-undone c.ended.ensures

pub returns-in-Garbled-clause-ended : goal.returns-in-Garbled-clause-ended
returns-in-Garbled-clause-ended g c =
    let told = c.in-Garbled.ensures in
    listing-ended _ _ c.in-Ok.path _ _ c.requires.begun c.in-Ok.ensures c.list.ensures.went told.turns told.rose told.records (garbled-undone c.in-Garbled.line) c.ended-in-Garbled.ensures

pub returns-clause-ended : goal.returns-clause-ended
returns-clause-ended g c =
    let told = c.in-NoMemory.ensures in
    listing-ended _ _ c.in-Ok.path _ _ c.requires.begun c.in-Ok.ensures c.list.ensures.went told.turns told.rose told.records memory-undone c.ended-in-NoMemory.ensures

pub returns-in-Done-clause-alone : goal.returns-in-Done-clause-alone
returns-in-Done-clause-alone g c =
    prunes-alone _ _ c.prune_listed.result c.requires.begun (went-on _ _ _ c.list.ensures.went c.prune_listed.ensures.ended.went) c.prune_listed.ensures.pruned

pub returns-in-Done-clause-groups : goal.returns-in-Done-clause-groups
returns-in-Done-clause-groups g c = destroys-in-groups _ c.prune_listed.result c.prune_listed.ensures.pruned
