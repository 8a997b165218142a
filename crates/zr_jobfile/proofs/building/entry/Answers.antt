use Rattle.std.proofs.Common.{true, Err, List, rules, subst, ◌≢◌, ℕ}
use Rattle.zr_names.specs.declared.reading.NameFault.TheVariants.{NoMemory}
use Rattle.zr_filter.specs.Patterns.{ReadsPattern}
use Rattle.zr_jobfile.proofs.Patterns.{no-entry}
use Rattle.zr_jobfile.proofs.building.entry.Goals as goal

pub returns-in-Err : goal.returns-in-Err
returns-in-Err c =
    let other : c.in-Err.field-0 ≢ NoMemory = search rules in
    let Refused : List ℕ → Type 0 = λ text. ReadsPattern text true (Err c.in-Err.field-0) in
    no-entry c.args.text.now c.in-Err.field-0 other (subst Refused c.as_bytes.ensures.value c.in-Err.ensures)
