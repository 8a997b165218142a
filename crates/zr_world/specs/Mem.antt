use Rattle.std.specs.Prelude.{◌≡◌, List, [], ◌∷◌, ◌++◌, ◌⊎◌}
use Rattle.zr_command.specs.declared.command.Answer.{Answer}
use Rattle.zr_command.specs.declared.command.Answer.TheVariants.{NoMemory}
use Rattle.zr_command.specs.declared.command.Cmd.{Cmd}
use Rattle.zr_command.specs.declared.command.Entry.{Entry}
use Rattle.zr_command.specs.declared.command.Entry.TheVariants.{Call}

-- the call was put into the record and its answer is passed on, or the record is as before and want of
-- memory is answered
abbrev pub Recorded : List Entry → List Entry → Cmd → Answer → Answer → Type 0
Recorded before now command answer given =
    ((now ≡ before ++ Call command answer ∷ []) × (given ≡ answer)) ⊎ ((now ≡ before) × (given ≡ NoMemory))
