use Rattle.std.specs.Prelude.{◌≡◌, pos, Option, Some, option_map}
use Rattle.std.specs.Process.{exit_code}
use Rattle.std.specs.declared.process.status.ExitStatus.{ExitStatus}

-- a child that was waited for ended by itself, with status 0
abbrev pub EndedWell : Option ExitStatus → Type 0
EndedWell status = option_map exit_code status ≡ Some (Some (pos 0))
