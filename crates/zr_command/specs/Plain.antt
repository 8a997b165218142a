use Rattle.std.specs.Prelude.{ℕ, List, Option, Some, None, codes}
use Rattle.zr_names.specs.declared.unit.Guid.{Guid}
use Rattle.zr_command.specs.declared.command.Base.{Base}
use Rattle.zr_command.specs.declared.command.Base.TheVariants as base
use Rattle.zr_command.specs.declared.command.Cmd.{Cmd}
use Rattle.zr_command.specs.declared.command.Cmd.TheVariants as cmd
use Rattle.zr_command.specs.declared.command.Transfer.{Transfer}

-- stands where no guid is named
abbrev pub no_guid : Guid
no_guid = record { 0 = 0 }

-- stands where no path and no snapshot is named
abbrev pub no_name : List ℕ
no_name = codes "-"

-- a resume with this token as its words tell it: they name neither the source nor the snapshot
abbrev pub resumed : Transfer → List ℕ → Transfer
resumed transfer token =
    record transfer { source = no_name; to = no_name; guid = no_guid; base = base.Resume token None }

-- a transfer of this base as its words tell it: they name no guids
abbrev pub plain_from : Transfer → Base → Transfer
plain_from transfer base.Full = record transfer { guid = no_guid; base = base.Full }
plain_from transfer (base.From mark guid) = record transfer { guid = no_guid; base = base.From mark no_guid }
plain_from transfer (base.Resume token from) = resumed transfer token

-- a transfer as its words tell it
abbrev pub plain_transfer : Transfer → Transfer
plain_transfer transfer = plain_from transfer transfer.base

-- a command as its words tell it
abbrev pub plain : Cmd → Cmd
plain (cmd.Transfer transfer) = cmd.Transfer (plain_transfer transfer)
plain command = command

abbrev pub base_guid : Base → Option Guid
base_guid base.Full = None
base_guid (base.From mark guid) = Some guid
base_guid (base.Resume token from) = from
