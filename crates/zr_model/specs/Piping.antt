use Rattle.std.specs.Prelude.{◌≡◌, Bool, true, false, Option, Some, None}
use Rattle.zr_cmd.specs.Words.{receive_of, send_of}
use Rattle.zr_cmd.specs.declared.argv.ArgvFault.{ArgvFault}
use Rattle.zr_cmd.specs.declared.argv.ArgvFault.TheVariants.{UnknownCommand, BadWord, NoMemory}
use Rattle.zr_cmd.specs.declared.forms.ZfsCall.{ZfsCall}
use Rattle.zr_command.specs.declared.command.Cmd.TheVariants as cmd
use Rattle.zr_command.specs.declared.command.Transfer.{Transfer}
use Rattle.zr_world.specs.declared.pools.Pools.{Pools}
use Rattle.zr_world.specs.Answering.{StandsOn}

-- the calls are the two ends of the transfer, and what they do not name is as it stands on these pools
pub record AreEnds (pools : Pools) (send receive : ZfsCall) (transfer : Transfer) : Type 0 where
  pub sends : send ≡ send_of transfer
  pub receives : receive ≡ receive_of transfer
  pub stands : StandsOn pools transfer

-- words that are refused for this are those of no call
abbrev pub is_unspelled : ArgvFault → Bool
is_unspelled UnknownCommand = true
is_unspelled (BadWord count) = true
is_unspelled NoMemory = false

-- one that fits is found, or none does
abbrev pub FindsOne : {T : Type 0} → (T → Type 0) → Option T → Type 0
FindsOne {T} fits None = (other : T) → fits other → ⊥
FindsOne fits (Some found) = fits found
