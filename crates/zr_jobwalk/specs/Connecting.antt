-- The two ends of a connection, the fields `connect` and `serve` (zrepl's documentation, "Transports").
use Rattle.std.specs.Prelude.{◌≡◌, ℕ, List, [], ◌∷◌}
use Rattle.zr_names.specs.Tree.{Members}
use Rattle.zr_jobwalk.specs.declared.connecting.Client.{Client}
use Rattle.zr_jobwalk.specs.declared.fault.JobFault.{JobFault}
use Rattle.zr_jobwalk.specs.declared.field.Field.{Field}
use Rattle.zr_jobwalk.specs.declared.field.Field.TheVariants as field
use Rattle.zr_jobwalk.specs.Fields.{strangers, value_of}
use Rattle.zr_jobwalk.specs.Faults.{Must, Only}
use Rattle.zr_jobwalk.specs.Tables.{Section}
use Rattle.zr_jobwalk.specs.Texts.{IsJobName, IsLocal, NamesClient}
use Rattle.zr_jobwalk.specs.Values.{Has, IsText}

abbrev pub client_fields : List Field
client_fields = field.Type ∷ field.ListenerName ∷ field.ClientIdentity ∷ []

-- `connect`: its type is `local`, and it names a listener and the client
pub record IsClient (members : Members) (client : Client) : Type 0 where
  pub only : strangers client_fields members ≡ []
  pub local : Has (IsText IsLocal) (value_of members field.Type) tt
  pub listener : Has (IsText IsJobName) (value_of members field.ListenerName) client.listener
  pub identity : Has (IsText NamesClient) (value_of members field.ClientIdentity) client.identity

abbrev pub ClientFault : Section → JobFault → Type 0
ClientFault table fault =
    Only client_fields table fault
    (Must (IsText IsLocal) field.Type table fault
    (Must (IsText IsJobName) field.ListenerName table fault
    (Must (IsText NamesClient) field.ClientIdentity table fault ⊥)))

abbrev pub server_fields : List Field
server_fields = field.Type ∷ field.ListenerName ∷ []

-- `serve`: its type is `local`, and it names a listener
pub record IsServer (members : Members) (name : List ℕ) : Type 0 where
  pub only : strangers server_fields members ≡ []
  pub local : Has (IsText IsLocal) (value_of members field.Type) tt
  pub listener : Has (IsText IsJobName) (value_of members field.ListenerName) name

abbrev pub ServerFault : Section → JobFault → Type 0
ServerFault table fault =
    Only server_fields table fault
    (Must (IsText IsLocal) field.Type table fault
    (Must (IsText IsJobName) field.ListenerName table fault ⊥))
