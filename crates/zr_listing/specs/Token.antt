use Rattle.std.specs.Prelude.{◌≡◌, ◌==◌, ◌||◌, ◌≤◌, ℕ, Bool, List, [], ◌∷◌, ◌++◌, Option, Some, None, codes, flat_map, length, if◌then◌else◌}
use Rattle.std.specs.Str.Parse.{IsNumeral, digits_value}
use Rattle.zr_names.specs.declared.unit.Guid.{Guid}
use Rattle.zr_command.specs.declared.version.TokenInfo.{TokenInfo}
use Rattle.zr_listing.specs.declared.token.TokenLine.{TokenLine}
use Rattle.zr_listing.specs.declared.token.TokenLine.TheVariants as line
use Rattle.zr_listing.specs.Lines.{Lines}

-- a space or a tab
abbrev pub is_blank : ℕ → Bool
is_blank b = (b == 32) || (b == 9)

-- a line without the blanks at its front
abbrev pub behind_blanks : List ℕ → List ℕ
behind_blanks [] = []
behind_blanks (b ∷ bs) = if is_blank b then behind_blanks bs else (b ∷ bs)

-- the text spells the number: 1 to 16 hexadecimal digits, in either case
pub record IsHexNumber (text : List ℕ) (n : ℕ) : Type 0 where
  pub short : length text ≤ 16
  pub digits : IsNumeral 16 text
  pub value : n ≡ digits_value 16 text

-- the text spells the guid: `0x` and its digits
pub record IsHexGuid (text : List ℕ) (guid : Guid) : Type 0 where
  pub digits : List ℕ
  pub spelled : text ≡ codes "0x" ++ digits
  pub is_number : IsHexNumber digits guid.0

-- what stands before the guid of the snapshot that is sent
abbrev pub to_key : List ℕ
to_key = codes "toguid = "

-- what stands before the guid which the stream goes on from
abbrev pub from_key : List ℕ
from_key = codes "fromguid = "

-- behind blanks the line has this key, and then this value
abbrev pub HasKey : List ℕ → List ℕ → List ℕ → Type 0
HasKey key line value = behind_blanks line ≡ key ++ value

-- behind blanks the line has this key, and then the guid
pub record IsGuidLine (key line : List ℕ) (guid : Guid) : Type 0 where
  pub value : List ℕ
  pub has_key : HasKey key line value
  pub is_guid : IsHexGuid value guid

-- what a line of the contents of a token says; one that has neither key says nothing of a guid
abbrev pub IsTokenLine : List ℕ → TokenLine → Type 0
IsTokenLine text (line.To guid) = IsGuidLine to_key text guid
IsTokenLine text (line.From guid) = IsGuidLine from_key text guid
IsTokenLine text line.Other =
    ((value : List ℕ) → HasKey to_key text value → ⊥) × ((value : List ℕ) → HasKey from_key text value → ⊥)

abbrev pub to_guid : TokenLine → List Guid
to_guid (line.To guid) = guid ∷ []
to_guid (line.From guid) = []
to_guid line.Other = []

abbrev pub from_guid : TokenLine → List Guid
from_guid (line.To guid) = []
from_guid (line.From guid) = guid ∷ []
from_guid line.Other = []

-- the guids that lines give of the snapshot that is sent
abbrev pub to_guids : List TokenLine → List Guid
to_guids lines = flat_map to_guid lines

-- the guids that lines give which the stream goes on from
abbrev pub from_guids : List TokenLine → List Guid
from_guids lines = flat_map from_guid lines

-- one guid, or none
abbrev pub guids_of : Option Guid → List Guid
guids_of None = []
guids_of (Some guid) = guid ∷ []

-- the bytes show what a token says: each line is good, one alone gives the guid of the snapshot that is sent, and one
-- alone, or none where the stream is in full, that which it goes on from
pub record IsTokenListing (bytes : List ℕ) (info : TokenInfo) : Type 0 where
  pub said : List TokenLine
  pub lines : Lines IsTokenLine bytes said
  pub to : to_guids said ≡ info.to ∷ []
  pub from : from_guids said ≡ guids_of info.from
