-- The contents of a resume token as a function reads them.

use Rattle.std.specs.Prelude.{◌&&◌, ℕ, ◌+◌, Bool, not, if◌then◌else◌, List, [], ◌∷◌, ◌++◌, Option, Some, None, Result, Ok, Err, codes, drop, length, nat_le, nat_lt, option_map, take}
use Rattle.std.specs.Char.{digit_value}
use Rattle.std.specs.List.{list_all}
use Rattle.std.specs.Option.{option_map_or}
use Rattle.std.specs.Str.Parse.{digits_value}
use Rattle.zr_command.specs.Names.{same_text}
use Rattle.zr_command.specs.declared.version.TokenInfo.{TokenInfo}
use Rattle.zr_listing.specs.Token.{behind_blanks, from_guids, from_key, to_guids, to_key}
use Rattle.zr_listing.specs.declared.token.TokenLine.{TokenLine}
use Rattle.zr_listing.specs.declared.token.TokenLine.TheVariants as line
use Rattle.zr_names.specs.declared.unit.Guid.{Guid}

-- what follows a key at the front of a text
abbrev pub behind_key : List ℕ → List ℕ → Option (List ℕ)
behind_key key text = if same_text (take (length key) text) key then Some (drop (length key) text) else None

-- the text is 1 to 16 hexadecimal digits
abbrev pub is_hex : List ℕ → Bool
is_hex text = not (same_text text []) && nat_le (length text) 16 && list_all (λ c. nat_lt (digit_value c) 16) text

-- the guid of hexadecimal digits
abbrev pub guid_of_digits : List ℕ → Option Guid
guid_of_digits digits = if is_hex digits then Some (record { 0 = digits_value 16 digits }) else None

-- the guid that a text spells behind `0x`
abbrev pub guid_in : Option (List ℕ) → Option Guid
guid_in None = None
guid_in (Some digits) = guid_of_digits digits

abbrev pub guid_of : List ℕ → Option Guid
guid_of value = guid_in (behind_key (codes "0x") value)

-- what a line says by what follows each key
abbrev pub said_by : Option (List ℕ) → Option (List ℕ) → Option TokenLine
said_by (Some value) other = option_map line.To (guid_of value)
said_by None (Some value) = option_map line.From (guid_of value)
said_by None None = Some line.Other

-- what a line of the contents of a token says
abbrev pub token_line_of : List ℕ → Option TokenLine
token_line_of line = said_by (behind_key to_key (behind_blanks line)) (behind_key from_key (behind_blanks line))

-- no key stands in two of the lines
abbrev pub keys_differ : List TokenLine → Bool
keys_differ said = nat_le (length (to_guids said)) 1 && nat_le (length (from_guids said)) 1

-- what a token says by the guids that its contents give
abbrev pub info_by : List Guid → List Guid → Option TokenInfo
info_by (to ∷ []) [] = Some (record { to = to; from = None })
info_by (to ∷ []) (from ∷ []) = Some (record { to = to; from = Some from })
info_by tos froms = None

-- what lines say, behind lines that were read before, or the number of the first bad line: one that is not good, or
-- repeats a key; behind the last newline nothing may stand, and one line before it gave the guid of what is sent
abbrev pub info_in : List TokenLine → List (List ℕ) → Result TokenInfo ℕ
info_in before [] = Err (length before + 1)
info_in before (last ∷ []) =
    if same_text last []
    then option_map_or Ok (info_by (to_guids before) (from_guids before)) (Err (length before + 1))
    else Err (length before + 1)
info_in before (line ∷ later) =
    option_map_or
    (λ said. if keys_differ (before ++ said ∷ []) then info_in (before ++ said ∷ []) later else Err (length before + 1))
    (token_line_of line)
    (Err (length before + 1))
