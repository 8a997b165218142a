use Rattle.std.specs.Prelude.{◌==◌, ◌&&◌, ◌*◌, ◌+◌, ◌%◌, ◌^◌, ℕ, zero, suc, Bool, true, not, if◌then◌else◌, nat_le, nat_lt, List, [], ◌∷◌, Option, Some, None, drop, length, slice_index, take}
use Rattle.zr_names.specs.Hex.{digit_number}
use Rattle.zr_names.specs.Names.{path_is_bad}
use Rattle.zr_names.specs.declared.names.TheConstants.{PATH_LIMIT}
use Rattle.zr_names.specs.declared.unit.Guid.{Guid}
use Rattle.zr_command.specs.Names.{same_text}
use Rattle.zr_command.specs.declared.version.TokenInfo.{TokenInfo}
use Rattle.zr_world.specs.declared.pools.Partial.{Partial}
use Rattle.zr_world.specs.Rows.{token_text}

-- a number of 64 bits with one hexadecimal digit more
abbrev pub with_digit : ℕ → ℕ → ℕ
with_digit before b = ((before * 16) % 2 ^ 64 + digit_number b) % 2 ^ 64

-- the number of 64 bits that digits write behind those before
abbrev pub number_behind : ℕ → List ℕ → ℕ
number_behind before [] = before
number_behind before (b ∷ digits) = number_behind (with_digit before b) digits

-- the guid of 16 digits at this place
abbrev pub guid_at : List ℕ → ℕ → Guid
guid_at text place = record { 0 = number_behind 0 (take 16 (drop place text)) }

-- where the incremental source would begin stands the `n` of `none`, which is no hexadecimal digit
abbrev pub says_none : List ℕ → Bool
says_none text = slice_index text 19 == 110

-- the partial receive that stands at the places of a token, whatever the text is
abbrev pub partial_by : List ℕ → Partial
partial_by text = record {
  to = guid_at text 2;
  from = if says_none text then None else Some (guid_at text 19);
  source = drop (if says_none text then 24 else 36) text;
}

abbrev pub are_good : List ℕ → ℕ → Bool
are_good text zero = true
are_good text (suc places) = not (path_is_bad text places) && are_good text places

-- the text is a path
abbrev pub is_path : List ℕ → Bool
is_path text = nat_lt 0 (length text) && nat_le (length text) PATH_LIMIT && are_good text (length text)

-- the places of a text tell a partial receive whose source is a path
abbrev pub partial_told : List ℕ → Option Partial
partial_told text = if is_path (partial_by text).source then Some (partial_by text) else None

abbrev pub if_shown : List ℕ → Option Partial → Option Partial
if_shown token None = None
if_shown token (Some partial) = if same_text (token_text partial) token then Some partial else None

-- the partial receive whose token in the model this is
unfoldable pub partial_of_token : List ℕ → Option Partial
partial_of_token token = if_shown token (partial_told token)

-- what the token of a partial receive says of the stream that completes it
abbrev pub info_of : Partial → TokenInfo
info_of partial = record { to = partial.to; from = partial.from }
