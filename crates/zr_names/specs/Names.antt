use Rattle.std.specs.Prelude.{◌≡◌, ◌==◌, ◌&&◌, ◌||◌, ℕ, ◌+◌, ◌-◌, ◌<◌, ◌≤◌, Bool, true, false, not, if◌then◌else◌, nat_le, nat_lt, List, [], length, slice_index, Result, Ok, Err}
use Rattle.zr_names.specs.declared.reading.NameFault.{NameFault}
use Rattle.zr_names.specs.declared.reading.NameFault.TheVariants.{Empty, BadByte, TooLong, NoMemory}

-- ASCII letters and digits
abbrev pub is_alphanumeric : ℕ → Bool
is_alphanumeric b =
    (nat_le 48 b && nat_le b 57) || (nat_le 65 b && nat_le b 90) || (nat_le 97 b && nat_le b 122)

-- the bytes of names: letters, digits, `-`, `_`, `.`, `:` and the space
abbrev pub is_name_byte : ℕ → Bool
is_name_byte b = is_alphanumeric b || (b == 45) || (b == 95) || (b == 46) || (b == 58) || (b == 32)

-- a component of a path begins at this place: at the front or after a `/`
abbrev pub begins_component : List ℕ → ℕ → Bool
begins_component text place = (place == 0) || (slice_index text (place - 1) == 47)

-- a component of a path has ended before this place: at the end of the text or at a `/`
abbrev pub ends_component : List ℕ → ℕ → Bool
ends_component text place = nat_le (length text) place || (slice_index text place == 47)

-- what stands from this place to the component's end is `.` or `..`
abbrev pub is_dots : List ℕ → ℕ → Bool
is_dots text place =
    (slice_index text place == 46)
    && (ends_component text (place + 1)
    || ((slice_index text (place + 1) == 46) && ends_component text (place + 2)))

-- a `/` is bad at either end of a path and after another `/`
abbrev pub slash_is_bad : List ℕ → ℕ → Bool
slash_is_bad text place = begins_component text place || (length text == place + 1)

-- a place of a path is bad: another byte than a name's or a `/`, a `/` that parts no two components,
-- or the beginning of a component `.` or `..`
abbrev pub path_is_bad : List ℕ → ℕ → Bool
path_is_bad text place =
    if slice_index text place == 47
    then slash_is_bad text place
    else (not (is_name_byte (slice_index text place))
    || (begins_component text place && is_dots text place))

-- a place of a snapshot's, a bookmark's or a job's name or of a prefix is bad: no name byte
abbrev pub name_is_bad : List ℕ → ℕ → Bool
name_is_bad text place = not (is_name_byte (slice_index text place))

-- a place of a tag is bad: a tab or a newline, which listings use
abbrev pub tag_is_bad : List ℕ → ℕ → Bool
tag_is_bad text place = (slice_index text place == 9) || (slice_index text place == 10)

-- a place of a token is bad: not printable ASCII, or the whole text is the `-` that listings use for none
abbrev pub token_is_bad : List ℕ → ℕ → Bool
token_is_bad text place =
    nat_lt (slice_index text place) 32
    || nat_lt 126 (slice_index text place)
    || ((length text == 1) && (slice_index text 0 == 45))

-- a text is a name where it is not empty, not too long, and no place of it is bad
pub record IsName (is_bad : List ℕ → ℕ → Bool) (limit : ℕ) (text : List ℕ) : Type 0 where
  pub not_empty : 0 < length text
  pub not_long : length text ≤ limit
  pub no_place_bad : (place : ℕ) → place < length text → is_bad text place ≡ false

-- the least bad place
pub record IsFirstBad (is_bad : List ℕ → ℕ → Bool) (text : List ℕ) (place : ℕ) : Type 0 where
  pub inside : place < length text
  pub bad : is_bad text place ≡ true
  pub before : (earlier : ℕ) → earlier < place → is_bad text earlier ≡ false

-- what a reader answers: the name exactly where the text is one, else its fault with the length or
-- the least bad place
abbrev pub Reads : (List ℕ → ℕ → Bool) → ℕ → List ℕ → Result (List ℕ) NameFault → Type 0
Reads is_bad limit text (Ok name) = (name ≡ text) × IsName is_bad limit text
Reads is_bad limit text (Err Empty) = text ≡ []
Reads is_bad limit text (Err (TooLong n)) = (n ≡ length text) × (limit < n)
Reads is_bad limit text (Err (BadByte place)) =
    (0 < length text) × (length text ≤ limit) × IsFirstBad is_bad text place
Reads is_bad limit text (Err NoMemory) = IsName is_bad limit text
