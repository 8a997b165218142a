use Rattle.std.specs.Prelude.{◌≡◌, ◌≢◌, ◌<◌, Bool, true, false, List, [], ◌∷◌, ◌++◌, ℕ, is_some, length, not, ◌&&◌, ◌==◌, nat_lt, slice_index}
use Rattle.zr_listing.specs.declared.token.Seen.{Seen}
use Rattle.zr_listing.specs.declared.token.TokenLine.{TokenLine}
use Rattle.zr_listing.specs.declared.token.TokenLine.TheVariants as line
use Rattle.zr_listing.specs.Lines.{lines_of}
use Rattle.zr_listing.specs.Token.{IsTokenLine, to_guid, from_guid, guids_of}

-- what a number in hexadecimal digits has: no sign in front, and 1 to 16 digits
abbrev pub is_hex_long : List ℕ → Bool
is_hex_long text = not (length text == 0) && not (slice_index text 0 == 43) && not (nat_lt 16 (length text))

-- the line has a key that was seen
abbrev pub repeats : Seen → TokenLine → Bool
repeats seen (line.To guid) = is_some seen.to
repeats seen (line.From guid) = is_some seen.from
repeats seen line.Other = false

-- what was seen, and the guid of one more line
pub record SeesMore (before : Seen) (said : TokenLine) (after : Seen) : Type 0 where
  pub to : guids_of after.to ≡ guids_of before.to ++ to_guid said
  pub from : guids_of after.from ≡ guids_of before.from ++ from_guid said

-- the text begins with a good line, which repeats no key, and another text follows
pub record TakesLine (text : List ℕ) (before : Seen) (rest : List ℕ) (after : Seen) : Type 0 where
  pub line : List ℕ
  pub said : TokenLine
  pub cut : lines_of text ≡ line ∷ lines_of rest
  pub spelled : IsTokenLine line said
  pub new : repeats before said ≡ false
  pub sees : SeesMore before said after
  pub shorter : length rest < length text

-- the text begins with what is no line, or with a line that is not good or repeats a key
pub record StopsAt (text : List ℕ) (seen : Seen) : Type 0 where
  pub line : List ℕ
  pub later : List (List ℕ)
  pub cut : lines_of text ≡ line ∷ later
  pub bad : later ≢ [] → (said : TokenLine) → IsTokenLine line said → repeats seen said ≡ true
