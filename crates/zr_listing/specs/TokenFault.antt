use Rattle.std.specs.Prelude.{◌≡◌, ◌≢◌, ◌+◌, ◌≤◌, ℕ, List, [], ◌∷◌, ◌++◌, length}
use Rattle.std.specs.List.{AllZip}
use Rattle.zr_listing.specs.declared.faults.ListFault.{ListFault}
use Rattle.zr_listing.specs.declared.faults.ListFault.TheVariants as fault
use Rattle.zr_listing.specs.declared.token.TokenLine.{TokenLine}
use Rattle.zr_listing.specs.Lines.{lines_of}
use Rattle.zr_listing.specs.Token.{IsTokenLine, to_guids, from_guids}

-- no key stands in two of the lines
pub record KeysDiffer (said : List TokenLine) : Type 0 where
  pub to : length (to_guids said) ≤ 1
  pub from : length (from_guids said) ≤ 1

-- the first bad line of the contents of a token has this number, counted from 1: the lines before it are good and repeat
-- no key, and it has no newline, or is no good line, or repeats a key. Where all lines are good, it is the one that
-- would follow them, as none gives the guid of the snapshot that is sent
pub record IsFirstBadTokenLine (bytes : List ℕ) (number : ℕ) : Type 0 where
  pub earlier : List (List ℕ)
  pub line : List ℕ
  pub later : List (List ℕ)
  pub said : List TokenLine
  pub cut : lines_of bytes ≡ earlier ++ line ∷ later
  pub counted : number ≡ length earlier + 1
  pub each : AllZip IsTokenLine earlier said
  pub differ : KeysDiffer said
  pub missing : later ≡ [] → line ≡ [] → to_guids said ≡ []
  pub bad : later ≢ [] → (last : TokenLine) → IsTokenLine line last → KeysDiffer (said ++ last ∷ []) → ⊥

-- what a fault says of the contents of a token; no memory is taken
abbrev pub IsBadTokenAt : List ℕ → ListFault → Type 0
IsBadTokenAt bytes (fault.Garbled number) = IsFirstBadTokenLine bytes number
IsBadTokenAt bytes fault.NoMemory = ⊥
