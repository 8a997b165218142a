use Rattle.std.specs.Prelude.{◌<◌, ◌^◌, ℕ, false, List, [], ◌∷◌, ◌++◌, codes, flat_map, map, IfSome, ⊤}
use Rattle.std.specs.Fmt.{digits}
use Rattle.zr_names.specs.declared.unit.Guid.{Guid}
use Rattle.zr_command.specs.declared.version.TokenInfo.{TokenInfo}
use Rattle.zr_listing.specs.declared.token.TokenLine.{TokenLine}
use Rattle.zr_listing.specs.declared.token.TokenLine.TheVariants as line
use Rattle.zr_listing.specs.Printing.{ended}
use Rattle.zr_listing.specs.Token.{from_key, guids_of, to_key}

-- how a guid is printed: in lower case, without leading zeros
abbrev pub guid_text : Guid → List ℕ
guid_text guid = codes "0x" ++ digits 16 false guid.0

-- how a line of the contents of a token is printed; one that gives no guid is the heading
abbrev pub contents_line : TokenLine → List ℕ
contents_line (line.To guid) = 9 ∷ to_key ++ guid_text guid
contents_line (line.From guid) = 9 ∷ from_key ++ guid_text guid
contents_line line.Other = codes "resume token contents:"

-- the lines of which the contents of a token are printed
abbrev pub contents_lines : TokenInfo → List TokenLine
contents_lines info = line.Other ∷ map line.From (guids_of info.from) ++ line.To info.to ∷ []

-- how the contents of a token are printed
abbrev pub contents_text : TokenInfo → List ℕ
contents_text info = flat_map (λ said. ended (contents_line said)) (contents_lines info)

-- a guid in the line is a number of 64 bits, as those of the program are
abbrev pub IsContentsLine : TokenLine → Type 0
IsContentsLine (line.To guid) = guid.0 < 2 ^ 64
IsContentsLine (line.From guid) = guid.0 < 2 ^ 64
IsContentsLine line.Other = ⊤

-- the guids are numbers of 64 bits
pub record Fits (info : TokenInfo) : Type 0 where
  pub to : info.to.0 < 2 ^ 64
  pub from : IfSome info.from (λ guid. guid.0 < 2 ^ 64)
