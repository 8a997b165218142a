-- A snapshot's name is a text.
use Rattle.std.proofs.Common.{◌≡◌, ℕ, zero, suc, ◌<◌, false, not, List, [], ◌∷◌, length, slice_index, arith, lit<}
use Rattle.std.specs.Str.{IsUtf8, IsAscii}
use Rattle.std.proofs.lemmas.Bool.Decides.{nat_tests}
use Rattle.std.proofs.lemmas.Str.{IsUtf8-from_ascii}
use Rattle.zr_names.specs.Names.{IsName, is_name_byte, name_is_bad}
use Rattle.zr_names.specs.declared.names.TheConstants.{NAME_LIMIT}

name_byte-ascii : (b : ℕ) → not (is_name_byte b) ≡ false → b < 128
name_byte-ascii b e = grind (arith, nat_tests)

ascii-from : (xs : List ℕ) → ((k : ℕ) → k < length xs → slice_index xs k < 128) → IsAscii xs
ascii-from [] h k = lit< tt
ascii-from (x ∷ xs) h zero = h 0 (omega arith)
ascii-from (x ∷ xs) h (suc k) = ascii-from xs (λ j inside. h (suc j) (omega arith)) k

pub utf8_name : (text : List ℕ) → IsName name_is_bad NAME_LIMIT text → IsUtf8 text
utf8_name text name = IsUtf8-from_ascii text (ascii-from text (λ k inside. name_byte-ascii (slice_index text k) (name.no_place_bad k inside)))
