use Rattle.std.specs.Prelude.{ℕ, ◌+◌, Bool, if◌then◌else◌, List, [], ◌∷◌, ◌++◌, Option, Result, Ok, Err, length}
use Rattle.std.specs.List.{list_any}
use Rattle.std.specs.Option.{option_map_or}
use Rattle.std.specs.Ordering.{is_lt}
use Rattle.zr_command.specs.Names.{same_text}
use Rattle.zr_listing.specs.Order.{row_cmp}
use Rattle.zr_command.specs.declared.version.VersionRow.{VersionRow}

-- a row of this name stands among the rows
abbrev pub is_listed : {Row : Type 0} → (Row → List ℕ) → List Row → List ℕ → Bool
is_listed name rows text = list_any (λ row. same_text (name row) text) rows

-- the rows that lines spell, behind rows that were read before, or the number of the first bad line: one that spells no
-- row, or the row of a name that stands before; behind the last newline nothing may stand
abbrev pub rows_in : {Row : Type 0} → (List ℕ → Option Row) → (Row → List ℕ) → List Row → List (List ℕ) → Result (List Row) ℕ
rows_in row_of name before [] = Err (length before + 1)
rows_in row_of name before (last ∷ []) = if same_text last [] then Ok before else Err (length before + 1)
rows_in row_of name before (line ∷ later) =
    option_map_or
    (λ row. if is_listed name before (name row) then Err (length before + 1) else rows_in row_of name (before ++ row ∷ []) later)
    (row_of line)
    (Err (length before + 1))

-- rows in order, with one more in its place
abbrev pub in_place : VersionRow → List VersionRow → List VersionRow
in_place row [] = row ∷ []
in_place row (other ∷ rows) =
    if is_lt (row_cmp row other) then row ∷ other ∷ rows else (other ∷ in_place row rows)

-- rows put into order
abbrev pub in_order : List VersionRow → List VersionRow
in_order [] = []
in_order (row ∷ rows) = in_place row (in_order rows)
