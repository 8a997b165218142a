use Rattle.std.specs.Prelude.{◌≡◌, ◌≢◌, ◌<◌, List, [], ◌∷◌, ℕ, length}
use Rattle.zr_listing.specs.Lines.{lines_of}

-- the text begins with a line that spells this row, each row that it spells has this name, and another text follows
pub record Begins {Row : Type 0} (spells : List ℕ → Row → Type 0) (name_of : Row → List ℕ) (text : List ℕ) (row : Row) (name after : List ℕ) : Type 0 where
  pub line : List ℕ
  pub cut : lines_of text ≡ line ∷ lines_of after
  pub spelled : spells line row
  pub named : (other : Row) → spells line other → name ≡ name_of other
  pub shorter : length after < length text

-- the text begins with what is no line, or with a line that spells no row
pub record BeginsBad {Row : Type 0} (spells : List ℕ → Row → Type 0) (text : List ℕ) : Type 0 where
  pub line : List ℕ
  pub later : List (List ℕ)
  pub cut : lines_of text ≡ line ∷ later
  pub bad : later ≢ [] → (row : Row) → spells line row → ⊥
