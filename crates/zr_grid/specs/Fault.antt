-- Where a text leaves its grammar.
use Rattle.std.specs.Prelude.{ℕ, ◌<◌, ◌≤◌, List, ◌++◌, length, take}

-- some text of good form begins so
abbrev pub Begins : (List ℕ → Type 0) → List ℕ → Type 0
Begins Good front = (more : List ℕ) × Good (front ++ more)

-- The text is not of good form, and place is the length of its longest front that begins a text of good form.
pub record IsFault (Good : List ℕ → Type 0) (text : List ℕ) (place : ℕ) : Type 0 where
  pub bad : ¬ Good text
  pub within : place ≤ length text
  pub begins : Begins Good (take place text)
  pub longest : (longer : ℕ) → place < longer → longer ≤ length text → ¬ Begins Good (take longer text)
