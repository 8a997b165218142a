use Rattle.std.specs.Prelude.{⊤, ◌≡◌, ℕ, List, [], ◌∷◌, Option, Some, None}

-- a clock that tells its moments gives the next one, and ends where there is none
abbrev pub Ticks : Option (List ℕ) → Option ℕ → Option (List ℕ) → Type 0
Ticks None tick None = ⊤
Ticks (Some []) tick (Some left) = (tick ≡ None) × (left ≡ [])
Ticks (Some (moment ∷ moments)) tick (Some left) = (tick ≡ Some moment) × (left ≡ moments)
Ticks before tick after = ⊥
