-- How the parts of a line are read from its front.
use Rattle.std.specs.Prelude.{◌≡◌, ⊤, ℕ, Bool, true, ◌==◌, ◌&&◌, if◌then◌else◌, List, [], ◌∷◌, Option, Some, None, Result, Ok, Err}
use Rattle.zr_yaml.specs.declared.fault.Stop.{Stop}
use Rattle.zr_yaml.specs.declared.fault.Stop.TheVariants.{Bad, NoMemory}

-- What a function returned, as view sees it, is what the definition gives, unless memory ran out.
abbrev pub Gives : {X Y : Type 0} → (X → Y) → Result X Stop → Option Y → Type 0
Gives view (Ok x) defined = defined ≡ Some (view x)
Gives view (Err Bad) defined = defined ≡ None
Gives view (Err NoMemory) defined = ⊤

-- the same of what is always given
abbrev pub GivesAll : {X Y : Type 0} → (X → Y) → Result X Stop → Y → Type 0
GivesAll view result given = Gives view result (Some given)

-- a blank: a space, and nothing else, since tabs stand in quotes and comments alone
abbrev pub is_blank : ℕ → Bool
is_blank b = b == 32

-- a part ends before this text: at the line's end or at a blank
abbrev pub ends_part : List ℕ → Bool
ends_part [] = true
ends_part (b ∷ bs) = is_blank b

-- what comes after blanks, and after a comment, which a `#` begins behind a blank; spaced: a blank or nothing stands before the text
abbrev pub after_gap : Bool → List ℕ → List ℕ
after_gap spaced [] = []
after_gap spaced (b ∷ bs) = if is_blank b then after_gap true bs else (if spaced && b == 35 then [] else b ∷ bs)
