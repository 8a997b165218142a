-- How the reader goes over the tokens of an item: each part answers the item, or the tokens that are left where it goes wrong.
use Rattle.std.specs.Prelude.{◌≡◌, ℕ, ◌&&◌, nat_le, if◌then◌else◌, List, [], ◌∷◌, Option, Some, None, Result, Ok, Err}
use Rattle.zr_schedule.specs.declared.item.Limits.{Limits}
use Rattle.zr_schedule.specs.declared.item.Item.{Item}
use Rattle.zr_schedule.specs.declared.item.Stop.{Stop}
use Rattle.zr_schedule.specs.Tokens.{Token, number, star, dash, slash, other, widths}
use Rattle.zr_schedule.specs.Cron.{is_in, counted}

-- what a function returned is what the scan gives; where it goes wrong, so many bytes are left
abbrev pub Gives : {X : Type 0} → Result X Stop → Result X (List Token) → Type 0
Gives (Ok x) (Ok y) = x ≡ y
Gives (Ok x) (Err rest) = ⊥
Gives (Err stop) (Ok y) = ⊥
Gives (Err stop) (Err rest) = stop.left ≡ widths rest

abbrev pub ended : ℕ → List Token → Result ℕ (List Token)
ended s [] = Ok s
ended s (token ∷ rest) = Err (token ∷ rest)

-- a number at the front, and what comes after it
abbrev pub number_first : List Token → Option (ℕ × List Token)
number_first [] = None
number_first (number n digits ∷ rest) = Some (n, rest)
number_first (star ∷ rest) = None
number_first (dash ∷ rest) = None
number_first (slash ∷ rest) = None
number_first (other ∷ rest) = None

abbrev pub step_from : List Token → Option (ℕ × List Token) → Result ℕ (List Token)
step_from all None = Err all
step_from all (Some x) = if nat_le 1 x.0 then ended x.0 x.1 else Err all

abbrev pub step_at : List Token → Result ℕ (List Token)
step_at all = step_from all (number_first all)

abbrev pub stepped : ℕ → ℕ → Result ℕ (List Token) → Result Item (List Token)
stepped first last (Ok s) = Ok (counted first last s)
stepped first last (Err rest) = Err rest

-- after a range from first to last, which a step takes on to the end
abbrev pub after_range : ℕ → ℕ → ℕ → List Token → Result Item (List Token)
after_range first last end [] = Ok (counted first last 1)
after_range first last end (slash ∷ rest) = stepped first end (step_at rest)
after_range first last end rest = Err rest

abbrev pub last_from : Limits → ℕ → List Token → Option (ℕ × List Token) → Result Item (List Token)
last_from limits first all None = Err all
last_from limits first all (Some x) = if nat_le first x.0 && nat_le x.0 limits.high then after_range first x.0 x.0 x.1 else Err all

abbrev pub last_at : Limits → ℕ → List Token → Result Item (List Token)
last_at limits first all = last_from limits first all (number_first all)

abbrev pub after_first : Limits → ℕ → List Token → Result Item (List Token)
after_first limits first (dash ∷ rest) = last_at limits first rest
after_first limits first rest = after_range first first limits.high rest

abbrev pub first_from : Limits → List Token → Option (ℕ × List Token) → Result Item (List Token)
first_from limits all None = Err all
first_from limits all (Some x) = if is_in limits x.0 then after_first limits x.0 x.1 else Err all

abbrev pub numbered_at : Limits → List Token → Result Item (List Token)
numbered_at limits all = first_from limits all (number_first all)

abbrev pub item_at : Limits → List Token → Result Item (List Token)
item_at limits (star ∷ rest) = after_range limits.low limits.high limits.high rest
item_at limits all = numbered_at limits all
