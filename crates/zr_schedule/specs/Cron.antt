-- The grammar of cron fields.
use Rattle.std.specs.Prelude.{◌≡◌, ℕ, ◌-◌, ◌%◌, Bool, false, ◌==◌, ◌&&◌, nat_le, if◌then◌else◌, List, [], ◌∷◌, Option, Some, None}
use Rattle.std.specs.List.{list_any, AllByRecursion}
use Rattle.zr_schedule.specs.declared.item.Limits.{Limits}
use Rattle.zr_schedule.specs.declared.item.Item.{Item}
use Rattle.zr_schedule.specs.Words.{parted, is_comma}
use Rattle.zr_schedule.specs.Tokens.{Token, number, star, dash, slash, tokens}

abbrev pub is_in : Limits → ℕ → Bool
is_in limits n = nat_le limits.low n && nat_le n limits.high

abbrev pub counted : ℕ → ℕ → ℕ → Item
counted first last step = record { first = first; last = last; step = step }

abbrev pub item_if : Bool → Item → Option Item
item_if test item = if test then Some item else None

-- An item: *, n or n-m, and a step where one likes. With a step, n runs to the end of the field.
abbrev pub item_of : Limits → List Token → Option Item
item_of limits (star ∷ []) = Some (counted limits.low limits.high 1)
item_of limits (star ∷ slash ∷ number s _ ∷ []) = item_if (nat_le 1 s) (counted limits.low limits.high s)
item_of limits (number n _ ∷ []) = item_if (is_in limits n) (counted n n 1)
item_of limits (number n _ ∷ slash ∷ number s _ ∷ []) = item_if (is_in limits n && nat_le 1 s) (counted n limits.high s)
item_of limits (number n _ ∷ dash ∷ number m _ ∷ []) = item_if (is_in limits n && (nat_le n m && nat_le m limits.high)) (counted n m 1)
item_of limits (number n _ ∷ dash ∷ number m _ ∷ slash ∷ number s _ ∷ []) = item_if (is_in limits n && ((nat_le n m && nat_le m limits.high) && nat_le 1 s)) (counted n m s)
item_of limits _ = None

-- whether an item has a value: the step counts from the first
abbrev pub item_has : Item → ℕ → Bool
item_has item n = (nat_le item.first n && nat_le n item.last) && ((n - item.first) % item.step == 0)

abbrev pub some_has : Option Item → ℕ → Bool
some_has None n = false
some_has (Some item) n = item_has item n

-- the tokens of an item
abbrev pub IsItem : Limits → List Token → Type 0
IsItem limits all = (item : Item) × (item_of limits all ≡ Some item)

-- a field: items parted by commas
abbrev pub IsField : Limits → List ℕ → Type 0
IsField limits text = AllByRecursion (λ part. IsItem limits (tokens part)) (parted is_comma text)

-- whether some item of a field has a value
abbrev pub field_has : Limits → List ℕ → ℕ → Bool
field_has limits text n = list_any (λ part. some_has (item_of limits (tokens part)) n) (parted is_comma text)
