-- Where a cron text goes wrong.
use Rattle.std.specs.Prelude.{◌≡◌, ℕ, ◌+◌, ◌<◌, ◌≤◌, ◌⊎◌, List, [], ◌∷◌, ◌++◌, length, take, Some, Result, Ok, Err}
use Rattle.zr_schedule.specs.declared.item.Limits.{Limits}
use Rattle.zr_schedule.specs.declared.item.Item.{Item}
use Rattle.zr_schedule.specs.declared.read.CronFault.{CronFault}
use Rattle.zr_schedule.specs.declared.read.CronFault.TheVariants.{BadCron}
use Rattle.zr_schedule.specs.Schedule.{has}
use Rattle.zr_schedule.specs.Words.{parted, is_comma}
use Rattle.zr_schedule.specs.Tokens.{Token, tokens, widths}
use Rattle.zr_schedule.specs.Cron.{item_of, IsItem, IsField, field_has}

-- some list of good form begins so
abbrev pub Begins : (List Token → Type 0) → List Token → Type 0
Begins Good front = (more : List Token) × Good (front ++ more)

-- The list is not of good form, and this is the length of its longest front that begins a list of good form.
pub record IsFault (Good : List Token → Type 0) (all : List Token) (place : ℕ) : Type 0 where
  pub bad : ¬ Good all
  pub within : place ≤ length all
  pub begins : Begins Good (take place all)
  pub longest : (longer : ℕ) → place < longer → longer ≤ length all → ¬ Begins Good (take longer all)

-- a text is no item, and its longest run of tokens that begins one has so many bytes
abbrev pub IsItemFault : Limits → List ℕ → ℕ → Type 0
IsItemFault limits text place = (n : ℕ) × IsFault (IsItem limits) (tokens text) n × (place ≡ widths (take n (tokens text)))

-- the item that a text is, or where it goes wrong
abbrev pub ReadsItem : Limits → List ℕ → Result Item ℕ → Type 0
ReadsItem limits text (Ok item) = item_of limits (tokens text) ≡ Some item
ReadsItem limits text (Err place) = IsItemFault limits text place

-- the fault of the first part that is no item; each part before it has a comma behind it
abbrev pub IsPartFault : Limits → List (List ℕ) → ℕ → Type 0
IsPartFault limits [] place = ⊥
IsPartFault limits (part ∷ parts) place =
    IsItemFault limits part place ⊎ (IsItem limits (tokens part) × ((later : ℕ) × IsPartFault limits parts later × (place ≡ length part + 1 + later)))

abbrev pub IsFieldFault : Limits → List ℕ → ℕ → Type 0
IsFieldFault limits text place = IsPartFault limits (parted is_comma text) place

-- what values a field has, as a set, or where it goes wrong
abbrev pub ReadsField : Limits → List ℕ → Result ℕ ℕ → Type 0
ReadsField limits text (Ok set) = IsField limits text × ((n : ℕ) → has set n ≡ field_has limits text n)
ReadsField limits text (Err place) = IsFieldFault limits text place

-- the first of some words is a good field, with its set, and these words are behind it
pub record IsNextField (limits : Limits) (all : List (List ℕ)) (set : ℕ) (behind : List (List ℕ)) : Type 0 where
  pub word : List ℕ
  pub parts : all ≡ word ∷ behind
  pub good : IsField limits word
  pub values : (n : ℕ) → has set n ≡ field_has limits word n

-- The first bad word, where the next word is field `at`: place 0 of the one that is missing, or of the first that is too many.
abbrev pub IsWordFault : List Limits → List (List ℕ) → ℕ → ℕ → ℕ → Type 0
IsWordFault [] [] at field place = ⊥
IsWordFault [] (word ∷ others) at field place = (field ≡ at) × (place ≡ 0)
IsWordFault (limits ∷ more) [] at field place = (field ≡ at) × (place ≡ 0)
IsWordFault (limits ∷ more) (word ∷ others) at field place = ((field ≡ at) × IsFieldFault limits word place) ⊎ (IsField limits word × IsWordFault more others (at + 1) field place)

abbrev pub IsFaultAt : List Limits → List (List ℕ) → ℕ → CronFault → Type 0
IsFaultAt expected all at (BadCron field place) = IsWordFault expected all at field place
