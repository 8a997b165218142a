-- What the reader's parts say of an item, given what the table of items says behind the tokens that they have read.
use Rattle.std.proofs.Common.{◌≡◌, ℕ, Bool, true, false, ◌&&◌, List, [], ◌∷◌, ◌++◌, Option, Some, None, Result, Ok, Err, refl, ap, if◌then◌else◌, nat_le}
use Rattle.zr_schedule.specs.declared.item.Limits.{Limits}
use Rattle.zr_schedule.specs.declared.item.Item.{Item}
use Rattle.zr_schedule.specs.Tokens.{Token, number, star, dash, slash, other}
use Rattle.zr_schedule.specs.Cron.{counted}
use Rattle.zr_schedule.specs.Scan.{ended, number_first, step_at, stepped, after_range, last_at, after_first}

-- what an item makes of the tokens behind those that were read
abbrev pub Form : Type 0
Form = List Token → Option Item

-- no item has this front, and then the next token
abbrev pub Dead : Form → List Token → List Token → Type 0
Dead form front [] = Unit {0}
Dead form front (t ∷ rest) = (more : List Token) → form (front ++ t ∷ more) ≡ None

-- the longest front that begins an item, and what is left behind it, of a list that is none
pub record Stuck (form : Form) (all rest : List Token) : Type 0 where
  pub front : List Token
  pub parts : all ≡ front ++ rest
  pub more : List Token
  pub item : Item
  pub begins : form (front ++ more) ≡ Some item
  pub bad : form all ≡ None
  pub dead : Dead form front rest

abbrev pub Exact : Form → List Token → Result Item (List Token) → Type 0
Exact form all (Ok item) = form all ≡ Some item
Exact form all (Err rest) = Stuck form all rest

-- ---- one token, and what is behind it

abbrev pub behind : Form → Token → Form
behind form t = λ u. form (t ∷ u)

dead_behind : (form : Form) (t : Token) (front rest : List Token) → Dead (behind form t) front rest → Dead form (t ∷ front) rest
dead_behind form t front [] dead = tt
dead_behind form t front (b ∷ rest) dead = dead

pub exact_behind : (form : Form) (t : Token) (all : List Token) (result : Result Item (List Token)) → Exact (behind form t) all result → Exact form (t ∷ all) result
exact_behind form t all (Ok item) e = e
exact_behind form t all (Err rest) s = record {
  front = t ∷ s.front;
  parts = ap (λ (u : List Token). t ∷ u) s.parts;
  more = s.more;
  item = s.item;
  begins = s.begins;
  bad = s.bad;
  dead = dead_behind form t s.front rest s.dead;
}

-- the next token begins nothing, and others would
pub wrong : (form : Form) (t : Token) (rest more : List Token) (item : Item) → form more ≡ Some item → ((u : List Token) → form (t ∷ u) ≡ None) → Stuck form (t ∷ rest) (t ∷ rest)
wrong form t rest more item begins dead = record {
  front = [];
  parts = refl;
  more = more;
  item = item;
  begins = begins;
  bad = dead rest;
  dead = dead;
}

-- something is missing
pub short : (form : Form) (more : List Token) (item : Item) → form more ≡ Some item → form [] ≡ None → Stuck form [] []
short form more item begins bad = record {
  front = [];
  parts = refl;
  more = more;
  item = item;
  begins = begins;
  bad = bad;
  dead = tt;
}

-- ---- a step

pub record IsStep (form : Form) (first last : ℕ) : Type 0 where
  pub good : (s digits : ℕ) → nat_le 1 s ≡ true → form (number s digits ∷ []) ≡ Some (counted first last s)
  pub zero : (s digits : ℕ) → nat_le 1 s ≡ false → (u : List Token) → form (number s digits ∷ u) ≡ None
  pub long : (s digits : ℕ) (t : Token) (u : List Token) → form (number s digits ∷ t ∷ u) ≡ None
  pub none : form [] ≡ None
  pub other : (t : Token) → number_first (t ∷ []) ≡ None → (u : List Token) → form (t ∷ u) ≡ None

ended_exact : (form : Form) (first last s : ℕ) → form [] ≡ Some (counted first last s) → ((t : Token) (u : List Token) → form (t ∷ u) ≡ None) → (all : List Token) → Exact form all (stepped first last (ended s all))
ended_exact form first last s good long [] = good
ended_exact form first last s good long (t ∷ u) = wrong form t u [] (counted first last s) good (long t)

numbered_step : (form : Form) (first last s digits : ℕ) (rest : List Token) (b : Bool) → IsStep form first last → nat_le 1 s ≡ b → Exact form (number s digits ∷ rest) (stepped first last (if b then ended s rest else Err (number s digits ∷ rest)))
numbered_step form first last s digits rest true f e =
    exact_behind form (number s digits) rest (stepped first last (ended s rest)) (ended_exact (behind form (number s digits)) first last s (f.good s digits e) (f.long s digits) rest)
numbered_step form first last s digits rest false f e = wrong form (number s digits) rest (number 1 1 ∷ []) (counted first last 1) (f.good 1 1 refl) (f.zero s digits e)

pub step_exact : (form : Form) (first last : ℕ) → IsStep form first last → (all : List Token) → Exact form all (stepped first last (step_at all))
step_exact form first last f [] = short form (number 1 1 ∷ []) (counted first last 1) (f.good 1 1 refl) f.none
step_exact form first last f (number s digits ∷ rest) = numbered_step form first last s digits rest (nat_le 1 s) f refl
step_exact form first last f (star ∷ rest) = wrong form star rest (number 1 1 ∷ []) (counted first last 1) (f.good 1 1 refl) (f.other star refl)
step_exact form first last f (dash ∷ rest) = wrong form dash rest (number 1 1 ∷ []) (counted first last 1) (f.good 1 1 refl) (f.other dash refl)
step_exact form first last f (slash ∷ rest) = wrong form slash rest (number 1 1 ∷ []) (counted first last 1) (f.good 1 1 refl) (f.other slash refl)
step_exact form first last f (other ∷ rest) = wrong form other rest (number 1 1 ∷ []) (counted first last 1) (f.good 1 1 refl) (f.other other refl)

-- ---- a range

pub record IsRange (form : Form) (first last end : ℕ) : Type 0 where
  pub whole : form [] ≡ Some (counted first last 1)
  pub step : IsStep (behind form slash) first end
  pub no_number : (n digits : ℕ) (u : List Token) → form (number n digits ∷ u) ≡ None
  pub no_star : (u : List Token) → form (star ∷ u) ≡ None
  pub no_other : (u : List Token) → form (other ∷ u) ≡ None

-- a range that no dash follows
pub range_exact : (form : Form) (first last end : ℕ) → IsRange form first last end → ((u : List Token) → form (dash ∷ u) ≡ None) → (all : List Token) → Exact form all (after_range first last end all)
range_exact form first last end f no_dash [] = f.whole
range_exact form first last end f no_dash (number n digits ∷ rest) = wrong form (number n digits) rest [] (counted first last 1) f.whole (f.no_number n digits)
range_exact form first last end f no_dash (star ∷ rest) = wrong form star rest [] (counted first last 1) f.whole f.no_star
range_exact form first last end f no_dash (dash ∷ rest) = wrong form dash rest [] (counted first last 1) f.whole no_dash
range_exact form first last end f no_dash (slash ∷ rest) = exact_behind form slash rest (stepped first end (step_at rest)) (step_exact (behind form slash) first end f.step rest)
range_exact form first last end f no_dash (other ∷ rest) = wrong form other rest [] (counted first last 1) f.whole f.no_other

-- ---- the number behind a dash

pub record IsLast (form : Form) (limits : Limits) (first : ℕ) : Type 0 where
  pub begins : form (number first 1 ∷ []) ≡ Some (counted first first 1)
  pub good : (m digits : ℕ) → (nat_le first m && nat_le m limits.high) ≡ true → IsRange (behind form (number m digits)) first m m
  pub no_dash : (m digits : ℕ) (u : List Token) → form (number m digits ∷ dash ∷ u) ≡ None
  pub bad : (m digits : ℕ) → (nat_le first m && nat_le m limits.high) ≡ false → (u : List Token) → form (number m digits ∷ u) ≡ None
  pub none : form [] ≡ None
  pub other : (t : Token) → number_first (t ∷ []) ≡ None → (u : List Token) → form (t ∷ u) ≡ None

numbered_last : (form : Form) (limits : Limits) (first m digits : ℕ) (rest : List Token) (b : Bool) → IsLast form limits first → (nat_le first m && nat_le m limits.high) ≡ b → Exact form (number m digits ∷ rest) (if b then after_range first m m rest else Err (number m digits ∷ rest))
numbered_last form limits first m digits rest true f e =
    exact_behind form (number m digits) rest (after_range first m m rest) (range_exact (behind form (number m digits)) first m m (f.good m digits e) (f.no_dash m digits) rest)
numbered_last form limits first m digits rest false f e = wrong form (number m digits) rest (number first 1 ∷ []) (counted first first 1) f.begins (f.bad m digits e)

pub last_exact : (form : Form) (limits : Limits) (first : ℕ) → IsLast form limits first → (all : List Token) → Exact form all (last_at limits first all)
last_exact form limits first f [] = short form (number first 1 ∷ []) (counted first first 1) f.begins f.none
last_exact form limits first f (number m digits ∷ rest) = numbered_last form limits first m digits rest (nat_le first m && nat_le m limits.high) f refl
last_exact form limits first f (star ∷ rest) = wrong form star rest (number first 1 ∷ []) (counted first first 1) f.begins (f.other star refl)
last_exact form limits first f (dash ∷ rest) = wrong form dash rest (number first 1 ∷ []) (counted first first 1) f.begins (f.other dash refl)
last_exact form limits first f (slash ∷ rest) = wrong form slash rest (number first 1 ∷ []) (counted first first 1) f.begins (f.other slash refl)
last_exact form limits first f (other ∷ rest) = wrong form other rest (number first 1 ∷ []) (counted first first 1) f.begins (f.other other refl)

-- ---- what follows the first number

pub first_exact : (form : Form) (limits : Limits) (first : ℕ) → IsRange form first first limits.high → IsLast (behind form dash) limits first → (all : List Token) → Exact form all (after_first limits first all)
first_exact form limits first f l [] = f.whole
first_exact form limits first f l (number n digits ∷ rest) = wrong form (number n digits) rest [] (counted first first 1) f.whole (f.no_number n digits)
first_exact form limits first f l (star ∷ rest) = wrong form star rest [] (counted first first 1) f.whole f.no_star
first_exact form limits first f l (dash ∷ rest) = exact_behind form dash rest (last_at limits first rest) (last_exact (behind form dash) limits first l rest)
first_exact form limits first f l (slash ∷ rest) = exact_behind form slash rest (stepped first limits.high (step_at rest)) (step_exact (behind form slash) first limits.high f.step rest)
first_exact form limits first f l (other ∷ rest) = wrong form other rest [] (counted first first 1) f.whole f.no_other
