-- The items of a field, one after the other.
use Rattle.std.proofs.Common.{◌≡◌, ℕ, ◌+◌, ◌<◌, ◌≤◌, inr, Bool, true, false, ◌||◌, ◌&&◌, nat_le, List, [], ◌∷◌, length, Option, Some, refl, sym, ap, subst, ◌∙◌, arith}
use Rattle.std.specs.List.{list_any, AllByRecursion}
use Rattle.std.proofs.lemmas.Bool.Decides.{nat_tests}
use Rattle.zr_schedule.specs.declared.item.Limits.{Limits}
use Rattle.zr_schedule.specs.declared.item.Item.{Item}
use Rattle.zr_schedule.specs.Tokens.{Token, number, star, dash, slash, tokens}
use Rattle.zr_schedule.specs.Words.{parted, is_comma}
use Rattle.zr_schedule.specs.Cron.{counted, is_in, item_if, item_of, item_has, some_has, IsItem, IsField, field_has}
use Rattle.zr_schedule.proofs.Tokens.{front_of_text}
use Rattle.zr_schedule.specs.Fault.{IsItemFault, IsPartFault, IsFieldFault, IsNextField, IsWordFault, IsFaultAt}
use Rattle.zr_schedule.specs.declared.read.CronFault.{CronFault}
use Rattle.zr_schedule.specs.declared.read.CronFault.TheVariants.{BadCron}

-- ---- the numbers of an item

abbrev pub IsSmall : Limits → Item → Type 0
IsSmall limits item = (item.last ≤ limits.high) × (0 < item.step)

small_if : (limits : Limits) (test : Bool) (x item : Item) → item_if test x ≡ Some item → (test ≡ true → IsSmall limits x) → IsSmall limits item
small_if limits true x item e h = let same : x ≡ item = cc in subst (IsSmall limits) same (h refl)
small_if limits false x item e h = absurd cc

small_some : (limits : Limits) (x item : Item) → Some x ≡ Some item → IsSmall limits x → IsSmall limits item
small_some limits x item e h = let same : x ≡ item = cc in subst (IsSmall limits) same h

number_small : (limits : Limits) (n : ℕ) → is_in limits n ≡ true → IsSmall limits (counted n n 1)
number_small limits n h = (grind (arith, nat_tests), grind (arith, nat_tests))

stepped_small : (limits : Limits) (n s : ℕ) (b : Bool) → (b && nat_le 1 s) ≡ true → IsSmall limits (counted n limits.high s)
stepped_small limits n s b h = (omega arith, grind (arith, nat_tests))

range_small : (limits : Limits) (n m : ℕ) (b : Bool) → (b && (nat_le n m && nat_le m limits.high)) ≡ true → IsSmall limits (counted n m 1)
range_small limits n m b h = (grind (arith, nat_tests), omega arith)

stepped_range_small : (limits : Limits) (n m s : ℕ) (b : Bool) → (b && ((nat_le n m && nat_le m limits.high) && nat_le 1 s)) ≡ true → IsSmall limits (counted n m s)
stepped_range_small limits n m s b h = (grind (arith, nat_tests), grind (arith, nat_tests))

pub item_small : (limits : Limits) (all : List Token) (item : Item) → item_of limits all ≡ Some item → IsSmall limits item
item_small limits (star ∷ []) item e = small_some limits (counted limits.low limits.high 1) item e (omega arith, omega arith)
item_small limits (star ∷ slash ∷ number s _ ∷ []) item e = small_if limits (nat_le 1 s) (counted limits.low limits.high s) item e (stepped_small limits limits.low s true)
item_small limits (number n _ ∷ []) item e = small_if limits (is_in limits n) (counted n n 1) item e (number_small limits n)
item_small limits (number n _ ∷ slash ∷ number s _ ∷ []) item e = small_if limits (is_in limits n && nat_le 1 s) (counted n limits.high s) item e (stepped_small limits n s (is_in limits n))
item_small limits (number n _ ∷ dash ∷ number m _ ∷ []) item e = small_if limits (is_in limits n && (nat_le n m && nat_le m limits.high)) (counted n m 1) item e (range_small limits n m (is_in limits n))
item_small limits (number n _ ∷ dash ∷ number m _ ∷ slash ∷ number s _ ∷ []) item e =
    small_if limits (is_in limits n && ((nat_le n m && nat_le m limits.high) && nat_le 1 s)) (counted n m s) item e (stepped_range_small limits n m s (is_in limits n))
item_small limits _ item e = absurd cc

-- ---- the first item of a field, and those behind it

pub next_good : (limits : Limits) (text part : List ℕ) (parts : List (List ℕ)) (item : Item) → parted is_comma text ≡ part ∷ parts → item_of limits (tokens part) ≡ Some item → AllByRecursion (λ p. IsItem limits (tokens p)) parts → IsField limits text
next_good limits text part parts item e good more = subst (AllByRecursion (λ p. IsItem limits (tokens p))) (sym e) ((item, good), more)

pub next_values : (limits : Limits) (text part : List ℕ) (parts : List (List ℕ)) (item : Item) (n : ℕ) → parted is_comma text ≡ part ∷ parts → item_of limits (tokens part) ≡ Some item → field_has limits text n ≡ (item_has item n || list_any (λ p. some_has (item_of limits (tokens p)) n) parts)
next_values limits text part parts item n e good =
    ap (list_any (λ p. some_has (item_of limits (tokens p)) n)) e ∙ ap (λ (o : Option Item). some_has o n || list_any (λ p. some_has (item_of limits (tokens p)) n) parts) good

pub next_fault : (limits : Limits) (text part : List ℕ) (parts : List (List ℕ)) (item : Item) (place : ℕ) → parted is_comma text ≡ part ∷ parts → item_of limits (tokens part) ≡ Some item → IsPartFault limits parts place → IsFieldFault limits text (length part + 1 + place)
next_fault limits text part parts item place e good fault =
    subst (λ (all : List (List ℕ)). IsPartFault limits all (length part + 1 + place)) (sym e) (inr ((item, good), (place, fault, refl)))

pub fault_within : (limits : Limits) (part : List ℕ) (place : ℕ) → IsItemFault limits part place → place ≤ length part
fault_within limits part place fault = let h = front_of_text fault.0 part in let e = fault.2 in omega (arith, h, e)

-- what a set, an item and the others have
pub joined : (a whole rest more item_of both values : Bool) → whole ≡ (a || rest) → rest ≡ (item_of || more) → values ≡ item_of → both ≡ (a || values) → whole ≡ (both || more)
joined true whole rest more item_of both values e f g h = e ∙ sym (ap (λ x. x || more) h)
joined false whole rest more item_of both values e f g h = e ∙ f ∙ sym (ap (λ x. x || more) (h ∙ g))

-- ---- the fields of a text

pub fault_later : {all behind : List (List ℕ)} {set : ℕ} (limits : Limits) (more : List Limits) (at : ℕ) (fault : CronFault) → IsNextField limits all set behind → IsFaultAt more behind (at + 1) fault → IsFaultAt (limits ∷ more) all at fault
fault_later {all} limits more at (BadCron field place) next fault =
    subst (λ (w : List (List ℕ)). IsWordFault (limits ∷ more) w at field place) (sym next.parts) (inr (next.good, fault))
