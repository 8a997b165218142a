-- Runs of the reader over symbols.
use Rattle.std.proofs.Common.{◌≡◌, ◌⊎◌, ℕ, ◌<◌, ◌≤◌, Bool, true, false, List, [], ◌∷◌, ◌++◌, length, map, Option, Some, None, refl, ap, ◌∙◌, arith}
use Rattle.std.proofs.lemmas.Bool.Decides.{nat_tests}
use Rattle.zr_names.specs.Tree.{Tree, Items, no_items, item, Members, no_members, member, items_of, members_of}
use Rattle.zr_yaml.specs.declared.symbols.Piece.{Piece}
use Rattle.zr_yaml.specs.declared.symbols.Symbol.{Symbol}
use Rattle.zr_yaml.specs.declared.symbols.Symbol.TheVariants.{More}
use Rattle.zr_yaml.specs.Document.{PairList}
use Rattle.zr_yaml.specs.Reading.{Frame, State, closed, ended, has_room, symbol_step, symbols_step, then_symbols}

abbrev pub at : List Frame → Option Tree → State
at frames slot = record { frames = frames; slot = slot }

-- ---- lists of trees

abbrev pub list_of : Items → List Tree
list_of no_items = []
list_of (item t ts) = t ∷ list_of ts

abbrev pub pair_list : Members → PairList
pair_list no_members = []
pair_list (member k t ms) = (k, t) ∷ pair_list ms

pub items_of-list : (ts : Items) → items_of (list_of ts) ≡ ts
items_of-list no_items = refl
items_of-list (item t ts) = ap (item t) (items_of-list ts)

pub members_of-list : (ms : Members) → members_of (pair_list ms) ≡ ms
members_of-list no_members = refl
members_of-list (member k t ms) = ap (member k t) (members_of-list ms)

-- ---- one run after another

both : (a b : List Symbol) (s : Option State) →
    ((x : State) → symbols_step x (a ++ b) ≡ then_symbols (λ y. symbols_step y b) (symbols_step x a))
    → then_symbols (λ y. symbols_step y (a ++ b)) s
    ≡ then_symbols (λ y. symbols_step y b) (then_symbols (λ y. symbols_step y a) s)
both a b None h = refl
both a b (Some x) h = h x

pub run_append : (a b : List Symbol) (s : State) →
    symbols_step s (a ++ b) ≡ then_symbols (λ y. symbols_step y b) (symbols_step s a)
run_append [] b s = refl
run_append (x ∷ a) b s = both a b (symbol_step s x) (run_append a b)

pub run_on : (a b : List Symbol) (s x : State) → symbols_step s a ≡ Some x → symbols_step s (a ++ b) ≡ symbols_step x b
run_on a b s x e = run_append a b s ∙ ap (then_symbols (λ y. symbols_step y b)) e

pub run_one : (symbol : Symbol) (b : List Symbol) (s x : State) → symbol_step s symbol ≡ Some x →
    symbols_step s (symbol ∷ b) ≡ symbols_step x b
run_one symbol b s x e = ap (then_symbols (λ y. symbols_step y b)) e

-- ---- pieces, and then symbols

abbrev pub mored : List Piece → List Symbol → List Symbol
mored [] rest = rest
mored (p ∷ ps) rest = More p ∷ mored ps rest

pub mored_append : (a b : List Piece) (rest : List Symbol) → mored (a ++ b) rest ≡ mored a (mored b rest)
mored_append [] b rest = refl
mored_append (p ∷ a) b rest = ap (λ r. More p ∷ r) (mored_append a b rest)

pub mored_map : (ps : List Piece) → mored ps [] ≡ map More ps
mored_map [] = refl
mored_map (p ∷ ps) = ap (λ r. More p ∷ r) (mored_map ps)

-- ---- room

pub has_room_true : (frames : List Frame) → length frames < 32 → has_room frames ≡ true
has_room_true frames h = grind (arith, nat_tests)

pub room_true : (frames : List Frame) → has_room frames ≡ true → length frames < 32
room_true frames h = grind (arith, nat_tests)

-- ---- a state that stands for frames and a node, for symbols at certain columns

abbrev pub Stands : (ℕ → Bool → Type 0) → State → List Frame → Option Tree → Type 0
Stands P x frames slot =
    ((c : ℕ) (dashed : Bool) → P c dashed → closed c dashed x.frames x.slot ≡ closed c dashed frames slot)
    × (ended x.frames x.slot ≡ ended frames slot)

abbrev pub AtMost : ℕ → ℕ → Bool → Type 0
AtMost i c dashed = c ≤ i

abbrev pub Before : ℕ → ℕ → Bool → Type 0
Before i c dashed = c < i

abbrev pub Ends : ℕ → ℕ → Bool → Type 0
Ends i c dashed = (c < i) ⊎ ((c ≡ i) × (dashed ≡ false))

abbrev pub Ran : State → List Symbol → (ℕ → Bool → Type 0) → List Frame → Option Tree → Type 0
Ran s symbols P frames slot = (x : State) × (symbols_step s symbols ≡ Some x) × Stands P x frames slot
