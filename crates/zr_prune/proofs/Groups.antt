use Rattle.std.proofs.Common.{◌≡◌, ◌≢◌, ◌∙◌, ℕ, zero, suc, ◌+◌, ◌-◌, ◌*◌, ◌<◌, ◌≤◌, ◌⊎◌, List, [], ◌∷◌, ◌++◌, ap, refl, sym, subst, arith, get_or, length, map, min, take, drop, append_assoc, append-nil, length-append, inl, inr}
use Rattle.std.specs.Simd.{first_chunks}
use Rattle.std.specs.Slice.Iter.{chunk_count}
use Rattle.std.proofs.lemmas.Bool.{cases_lt}
use Rattle.std.specs.List.{All, AllPairs, Contains}
use Rattle.std.proofs.lemmas.List.Elements.{All-cons, All-nil, Contains-append_cases, Contains-append_left, Contains-append_right, Contains-get_or}
use Rattle.zr_command.specs.declared.command.Cmd.{Cmd}
use Rattle.std.proofs.lemmas.List.{drop_at, get_or-append_right, get_or-map, get_or_append_left, get_or_default, length-drop, length-map, length-take, nil_from_length, take-append-drop, take_all, take_at}
use Rattle.zr_prune.specs.Groups.{groups}

-- the names of some groups, put together in their order
abbrev pub names_in : List (List (List ℕ)) → List (List ℕ)
names_in [] = []
names_in (group ∷ more) = group ++ names_in more

-- some names make one group more than the names after the first 64
one-more : (n : ℕ) → 0 < n → chunk_count n 64 ≡ suc (chunk_count (n - 64) 64)
one-more n some = omega arith

nothing-left : (all : List (List ℕ)) → length all ≤ 64 → drop 64 all ≡ []
nothing-left all short = nil_from_length (drop 64 all) (length-drop 64 all ∙ omega arith)

-- the first group is the first 64 names, or all of them
first-taken : (all group rest : List (List ℕ)) → all ≡ group ++ rest → length group ≡ min 64 (length all)
    → (take 64 all ≡ group) × (drop 64 all ≡ rest)
first-taken all group rest parts size =
    let sum = ap length parts ∙ length-append group rest in
    elim (cases_lt (length all) 64) [
      | inl short ↦
          let none : rest ≡ [] = nil_from_length rest (omega arith) in
          let same : all ≡ group = parts ∙ ap (λ (r : List (List ℕ)). group ++ r) none ∙ append-nil group in
          (take_all 64 all (omega arith) ∙ same, nothing-left all (omega arith) ∙ sym none)
      | inr long ↦
          let whole : length group ≡ 64 = omega arith in
          (ap (take 64) parts ∙ take_at group rest 64 whole, ap (drop 64) parts ∙ drop_at group rest 64 whole)
    ]

-- names that begin with a group are grouped as it and the groups of the others
pub groups-more : (all group rest : List (List ℕ)) → all ≡ group ++ rest → length group ≡ min 64 (length all)
    → 0 < length all → groups all ≡ group ∷ groups rest
groups-more all group rest parts size some =
    let cut = first-taken all group rest parts size in
    let left : length all - 64 ≡ length rest = sym (length-drop 64 all) ∙ ap length cut.1 in
    ap (λ (n : ℕ). first_chunks 64 n all) (one-more (length all) some)
    ∙ ap (λ (first : List (List ℕ)). first ∷ first_chunks 64 (chunk_count (length all - 64) 64) (drop 64 all)) cut.0
    ∙ ap (λ (others : List (List ℕ)). group ∷ first_chunks 64 (chunk_count (length all - 64) 64) others) cut.1
    ∙ ap (λ (n : ℕ). group ∷ first_chunks 64 (chunk_count n 64) rest) left

-- no names make no group
pub groups-none : (rest : List (List ℕ)) → length rest ≡ 0 → groups rest ≡ []
groups-none rest none = ap groups (nil_from_length rest none)

joined : (count : ℕ) (all : List (List ℕ)) → length all ≤ count * 64 → names_in (first_chunks 64 count all) ≡ all
joined zero all few = sym (nil_from_length all (omega (arith, few)))
joined (suc count) all few =
    let fewer : length (drop 64 all) ≤ count * 64 = omega (arith, few, length-drop 64 all) in
    ap (λ (others : List (List ℕ)). take 64 all ++ others) (joined count (drop 64 all) fewer) ∙ take-append-drop 64 all

all-grouped : (n : ℕ) → n ≤ chunk_count n 64 * 64
all-grouped n = omega arith

-- groups put together are the names
pub groups-joined : (names : List (List ℕ)) → names_in (groups names) ≡ names
groups-joined names = joined (chunk_count (length names) 64) names (all-grouped (length names))

pub names_in-append : (xs ys : List (List (List ℕ))) → names_in (xs ++ ys) ≡ names_in xs ++ names_in ys
names_in-append [] ys = refl
names_in-append (x ∷ xs) ys =
    ap (λ (others : List (List ℕ)). x ++ others) (names_in-append xs ys) ∙ sym (append_assoc x (names_in xs) (names_in ys))

-- where these groups were taken from the front, the names are those in them and the rest
pub names-parted : (names rest : List (List ℕ)) (given : List (List (List ℕ)))
    → groups names ≡ given ++ groups rest → names ≡ names_in given ++ rest
names-parted names rest given parts =
    sym (groups-joined names) ∙ ap names_in parts ∙ names_in-append given (groups rest)
    ∙ ap (λ (others : List (List ℕ)). names_in given ++ others) (groups-joined rest)

-- a name of some group is among the names of all
pub name-of-group : (given : List (List (List ℕ))) (k : ℕ) (d : List (List ℕ)) (name : List ℕ)
    → k < length given → Contains (get_or given k d) name → Contains (names_in given) name
name-of-group [] k d name inside has = absurd (omega (arith, inside))
name-of-group (group ∷ given) zero d name inside has = Contains-append_left group (names_in given) name has
name-of-group (group ∷ given) (suc k) d name inside has =
    Contains-append_right group (names_in given) name (name-of-group given k d name (omega (arith, inside)) has)

-- a group of some that has a name
abbrev HasGroup : List (List (List ℕ)) → List ℕ → Type 0
HasGroup given name = (group : List (List ℕ)) × Contains given group × Contains group name

-- a name among those of all is one of some group
pub group-of-name : (given : List (List (List ℕ))) (name : List ℕ) → Contains (names_in given) name
    → HasGroup given name
group-of-name [] name (k, inside, at) = absurd (omega (arith, inside))
group-of-name (group ∷ given) name has =
    elim (Contains-append_cases group (names_in given) name has) [
      | inl first ↦ (group, Contains-get_or (group ∷ given) 0 group (omega arith), first)
      | inr later ↦
          let found = group-of-name given name later in
          (found.0, Contains-append_right (group ∷ []) given found.0 found.1, found.2)
    ]

pub contains-map : (f : List (List ℕ) → Cmd) (given : List (List (List ℕ))) (group : List (List ℕ))
    → Contains given group → Contains (map f given) (f group)
contains-map f given group (k, inside, at) =
    (k, omega (arith, inside, length-map given f), get_or-map f given k group (f group) inside ∙ ap f at)

-- names that stand behind others and before a rest
at-middle : (before group rest : List (List ℕ)) (k : ℕ) (d : List ℕ) → k < length group
    → get_or (before ++ (group ++ rest)) (length before + k) d ≡ get_or group k d
at-middle before group rest k d inside =
    let place : length before + k - length before ≡ k = omega arith in
    get_or-append_right before (group ++ rest) (length before) (length before + k) d refl (omega arith)
    ∙ ap (λ (n : ℕ). get_or (group ++ rest) n d) place ∙ get_or_append_left group rest d k inside

whole-length : (before group rest : List (List ℕ))
    → length (before ++ (group ++ rest)) ≡ length before + (length group + length rest)
whole-length before group rest =
    length-append before (group ++ rest) ∙ ap (λ (n : ℕ). length before + n) (length-append group rest)

-- a part of different names has different names
pub middle-differs : (names before group rest : List (List ℕ)) → names ≡ before ++ (group ++ rest)
    → AllPairs (λ a b. a ≢ b) names → AllPairs (λ a b. a ≢ b) group
middle-differs names before group rest parts differ i j d below inside e =
    let all = subst (λ (ns : List (List ℕ)). AllPairs (λ a b. a ≢ b) ns) parts differ in
    all (length before + i) (length before + j) d (omega (arith, below)) (omega (arith, inside, whole-length before group rest))
    (at-middle before group rest i d (omega (arith, below, inside)) ∙ e ∙ sym (at-middle before group rest j d inside))

-- and none of them stands before
pub before-other : (names before group rest : List (List ℕ)) → names ≡ before ++ (group ++ rest)
    → AllPairs (λ a b. a ≢ b) names → (k : ℕ) (d : List ℕ) → k < length group
    → Contains before (get_or group k d) → ⊥
before-other names before group rest parts differ k d inside (i, low, at) =
    let all = subst (λ (ns : List (List ℕ)). AllPairs (λ a b. a ≢ b) ns) parts differ in
    let name = get_or group k d in
    all i (length before + k) d (omega (arith, low)) (omega (arith, inside, whole-length before group rest))
    (get_or_append_left before (group ++ rest) d i low ∙ get_or_default before i d name low ∙ at ∙ sym (at-middle before group rest k d inside))

pub among-middle : (before group rest : List (List ℕ)) → All (Contains (before ++ (group ++ rest))) group
among-middle before group rest = λ k d inside.
    Contains-append_right before (group ++ rest) (get_or group k d)
    (Contains-append_left group rest (get_or group k d) (Contains-get_or group k d inside))

chunks-some : (count : ℕ) (all : List (List ℕ)) → (count - 1) * 64 < length all ⊎ (count ≡ 0)
    → All (λ (group : List (List ℕ)). 0 < length group) (first_chunks 64 count all)
chunks-some zero all some = All-nil (λ (group : List (List ℕ)). 0 < length group)
chunks-some (suc count) all some =
    All-cons (λ (group : List (List ℕ)). 0 < length group) (take 64 all) (first_chunks 64 count (drop 64 all))
    (omega (arith, first-some count (length all) some, length-take 64 all))
    (chunks-some count (drop 64 all) (later-some count all some))
  where
    first-some : (n len : ℕ) → (suc n - 1) * 64 < len ⊎ (suc n ≡ 0) → 0 < len
    first-some n len (inl below) = omega (arith, below)
    first-some n len (inr none) = absurd (omega (arith, none))

    later-some : (n : ℕ) (all : List (List ℕ)) → (suc n - 1) * 64 < length all ⊎ (suc n ≡ 0)
        → (n - 1) * 64 < length (drop 64 all) ⊎ (n ≡ 0)
    later-some zero all below = inr refl
    later-some (suc n) all (inl below) = inl (omega (arith, below, length-drop 64 all))
    later-some (suc n) all (inr none) = absurd (omega (arith, none))

enough : (len : ℕ) → (chunk_count len 64 - 1) * 64 < len ⊎ (chunk_count len 64 ≡ 0)
enough len =
    elim (cases_lt 0 len) [
      | inl some ↦ inl (omega arith)
      | inr none ↦ inr (omega arith)
    ]

-- each group has a name
pub groups-some : (names : List (List ℕ)) → All (λ (group : List (List ℕ)). 0 < length group) (groups names)
groups-some names = chunks-some (chunk_count (length names) 64) names (enough (length names))
