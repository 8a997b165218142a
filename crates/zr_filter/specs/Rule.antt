-- Which entry of a filter counts for a path.
use Rattle.std.specs.Prelude.{◌≡◌, ℕ, suc, ◌+◌, ◌-◌, ◌==◌, ◌&&◌, ◌||◌, Bool, true, false, not, if◌then◌else◌, List, Option, Some, None, nat_eq, nat_lt, max, length, slice_get, slice_index, filter, fold}
use Rattle.std.specs.List.{starts_with, list_any}
use Rattle.std.specs.Cmp.Lexicographic.{pointwise}
use Rattle.zr_filter.specs.declared.entry.Among.{Among}
use Rattle.zr_filter.specs.declared.entry.Among.TheVariants.{All, Subtrees}
use Rattle.zr_filter.specs.declared.entry.FilterEntry.{FilterEntry}
use Rattle.zr_filter.specs.declared.filter.Filter.{Filter}

-- the path lies below a root: it begins with the root, and a `/` follows
abbrev pub lies_below : List ℕ → List ℕ → Bool
lies_below root path = starts_with nat_eq path root && (slice_index path (length root) == 47)

-- the path is this root or lies below it
abbrev pub is_within : List ℕ → List ℕ → Bool
is_within root path = pointwise nat_eq path root || lies_below root path

-- the path of an entry passes a test, or there is none
abbrev pub path_passes : (List ℕ → Bool) → Bool → Option (List ℕ) → Bool
path_passes test without None = without
path_passes test without (Some path) = test path

-- an entry without `<` whose path is this path
abbrev pub is_exact : List ℕ → FilterEntry → Bool
is_exact path entry = not entry.subtree && path_passes (λ own. pointwise nat_eq path own) false entry.path

-- a subtree entry whose path is this path or an ancestor of it; `<` alone is above every path
abbrev pub covers : List ℕ → FilterEntry → Bool
covers path entry = entry.subtree && path_passes (λ root. is_within root path) true entry.path

-- the length of an entry's path, `<` alone being the shortest
abbrev pub root_length : Option (List ℕ) → ℕ
root_length None = 0
root_length (Some root) = length root

-- how closely a subtree entry speaks of a path: 0 is not at all
abbrev pub subtree_rank : List ℕ → FilterEntry → ℕ
subtree_rank path entry = if covers path entry then suc (root_length entry.path) else 0

-- how closely an entry speaks of a path: an exact entry more than each subtree entry
abbrev pub rank : List ℕ → FilterEntry → ℕ
rank path entry = if is_exact path entry then length path + 2 else subtree_rank path entry

-- the same among all entries or among subtree entries
abbrev pub rank_among : Among → List ℕ → FilterEntry → ℕ
rank_among All path = rank path
rank_among Subtrees path = subtree_rank path

-- the greatest rank, or 0
abbrev pub greatest : {X : Type 0} → (X → ℕ) → List X → ℕ
greatest rank xs = fold (λ top x. max top (rank x)) 0 xs

-- those that have a rank, other than 0
abbrev pub ranked_at : {X : Type 0} → (X → ℕ) → ℕ → List X → List X
ranked_at rank top xs = filter (λ x. nat_lt 0 (rank x) && (rank x == top)) xs

-- the last of a list
abbrev pub last_of : {X : Type 0} → List X → Option X
last_of xs = slice_get xs (length xs - 1)

-- the entry that counts: of those with the greatest rank the last
unfoldable pub counting : {X : Type 0} → (X → ℕ) → List X → Option X
counting rank xs = last_of (ranked_at rank (greatest rank xs) xs)

-- an entry's answer, and false where none counts
abbrev pub allows : Option FilterEntry → Bool
allows None = false
allows (Some entry) = entry.allow

-- whether a filter matches a path
abbrev pub matches : Filter → List ℕ → Bool
matches filter path = allows (counting (rank path) filter.entries)

-- an entry that allows, and whose path is this root or lies below it
abbrev pub allows_within : List ℕ → FilterEntry → Bool
allows_within root entry = entry.allow && path_passes (λ path. is_within root path) false entry.path

-- whether a filter may match a path at or below a root
abbrev pub reaches : Filter → List ℕ → Bool
reaches filter root =
    allows (counting (subtree_rank root) filter.entries)
    || list_any (allows_within root) filter.entries

-- a filter matches neither a root nor a path below it
abbrev pub MatchesNothingWithin : Filter → List ℕ → Type 0
MatchesNothingWithin filter root = (path : List ℕ) → is_within root path ≡ true → matches filter path ≡ false
