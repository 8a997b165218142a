use Rattle.std.proofs.Common.{◌≡◌, ℕ, zero, suc, ◌-◌, ◌<◌, ◌≤◌, ◌&&◌, Bool, true, false, List, [], ◌∷◌, ◌++◌, length, get_or, take, refl, arith, ap, ◌∙◌, sym, subst, length-append}
use Rattle.std.specs.Bool.{⊤}
use Rattle.std.proofs.lemmas.List.{get_or-take, length-take-le}
use Rattle.zr_names.specs.Marks.{tag_text}
use Rattle.zr_names.specs.Names.{path_is_bad, name_is_bad, token_is_bad}
use Rattle.zr_names.specs.declared.marks.TagKind.TheVariants.{Step}
use Rattle.zr_cmd.specs.Forms.{Suits, Pattern, fixed, a_path, a_snap, a_group, a_mark, same_snap, same_mark, a_tag, set_part, a_token}
use Rattle.zr_cmd.specs.Steps.{SuitsAt}
use Rattle.zr_cmd.specs.Words.{IsGroup, IsJob, IsPath, IsToken, IsVersion}
use Rattle.zr_cmd.proofs.Cut.{full, full-group, job-tag, set-of}

-- the words are as the patterns have them, as far as they go
abbrev pub Along : List Pattern → List ℕ → List (List ℕ) → Type 0
Along patterns before [] = ⊤
Along [] before (word ∷ words) = ⊥
Along (p ∷ patterns) before (word ∷ words) = Suits p before word × Along patterns word words

-- so many words at the front are as the patterns have them
pub record Front (patterns : List Pattern) (words : List (List ℕ)) (count : ℕ) : Type 0 where
  pub in_words : count ≤ length words
  pub in_patterns : count ≤ length patterns
  pub fits : (place : ℕ) → place < count → SuitsAt patterns words place

pub along-at : (ps : List Pattern) (b : List ℕ) (ws : List (List ℕ)) (i : ℕ) → Along ps b ws → i < length ws → Suits (get_or ps i a_path) (get_or (b ∷ ws) i []) (get_or ws i [])
along-at ps b [] i a inside = absurd (omega arith)
along-at [] b (w ∷ ws) i a inside = absurd a
along-at (p ∷ ps) b (w ∷ ws) zero a inside = a.0
along-at (p ∷ ps) b (w ∷ ws) (suc i) a inside = along-at ps w ws i a.1 (omega arith)

pub at-along : (ps : List Pattern) (b : List ℕ) (ws : List (List ℕ)) → length ws ≤ length ps → ((i : ℕ) → i < length ws → Suits (get_or ps i a_path) (get_or (b ∷ ws) i []) (get_or ws i [])) → Along ps b ws
at-along ps b [] short h = tt
at-along [] b (w ∷ ws) short h = absurd (omega arith)
at-along (p ∷ ps) b (w ∷ ws) short h = (h 0 (omega arith), at-along ps w ws (omega arith) (λ i inside. h (suc i) (omega arith)))

pub along-short : (ps : List Pattern) (b : List ℕ) (ws : List (List ℕ)) → Along ps b ws → length ws ≤ length ps
along-short ps b [] a = omega arith
along-short [] b (w ∷ ws) a = absurd a
along-short (p ∷ ps) b (w ∷ ws) a = let rest = along-short ps w ws a.1 in omega arith

moved : (p : Pattern) (a b v w : List ℕ) → a ≡ b → v ≡ w → Suits p a v → Suits p b w
moved p a b v w e h f = subst (λ (x : List ℕ). Suits p x w) e (subst (λ (y : List ℕ). Suits p a y) h f)

-- the word before a place after the first
pub back : (ws : List (List ℕ)) (i : ℕ) → get_or ws (suc i - 1) [] ≡ get_or ws i []
back ws i = ap (λ n. get_or ws n []) (omega arith)

before-same : (ws : List (List ℕ)) (k i : ℕ) → i < k → get_or ws (i - 1) [] ≡ get_or (get_or ws 0 [] ∷ take k ws) i []
before-same ws k zero inside = refl
before-same ws k (suc i) inside = back ws i ∙ sym (get_or-take k ws i [] (omega arith))

-- a front as a list of its own
pub front-along : (ps : List Pattern) (ws : List (List ℕ)) (k : ℕ) → Front ps ws k → Along ps (get_or ws 0 []) (take k ws)
front-along ps ws k f =
    let count : length (take k ws) ≡ k = length-take-le k ws f.in_words in
    let most = f.in_patterns in
    at-along ps (get_or ws 0 []) (take k ws) (omega arith) (λ i inside.
    let low : i < k = omega arith in
    moved (get_or ps i a_path) (get_or ws (i - 1) []) (get_or (get_or ws 0 [] ∷ take k ws) i []) (get_or ws i []) (get_or (take k ws) i [])
    (before-same ws k i low) (sym (get_or-take k ws i [] low)) (f.fits i low))

-- what begins with so many of the words is a front of them
pub along-front : (ps : List Pattern) (ws more : List (List ℕ)) (k : ℕ) → k ≤ length ws → Along ps (get_or ws 0 []) (take k ws ++ more) → Front ps ws k
along-front ps ws more k within a =
    let count : length (take k ws) ≡ k = length-take-le k ws within in
    let short = along-short ps (get_or ws 0 []) (take k ws ++ more) a in
    let whole = length-append (take k ws) more in
    record {
      in_words = within;
      in_patterns = omega arith;
      fits = λ i inside. moved (get_or ps i a_path) (get_or (get_or ws 0 [] ∷ (take k ws ++ more)) i []) (get_or ws (i - 1) []) (get_or (take k ws ++ more) i []) (get_or ws i [])
          (before-front i inside) (here i inside) (along-at ps (get_or ws 0 []) (take k ws ++ more) i a (omega arith));
    } where
      here : (i : ℕ) → i < k → get_or (take k ws ++ more) i [] ≡ get_or ws i []
      here i inside = front-of (take k ws) i (let count : length (take k ws) ≡ k = length-take-le k ws within in omega arith) ∙ get_or-take k ws i [] inside where
        front-of : (xs : List (List ℕ)) (i : ℕ) → i < length xs → get_or (xs ++ more) i [] ≡ get_or xs i []
        front-of [] i low = absurd (omega arith)
        front-of (x ∷ xs) zero low = refl
        front-of (x ∷ xs) (suc i) low = front-of xs i (omega arith)

      before-front : (i : ℕ) → i < k → get_or (get_or ws 0 [] ∷ (take k ws ++ more)) i [] ≡ get_or ws (i - 1) []
      before-front zero inside = refl
      before-front (suc i) inside = here i (omega arith) ∙ sym (back ws i)

-- a word of this pattern names its dataset
abbrev pub names_set : Pattern → Bool
names_set (fixed text) = false
names_set a_path = false
names_set a_snap = true
names_set a_group = true
names_set a_mark = true
names_set same_snap = true
names_set same_mark = true
names_set a_tag = false
names_set a_token = false

-- whether the pattern may stand behind one that names its dataset or doesn't
abbrev pub may_follow : Bool → Pattern → Bool
may_follow named (fixed text) = true
may_follow named a_path = true
may_follow named a_snap = true
may_follow named a_group = true
may_follow named a_mark = true
may_follow named same_snap = named
may_follow named same_mark = named
may_follow named a_tag = true
may_follow named a_token = true

abbrev pub is_chain : Bool → List Pattern → Bool
is_chain named [] = true
is_chain named (p ∷ ps) = may_follow named p && is_chain (names_set p) ps

named-set : (p : Pattern) (before word : List ℕ) → names_set p ≡ true → Suits p before word → IsPath (set_part word)
named-set (fixed text) before word e f = cc
named-set a_path before word e f = cc
named-set a_snap before word e f = f.is_path
named-set a_group before word e f = f.is_path
named-set a_mark before word e f = f.is_path
named-set same_snap before word e f = f.0.is_path
named-set same_mark before word e f = f.0.is_path
named-set a_tag before word e f = cc
named-set a_token before word e f = cc

first-place : (place : ℕ) → place < 1 → path_is_bad (97 ∷ []) place ≡ false
first-place zero inside = refl
first-place (suc k) inside = absurd (omega arith)

first-name : (place : ℕ) → place < 1 → name_is_bad (97 ∷ []) place ≡ false
first-name zero inside = refl
first-name (suc k) inside = absurd (omega arith)

-- `a` is a path and a name
path-a : IsPath (97 ∷ [])
path-a = record { not_empty = omega arith; not_long = omega arith; no_place_bad = first-place }

name-a : IsVersion (97 ∷ [])
name-a = record { not_empty = omega arith; not_long = omega arith; no_place_bad = first-name }

group-a : IsGroup ((97 ∷ []) ∷ [])
group-a = record {
  each = (name-a, tt);
  group = record { some = omega arith; few = omega arith; differ = λ i j d less inside. absurd (omega arith) };
}

job-a : IsJob (97 ∷ [])
job-a = record { not_empty = omega arith; not_long = omega arith; no_place_bad = first-name }

first-byte : (place : ℕ) → place < 1 → token_is_bad (97 ∷ []) place ≡ false
first-byte zero inside = refl
first-byte (suc k) inside = absurd (omega arith)

token-a : IsToken (97 ∷ [])
token-a = record { not_empty = omega arith; not_long = omega arith; no_place_bad = first-byte }

-- some word is as the pattern has it
fillable : (p prev : Pattern) (before word : List ℕ) → may_follow (names_set prev) p ≡ true → Suits prev before word → (w : List ℕ) × Suits p word w
fillable (fixed text) prev before word e f = (text, refl)
fillable a_path prev before word e f = (97 ∷ [], path-a)
fillable a_snap prev before word e f = (97 ∷ 64 ∷ 97 ∷ [], full (97 ∷ []) (97 ∷ []) 64 refl path-a name-a)
fillable a_group prev before word e f = (97 ∷ 64 ∷ 97 ∷ [], full-group (97 ∷ []) ((97 ∷ []) ∷ []) path-a group-a)
fillable a_mark prev before word e f = (97 ∷ 35 ∷ 97 ∷ [], full (97 ∷ []) (97 ∷ []) 35 refl path-a name-a)
fillable same_snap prev before word e f =
    let set = named-set prev before word e f in
    (set_part word ++ 64 ∷ 97 ∷ [], (full (set_part word) (97 ∷ []) 64 refl set name-a, set-of (set_part word) (97 ∷ []) 64 refl set))
fillable same_mark prev before word e f =
    let set = named-set prev before word e f in
    (set_part word ++ 35 ∷ 97 ∷ [], (full (set_part word) (97 ∷ []) 35 refl set name-a, set-of (set_part word) (97 ∷ []) 35 refl set))
fillable a_tag prev before word e f = (tag_text Step (97 ∷ []), job-tag Step (97 ∷ []) job-a)
fillable a_token prev before word e f = (97 ∷ [], token-a)

both : (x y : Bool) → (x && y) ≡ true → (x ≡ true) × (y ≡ true)
both true y e = (refl, e)
both false y e = cc

-- words that end what these begin
pub record Ending (ps : List Pattern) (b : List ℕ) (ws : List (List ℕ)) : Type 0 where
  pub more : List (List ℕ)
  pub along : Along ps b (ws ++ more)
  pub count : length (ws ++ more) ≡ length ps

-- a front can be gone on with to the end of the patterns
pub ending : (ps : List Pattern) (prev : Pattern) (before b : List ℕ) (ws : List (List ℕ)) → is_chain (names_set prev) ps ≡ true → Suits prev before b → Along ps b ws → Ending ps b ws
ending [] prev before b [] e f a = record { more = []; along = tt; count = refl }
ending [] prev before b (w ∷ ws) e f a = absurd a
ending (p ∷ ps) prev before b [] e f a =
    let chains = both (may_follow (names_set prev) p) (is_chain (names_set p) ps) e in
    let one = fillable p prev before b chains.0 f in
    let rest = ending ps p b one.0 [] chains.1 one.1 tt in
    record { more = one.0 ∷ rest.more; along = (one.1, rest.along); count = ap suc rest.count }
ending (p ∷ ps) prev before b (w ∷ ws) e f a =
    let chains = both (may_follow (names_set prev) p) (is_chain (names_set p) ps) e in
    let rest = ending ps p b w ws chains.1 a.0 a.1 in
    record { more = rest.more; along = (a.0, rest.along); count = ap suc rest.count }
