-- The units that wait by job: what passes a test, in the order of adding, as the list grows and shrinks.
use Rattle.std.proofs.Common.{◌≡◌, ◌||◌, ◌+◌, ◌<◌, ℕ, suc, Bool, true, false, cond, List, [], ◌∷◌, ◌++◌, count_by, drop, filter, get_or, length, remove, take, refl, sym, ap, ◌∙◌, subst, arith, append_assoc, add-one, drop-cons, length-append, take-append-drop}
use Rattle.std.specs.List.{list_any}
use Rattle.std.proofs.lemmas.Bool.{cond-false, cond-true, false_from_ne_true, false≢true}
use Rattle.std.proofs.lemmas.List.{drop_at, get_or_at, length_push, take_at}
use Rattle.std.proofs.lemmas.List.Elements.{filter-append}
use Rattle.std.proofs.lemmas.List.Sums.{length-filter}

any-filter-cons : {X : Type 0} (kept : Bool) (p : X → Bool) (x : X) (some all : List X) → (p x ≡ true → kept ≡ true) → list_any p some ≡ list_any p all → list_any p (cond kept (x ∷ some) some) ≡ (p x || list_any p all)
any-filter-cons true p x some all only same = ap (λ (rest : Bool). p x || rest) same
any-filter-cons false p x some all only same =
    same ∙ sym (ap (λ (here : Bool). here || list_any p all) (false_from_ne_true (p x) (λ yes. false≢true (only yes))))

-- a test that passes only what is kept passes the same behind the filter
pub any-filter : {X : Type 0} (p q : X → Bool) (xs : List X) → ((x : X) → p x ≡ true → q x ≡ true) → list_any p (filter q xs) ≡ list_any p xs
any-filter p q [] only = refl
any-filter p q (x ∷ xs) only = any-filter-cons (q x) p x (filter q xs) xs (only x) (any-filter p q xs only)

pub filter-push : {X : Type 0} (q : X → Bool) (xs : List X) (x : X) → filter q (xs ++ x ∷ []) ≡ filter q xs ++ cond (q x) (x ∷ []) []
filter-push q xs x = filter-append q xs (x ∷ [])

-- a list at a place
split-at : {X : Type 0} (xs : List X) (k : ℕ) (x : X) → k < length xs → get_or xs k x ≡ x → xs ≡ take k xs ++ x ∷ drop (suc k) xs
split-at xs k x within is =
    let front = take-append-drop k xs in
    let behind = drop-cons xs k x within in
    cc

-- what is removed is the one in the middle
remove-middle : {X : Type 0} (before behind : List X) (x : X) (n : ℕ) → length before ≡ n → remove (before ++ x ∷ behind) n ≡ before ++ behind
remove-middle before behind x n long =
    let push = append_assoc before (x ∷ []) behind in
    let front = take_at before (x ∷ behind) n long in
    let back = drop_at (before ++ x ∷ []) behind (suc n) (length_push before x ∙ ap (λ (m : ℕ). m + 1) long ∙ add-one n) in
    rw front (ap (λ (ys : List _). before ++ ys) (subst (λ (ys : List _). drop (suc n) ys ≡ behind) push back))

filter-middle : {X : Type 0} (q : X → Bool) (xs : List X) (k : ℕ) (x : X) → k < length xs → get_or xs k x ≡ x → filter q xs ≡ filter q (take k xs) ++ cond (q x) (x ∷ filter q (drop (suc k) xs)) (filter q (drop (suc k) xs))
filter-middle q xs k x within is =
    ap (filter q) (split-at xs k x within is) ∙ filter-append q (take k xs) (x ∷ drop (suc k) xs)

-- what is kept leaves its place in the filter: that of how many were kept before it
pub filter-remove : {X : Type 0} (q : X → Bool) (xs : List X) (k : ℕ) (x : X) → k < length xs → get_or xs k x ≡ x → q x ≡ true → filter q (remove xs k) ≡ remove (filter q xs) (count_by q (take k xs))
filter-remove q xs k x within is kept =
    filter-append q (take k xs) (drop (suc k) xs)
    ∙ sym (remove-middle (filter q (take k xs)) (filter q (drop (suc k) xs)) x (count_by q (take k xs)) (length-filter q (take k xs)))
    ∙ ap (λ (ys : List _). remove ys (count_by q (take k xs))) (sym (filter-middle q xs k x within is ∙ ap (λ (ys : List _). filter q (take k xs) ++ ys) (cond-true (q x) (x ∷ filter q (drop (suc k) xs)) (filter q (drop (suc k) xs)) kept)))

-- what is not kept leaves the filter as it is
pub filter-remove_other : {X : Type 0} (q : X → Bool) (xs : List X) (k : ℕ) (x : X) → k < length xs → get_or xs k x ≡ x → q x ≡ false → filter q (remove xs k) ≡ filter q xs
filter-remove_other q xs k x within is left =
    filter-append q (take k xs) (drop (suc k) xs)
    ∙ sym (filter-middle q xs k x within is ∙ ap (λ (ys : List _). filter q (take k xs) ++ ys) (cond-false (q x) (x ∷ filter q (drop (suc k) xs)) (filter q (drop (suc k) xs)) left))

-- and it is what stands there
pub filter-there : {X : Type 0} (q : X → Bool) (xs : List X) (k : ℕ) (x d : X) → k < length xs → get_or xs k x ≡ x → q x ≡ true → (count_by q (take k xs) < length (filter q xs)) × (get_or (filter q xs) (count_by q (take k xs)) d ≡ x)
filter-there q xs k x d within is kept =
    let split = filter-middle q xs k x within is ∙ ap (λ (ys : List _). filter q (take k xs) ++ ys) (cond-true (q x) (x ∷ filter q (drop (suc k) xs)) (filter q (drop (suc k) xs)) kept) in
    let before = length-filter q (take k xs) in
    let all = ap length split ∙ length-append (filter q (take k xs)) (x ∷ filter q (drop (suc k) xs)) in
    (omega arith, ap (λ (ys : List _). get_or ys (count_by q (take k xs)) d) split ∙ get_or_at (filter q (take k xs)) x (filter q (drop (suc k) xs)) d (count_by q (take k xs)) before)
