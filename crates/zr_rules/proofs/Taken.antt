-- The front of a list, as a loop takes it.
use Rattle.std.proofs.Common.{◌≡◌, ℕ, ◌+◌, ◌<◌, ◌≤◌, List, [], ◌∷◌, ◌++◌, length, get_or, take, map, sym, subst, ap, ◌∙◌}
use Rattle.std.specs.Prelude.{All}
use Rattle.std.proofs.lemmas.List.{take_more, take_all, map_push}
use Rattle.std.proofs.lemmas.List.Elements.{All-push}

pub All-more : {X : Type 0} (P : X → Type 0) (xs : List X) (i : ℕ) (x : X) → i < length xs → x ≡ get_or xs i x → All P (take i xs) → P x → All P (take (i + 1) xs)
All-more P xs i x inside is before here =
    subst (All P) (sym (take_more xs i x inside)) (All-push P (take i xs) (get_or xs i x) before (subst P is here))

pub All-whole : {X : Type 0} (P : X → Type 0) (xs : List X) (i : ℕ) → length xs ≤ i → All P (take i xs) → All P xs
All-whole P xs i past all = subst (All P) (take_all i xs past) all

pub map-more : {X Y : Type 0} (f : X → Y) (xs new : List X) (x : X) (ys : List Y) (i : ℕ) (y : Y) → i < length ys → y ≡ get_or ys i y → map f xs ≡ take i ys → f x ≡ y → new ≡ xs ++ x ∷ [] → map f new ≡ take (i + 1) ys
map-more f xs new x ys i y inside is before here pushed =
    ap (map f) pushed ∙ map_push f xs x ∙ (λ k. before k ++ here k ∷ []) ∙ ap (λ z. take i ys ++ z ∷ []) is ∙ sym (take_more ys i y inside)
