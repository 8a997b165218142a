-- Rows as a pattern sees them, in an order.
use Rattle.std.proofs.Common.{◌≡◌, ℕ, ◌+◌, ◌<◌, List, [], ◌∷◌, ◌++◌, length, get_or, take, map, Option, sym, ap, ◌∙◌}
use Rattle.std.proofs.lemmas.List.{take_more, map_push, get_or-map}
use Rattle.zr_grid.specs.declared.kept.GridRow.{GridRow}
use Rattle.zr_rules.specs.declared.rule.RuleRow.{RuleRow}
use Rattle.zr_rules.specs.declared.ordering.Placed.{Placed}
use Rattle.zr_rules.specs.Keeps.{seen}
use Rattle.zr_rules.specs.Order.{no_row, in_places}

seen-at : (pattern : Option (List ℕ)) (rows : List RuleRow) (place : ℕ) (row : RuleRow) → place < length rows → row ≡ get_or rows place row → get_or (map (seen pattern) rows) place no_row ≡ seen pattern row
seen-at pattern rows place row inside is = get_or-map (seen pattern) rows place row no_row inside ∙ ap (seen pattern) (sym is)

-- one more row of an order
pub seen-more : (pattern : Option (List ℕ)) (rows : List RuleRow) (order : List Placed) (before after : List GridRow) (i : ℕ) (d : Placed) (row : RuleRow) (y : GridRow) → i < length order
    → (get_or order i d).place < length rows → row ≡ get_or rows (get_or order i d).place row → before ≡ in_places (map (seen pattern) rows) (take i order) → after ≡ before ++ y ∷ [] → y ≡ seen pattern row
    → after ≡ in_places (map (seen pattern) rows) (take (i + 1) order)
seen-more pattern rows order before after i d row y inside within is so_far pushed here =
    let f : Placed → GridRow = λ one. get_or (map (seen pattern) rows) one.place no_row in
    pushed ∙ (λ k. so_far k ++ (here ∙ sym (seen-at pattern rows (get_or order i d).place row within is)) k ∷ []) ∙ sym (map_push f (take i order) (get_or order i d)) ∙ ap (map f) (sym (take_more order i d inside))
