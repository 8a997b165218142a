use Rattle.std.specs.Prelude.{ℕ, List, ◌∷◌, ◌++◌, codes}
use Rattle.std.specs.Fmt.{decimal}
use Rattle.zr_names.specs.declared.totals.Totals.{Totals}

-- `name=value`
unfoldable pub field : List ℕ → ℕ → List ℕ
field name value = name ++ 61 ∷ decimal value

-- what was due, done, and coalesced with its like; snapshots and steps of replication
unfoldable pub units_text : Totals → List ℕ
units_text t =
    field (codes "due") t.due ++ 32 ∷ field (codes "done") t.done ++ 32 ∷ field (codes "coalesced") t.coalesced
    ++ 32 ∷ field (codes "taken") t.taken ++ 32 ∷ field (codes "fresh") t.fresh

unfoldable pub steps_text : Totals → List ℕ
steps_text t =
    field (codes "steps") t.steps ++ 32 ∷ field (codes "uptodate") t.uptodate
    ++ 32 ∷ field (codes "conflicts") t.conflicts ++ 32 ∷ field (codes "destroyed") t.destroyed
    ++ 32 ∷ field (codes "busy") t.busy

unfoldable pub places_text : Totals → List ℕ
places_text t =
    field (codes "placeholders") t.placeholders ++ 32 ∷ field (codes "toolong") t.toolong

unfoldable pub ends_text : Totals → List ℕ
ends_text t =
    field (codes "faults") t.faults ++ 32 ∷ field (codes "garbled") t.garbled
    ++ 32 ∷ field (codes "nomemory") t.nomemory

-- the totals line: each field as `name=value`, parted by one space
abbrev pub totals_text : Totals → List ℕ
totals_text t = units_text t ++ 32 ∷ steps_text t ++ 32 ∷ places_text t ++ 32 ∷ ends_text t
