-- What holds of all names of a listing holds of those that pruning destroys.
use Rattle.std.proofs.Common.{◌≡◌, ◌≢◌, ◌∙◌, ◌==◌, ◌&&◌, ℕ, ◌+◌, Bool, true, false, not, List, [], ◌∷◌, ◌++◌, Option, ap, refl, sym}
use Rattle.std.specs.Bool.{if◌then◌else◌}
use Rattle.std.specs.List.{All, AllPairs}
use Rattle.std.proofs.lemmas.List.Elements.{All-cons, All-head, All-nil, All-tail}
use Rattle.std.proofs.lemmas.List.Kept.{AllPairs-cons}
use Rattle.zr_base.proofs.Lists.{AllPairs-head, AllPairs-nil, AllPairs-tail}
use Rattle.zr_command.specs.Kinds.{is_snap, names_snap}
use Rattle.zr_command.specs.declared.version.VersionName.{VersionName}
use Rattle.zr_command.specs.declared.version.VersionName.TheVariants.{Snap, Mark}
use Rattle.zr_command.specs.declared.version.VersionRow.{VersionRow}
use Rattle.zr_rules.specs.declared.rule.RuleRow.{RuleRow}
use Rattle.zr_rules.specs.declared.rule.RuleSpec.{RuleSpec}
use Rattle.zr_rules.specs.Keeps.{retained}
use Rattle.zr_permit.specs.Keep.{cursor_txg, doomed, going_from, gone, rule_row, snaps_of, text_of}

-- a row names this snapshot only where P holds of it
abbrev pub Names : (List ℕ → Type 0) → VersionRow → Type 0
Names P row = (name : List ℕ) → row.name ≡ Snap name → P name

-- a snapshot's name is that of a snapshot
pub snap-named : (name : VersionName) → names_snap name ≡ true → name ≡ Snap (text_of name)
snap-named (Snap name) e = refl
snap-named (Mark name) e = cc

gone-All : (P : List ℕ → Type 0) (kept : Bool) (row : VersionRow) (rest : List (List ℕ)) → P (text_of row.name) → All P rest → All P (gone kept row ++ rest)
gone-All P kept row rest holds each = choose ((row.refs == 0) && not kept) where
  choose : (b : Bool) → All P ((if b then text_of row.name ∷ [] else []) ++ rest)
  choose true = All-cons P (text_of row.name) rest holds each
  choose false = each

-- what holds of all names of snapshots holds of those that go
going_from-All : (P : List ℕ → Type 0) (rules : List RuleSpec) (snaps : List RuleRow) (cursor : Option ℕ) (place : ℕ) (rows : List VersionRow) → All (Names P) rows → All P (going_from rules snaps cursor place rows)
going_from-All P rules snaps cursor place [] each = All-nil P
going_from-All P rules snaps cursor place (row ∷ later) each =
    let rest = All-tail (Names P) row later each in
    choose (is_snap row) refl (going_from-All P rules snaps cursor (place + 1) later rest) (going_from-All P rules snaps cursor place later rest)
  where
    kept : Bool
    kept = retained rules snaps cursor place (rule_row row)

    choose : (b : Bool) → is_snap row ≡ b → All P (going_from rules snaps cursor (place + 1) later) → All P (going_from rules snaps cursor place later) → All P (if b then gone kept row ++ going_from rules snaps cursor (place + 1) later else going_from rules snaps cursor place later)
    choose true is there here =
        gone-All P kept row (going_from rules snaps cursor (place + 1) later) (All-head (Names P) row later each (text_of row.name) (snap-named row.name is)) there
    choose false is there here = here

abbrev pub Differ : List ℕ → List ℕ → Type 0
Differ a b = a ≢ b

abbrev pub NamesDiffer : VersionRow → VersionRow → Type 0
NamesDiffer a b = a.name ≢ b.name

gone-differ : (kept : Bool) (row : VersionRow) (rest : List (List ℕ)) → All (Differ (text_of row.name)) rest → AllPairs Differ rest → AllPairs Differ (gone kept row ++ rest)
gone-differ kept row rest others differ = choose ((row.refs == 0) && not kept) where
  choose : (b : Bool) → AllPairs Differ ((if b then text_of row.name ∷ [] else []) ++ rest)
  choose true = AllPairs-cons Differ (text_of row.name) rest others differ
  choose false = differ

going_from-differ : (rules : List RuleSpec) (snaps : List RuleRow) (cursor : Option ℕ) (place : ℕ) (rows : List VersionRow) → AllPairs NamesDiffer rows → AllPairs Differ (going_from rules snaps cursor place rows)
going_from-differ rules snaps cursor place [] differ = AllPairs-nil Differ
going_from-differ rules snaps cursor place (row ∷ later) differ =
    let rest = AllPairs-tail NamesDiffer row later differ in
    choose (is_snap row) refl (going_from-differ rules snaps cursor (place + 1) later rest) (going_from-differ rules snaps cursor place later rest)
  where
    kept : Bool
    kept = retained rules snaps cursor place (rule_row row)

    choose : (b : Bool) → is_snap row ≡ b → AllPairs Differ (going_from rules snaps cursor (place + 1) later) → AllPairs Differ (going_from rules snaps cursor place later) → AllPairs Differ (if b then gone kept row ++ going_from rules snaps cursor (place + 1) later else going_from rules snaps cursor place later)
    choose true is there here =
        gone-differ kept row (going_from rules snaps cursor (place + 1) later) (going_from-All (Differ (text_of row.name)) rules snaps cursor (place + 1) later (λ k d inside m named same. AllPairs-head NamesDiffer row later differ k d inside (snap-named row.name is ∙ ap Snap same ∙ sym named))) there
    choose false is there here = here

-- the snapshots that pruning destroys differ where the names of the listing do
pub doomed-differ : (job : List ℕ) (rules : List RuleSpec) (rows : List VersionRow) → AllPairs NamesDiffer rows → AllPairs Differ (doomed job rules rows)
doomed-differ job [] rows differ = AllPairs-nil Differ
doomed-differ job (rule ∷ rules) rows differ =
    going_from-differ (rule ∷ rules) (snaps_of rows) (cursor_txg job rows) 0 rows differ
