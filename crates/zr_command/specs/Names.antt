use Rattle.std.specs.Prelude.{ℕ, Bool, true, false, List, nat_eq}
use Rattle.std.specs.List.{list_any}
use Rattle.std.specs.Ordering.{nat_cmp, is_lt}
use Rattle.std.specs.Cmp.Lexicographic.{pointwise, slice_cmp}
use Rattle.zr_command.specs.declared.version.VersionName.{VersionName}
use Rattle.zr_command.specs.declared.version.VersionName.TheVariants.{Snap, Mark}

-- two texts are equal
abbrev pub same_text : List ℕ → List ℕ → Bool
same_text one other = pointwise nat_eq one other

-- two names are of one kind, and equal
abbrev pub same_name : VersionName → VersionName → Bool
same_name (Snap one) (Snap other) = same_text other one
same_name (Snap one) (Mark other) = false
same_name (Mark one) (Snap other) = false
same_name (Mark one) (Mark other) = same_text other one

abbrev pub is_tagged : List (List ℕ) → List ℕ → Bool
is_tagged tags tag = list_any (λ other. same_text other tag) tags

-- byte order of names
abbrev pub is_below : List ℕ → List ℕ → Bool
is_below one other = is_lt (slice_cmp nat_cmp one other)

-- snapshots come before bookmarks, and each kind in byte order
abbrev pub name_is_below : VersionName → VersionName → Bool
name_is_below (Snap one) (Snap other) = is_below one other
name_is_below (Snap one) (Mark other) = true
name_is_below (Mark one) (Snap other) = false
name_is_below (Mark one) (Mark other) = is_below one other

abbrev pub is_mark : VersionName → Bool
is_mark (Snap name) = false
is_mark (Mark name) = true
