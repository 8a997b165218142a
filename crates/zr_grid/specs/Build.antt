-- How the numbers of a grid are held against their limits.
use Rattle.std.specs.Prelude.{◌≡◌, ℕ, ◌+◌, Bool, false, ◌||◌, ◌-◌, ◌≤◌, length, nat_lt, if◌then◌else◌, List, [], ◌∷◌, Option, Some, None, Result, Ok, Err}
use Rattle.std.specs.Option.{option_map}
use Rattle.zr_grid.specs.declared.form.Form.{Form}
use Rattle.zr_grid.specs.declared.form.KeepForm.{KeepForm}
use Rattle.zr_grid.specs.declared.form.KeepForm.TheVariants as forms
use Rattle.zr_grid.specs.declared.grid.Keep.{Keep}
use Rattle.zr_grid.specs.declared.grid.Keep.TheVariants as keeps
use Rattle.zr_grid.specs.declared.grid.Interval.{Interval}
use Rattle.zr_grid.specs.declared.grid.GridFault.{GridFault}
use Rattle.zr_grid.specs.declared.grid.GridFault.TheVariants.{BadGrid, GridTooBig, NoMemory}
use Rattle.zr_grid.specs.declared.grid.Unread.{Unread}
use Rattle.zr_grid.specs.declared.grid.Unread.TheVariants as unread
use Rattle.zr_grid.specs.declared.span.TheConstants.{MAX_SPAN}
use Rattle.zr_grid.specs.declared.grid.TheConstants.{MAX_INTERVALS, MAX_KEEP}

abbrev pub is_big_keep : KeepForm → Bool
is_big_keep forms.All = false
is_big_keep (forms.Most n) = nat_lt MAX_KEEP n

-- a number of this interval alone is above its limit
abbrev pub is_big_form : Form → Bool
is_big_form form = (nat_lt MAX_INTERVALS form.count || nat_lt MAX_SPAN form.width) || is_big_keep form.keep

abbrev pub keep_from : KeepForm → Keep
keep_from forms.All = keeps.All
keep_from (forms.Most n) = keeps.Most n

abbrev pub interval_from : Form → Interval
interval_from form = record { count = form.count; width = form.width; keep = keep_from form.keep }

-- the intervals, where none is above a limit, nor all of them with so many before
abbrev pub build_at : ℕ → List Form → Option (List Interval)
build_at before [] = Some []
build_at before (form ∷ others) =
    if is_big_form form then None else (if nat_lt MAX_INTERVALS (before + form.count) then None else option_map (λ intervals. interval_from form ∷ intervals) (build_at (before + form.count) others))

-- what was built is what there is to build, unless memory ran out
abbrev pub Builds : {X : Type 0} → (X → List Interval) → List Form → Result X GridFault → Type 0
Builds view forms (Ok intervals) = build_at 0 forms ≡ Some (view intervals)
Builds view forms (Err GridTooBig) = build_at 0 forms ≡ None
Builds view forms (Err (BadGrid place)) = ⊥
Builds view forms (Err NoMemory) = Unit {0}

-- no more is left than there is
abbrev pub IsLeft : List ℕ → Unread → Type 0
IsLeft text (unread.Stopped stop) = stop.left ≤ length text
IsLeft text unread.NoMemory = Unit {0}

abbrev pub fault_of : List ℕ → Unread → GridFault
fault_of text (unread.Stopped stop) = BadGrid (length text - stop.left)
fault_of text unread.NoMemory = NoMemory
