-- Targets of destinations.
use Rattle.std.proofs.Common.{◌≡◌, ◌≢◌, ℕ, suc, ◌+◌, ◌≤◌, inl, inr, List, length, refl, sym, ap, ◌∙◌}
use Rattle.zr_jobs.specs.declared.target.Destination.{Destination}
use Rattle.zr_jobs.specs.declared.target.Destination.TheVariants.{Push, Pull}
use Rattle.zr_jobs.specs.Targets.{AreApart, HasIdentity, IsBelow, joined, root_of, target_text}
use Rattle.zr_names.specs.Names.{IsName, path_is_bad}
use Rattle.zr_names.specs.declared.names.TheConstants.{JOB_LIMIT, PATH_LIMIT}
use Rattle.zr_jobs.proofs.Paths.{identity_is_path, joined_is_path}
use Rattle.zr_jobs.proofs.Apart.{apart_identities, apart_roots, same_rest}

shorter : {limit other : ℕ} {text : List ℕ} → IsName path_is_bad limit text → length text ≤ other → IsName path_is_bad other text
shorter is short = record { not_empty = is.not_empty; not_long = short; no_place_bad = is.no_place_bad }

pub targets_apart : (a b : Destination) (x y : List ℕ) → HasIdentity a → HasIdentity b → AreApart a b → target_text a x ≢ target_text b y
targets_apart (Push r i) (Push s j) x y is_i is_j (inl apart) = apart_roots r s (joined i x) (joined j y) apart
targets_apart (Push r i) (Push s j) x y is_i is_j (inr (same, differ)) = λ meet.
    apart_identities i j x y is_i is_j differ (same_rest s (joined i x) (joined j y) (ap (λ t. joined t (joined i x)) (sym same) ∙ meet))
targets_apart (Push r i) (Pull s) x y is_i is_j apart = apart_roots r s (joined i x) y apart
targets_apart (Pull r) (Push s j) x y is_i is_j apart = apart_roots r s x (joined j y) apart
targets_apart (Pull r) (Pull s) x y is_i is_j apart = apart_roots r s x y apart

pub sources_apart : (a : Destination) (x y : List ℕ) → target_text a x ≡ target_text a y → x ≡ y
sources_apart (Push r i) x y same = same_rest i x y (same_rest r (joined i x) (joined i y) same)
sources_apart (Pull r) x y same = same_rest r x y same

pub below_root : (place : Destination) (source : List ℕ) → IsBelow (root_of place) (target_text place source)
below_root (Push r i) x = (joined i x, refl)
below_root (Pull r) x = (x, refl)

-- a target is a path, where it is no longer than the longest
pub target_is_path : (place : Destination) (source : List ℕ) → HasIdentity place → IsName path_is_bad PATH_LIMIT (root_of place) → IsName path_is_bad PATH_LIMIT source → length (target_text place source) ≤ PATH_LIMIT → IsName path_is_bad PATH_LIMIT (target_text place source)
target_is_path (Push r i) x identity root source short =
    shorter (joined_is_path PATH_LIMIT (JOB_LIMIT + suc PATH_LIMIT) r (joined i x) root (joined_is_path JOB_LIMIT PATH_LIMIT i x (identity_is_path i identity) source)) short
target_is_path (Pull r) x identity root source short = shorter (joined_is_path PATH_LIMIT PATH_LIMIT r x root source) short
