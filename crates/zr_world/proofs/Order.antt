use Rattle.std.proofs.Common.{◌≡◌, ◌==◌, ◌&&◌, ◌||◌, ℕ, nat_lt, cond, Bool, true, false, List, refl, ap, ◌∙◌, sym}
use Rattle.std.specs.Cmp.{IsTotalOrder}
use Rattle.std.specs.Cmp.Lexicographic.{slice_cmp, nat_list_cmp_total}
use Rattle.std.specs.Ordering.{nat_cmp, is_lt, ordering_then, ordering_reverse}
use Rattle.std.specs.declared.cmp.Ordering.{Ordering}
use Rattle.std.specs.declared.cmp.Ordering.TheVariants.{Less, Equal, Greater}
use Rattle.std.proofs.lemmas.Cmp.{on_total, then_total, nat_cmp_total}
use Rattle.std.proofs.lemmas.Map.Lookups.{exact_bytes}
use Rattle.zr_world.specs.declared.pools.Dataset.{Dataset}
use Rattle.zr_world.specs.declared.pools.Version.{Version}
use Rattle.zr_command.specs.declared.version.VersionName.{VersionName}
use Rattle.zr_command.specs.declared.version.VersionName.TheVariants.{Snap, Mark}
use Rattle.zr_world.specs.Effect.{set_before, version_before}
use Rattle.zr_command.specs.Names.{name_is_below}

abbrev rank : VersionName → ℕ
rank (Snap name) = 0
rank (Mark name) = 1

abbrev bare : VersionName → List ℕ
bare (Snap name) = name
bare (Mark name) = name

abbrev version_cmp : Version → Version → Ordering
version_cmp a b =
    ordering_then (nat_cmp a.txg b.txg)
    (ordering_then (nat_cmp (rank a.name) (rank b.name)) (slice_cmp nat_cmp (bare a.name) (bare b.name)))

version_total : IsTotalOrder version_cmp
version_total =
    then_total (on_total (λ (v : Version). v.txg) nat_cmp_total)
    (then_total (on_total (λ (v : Version). rank v.name) nat_cmp_total)
    (on_total (λ (v : Version). bare v.name) nat_list_cmp_total))

abbrev set_cmp : Dataset → Dataset → Ordering
set_cmp a b = slice_cmp nat_cmp a.path b.path

set_total : IsTotalOrder set_cmp
set_total = on_total (λ (s : Dataset). s.path) nat_list_cmp_total

name-lt : (a b : VersionName) → name_is_below a b ≡ is_lt (ordering_then (nat_cmp (rank a) (rank b)) (slice_cmp nat_cmp (bare a) (bare b)))
name-lt (Snap x) (Snap y) = refl
name-lt (Snap x) (Mark y) = refl
name-lt (Mark x) (Snap y) = refl
name-lt (Mark x) (Mark y) = refl

txg-lt : (lt eq rest : Bool) (o : Ordering) → rest ≡ is_lt o → (lt || (eq && rest)) ≡ is_lt (ordering_then (cond lt Less (cond eq Equal Greater)) o)
txg-lt true eq rest o e = refl
txg-lt false true rest o e = e
txg-lt false false rest o e = refl

version-lt : (a b : Version) → version_before a b ≡ is_lt (version_cmp a b)
version-lt a b =
    txg-lt (nat_lt a.txg b.txg) (a.txg == b.txg) (name_is_below a.name b.name)
    (ordering_then (nat_cmp (rank a.name) (rank b.name)) (slice_cmp nat_cmp (bare a.name) (bare b.name)))
    (name-lt a.name b.name)

less : (o : Ordering) → is_lt o ≡ true → o ≡ Less
less Less e = refl
less Equal e = cc
less Greater e = cc

chained : {T : Type 0} (cmp : T → T → Ordering) → IsTotalOrder cmp → (a b c : T) → is_lt (cmp a b) ≡ true → is_lt (cmp b c) ≡ true → is_lt (cmp a c) ≡ true
chained cmp total a b c one two = ap is_lt (total.trans a b c (less (cmp a b) one) (less (cmp b c) two))

-- what is not below and not the same is above
flipped : (o back : Ordering) → back ≡ ordering_reverse o → is_lt o ≡ false → (o ≡ Equal → ⊥) → is_lt back ≡ true
flipped Less back e low other = cc
flipped Equal back e low other = absurd (other refl)
flipped Greater back e low other = rw e refl

pub version-chained : (a b c : Version) → version_before a b ≡ true → version_before b c ≡ true → version_before a c ≡ true
version-chained a b c one two =
    version-lt a c ∙ chained version_cmp version_total a b c (sym (version-lt a b) ∙ one) (sym (version-lt b c) ∙ two)

pub set-chained : (a b c : Dataset) → set_before a b ≡ true → set_before b c ≡ true → set_before a c ≡ true
set-chained a b c one two = chained set_cmp set_total a b c one two

pub set-flipped : (a b : Dataset) → set_before a b ≡ false → (a.path ≡ b.path → ⊥) → set_before b a ≡ true
set-flipped a b low other =
    flipped (set_cmp a b) (set_cmp b a) (set_total.antisymm b a) low (λ same. other (exact_bytes a.path b.path same))

then-equal : (o rest : Ordering) → ordering_then o rest ≡ Equal → rest ≡ Equal
then-equal Less rest e = cc
then-equal Equal rest e = e
then-equal Greater rest e = cc

-- names that are not told apart are equal
name-tie : (a b : VersionName) → ordering_then (nat_cmp (rank a) (rank b)) (slice_cmp nat_cmp (bare a) (bare b)) ≡ Equal → a ≡ b
name-tie (Snap x) (Snap y) e = ap Snap (exact_bytes x y e)
name-tie (Snap x) (Mark y) e = cc
name-tie (Mark x) (Snap y) e = cc
name-tie (Mark x) (Mark y) e = ap Mark (exact_bytes x y e)

pub version-flipped : (a b : Version) → version_before a b ≡ false → (a.name ≡ b.name → ⊥) → version_before b a ≡ true
version-flipped a b low other =
    version-lt b a
    ∙ flipped (version_cmp a b) (version_cmp b a) (version_total.antisymm b a) (sym (version-lt a b) ∙ low)
    (λ same. other (name-tie a.name b.name (then-equal (nat_cmp a.txg b.txg) (ordering_then (nat_cmp (rank a.name) (rank b.name)) (slice_cmp nat_cmp (bare a.name) (bare b.name))) same)))
