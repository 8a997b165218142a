-- The number of at most 18 digits fits.
use Rattle.std.proofs.Common.{◌≡◌, ℕ, suc, zero, ◌+◌, ◌-◌, ◌*◌, ◌^◌, ◌<◌, ◌≤◌, true, ◌&&◌, leb, List, [], ◌∷◌, length, drop, get_or, arith}
use Rattle.std.specs.List.{list_all}
use Rattle.std.proofs.lemmas.Bool.{and_parts}
use Rattle.std.proofs.lemmas.Bool.Decides.{nat_tests}
use Rattle.std.proofs.lemmas.List.{at_drop_more}
use Rattle.std.proofs.Math.Nat.{pow-suc, mul-le-mul_left}
use Rattle.zr_yaml.specs.Scalar.{is_digit, is_number, number_from}

digit_small : (b : ℕ) → is_digit b ≡ true → b - 48 ≤ 9
digit_small b h = let p : (leb 48 b ≡ true)
    × (leb b 57 ≡ true) = and_parts (leb 48 b) (leb b 57) h in grind (arith, nat_tests)

times_ten : (n d p : ℕ) → d ≤ 9 → (n * 10 + d + 1) * p ≤ (n + 1) * (p * 10)
times_ten n d p h =
    let e : n * 10 + d + 1 ≤ (n + 1) * 10 = omega arith in
    let m : p * (n * 10 + d + 1) ≤ p * ((n + 1) * 10) = mul-le-mul_left p e in
    omega (arith, m)

below_power : (ds : List ℕ) (n : ℕ) → list_all is_digit ds ≡ true → number_from n ds + 1 ≤ (n + 1) * 10 ^ length ds
below_power [] n h = omega arith
below_power (b ∷ bs) n h =
    let p : (is_digit b ≡ true) × (list_all is_digit bs ≡ true) = and_parts (is_digit b) (list_all is_digit bs) h in
    let here = times_ten n (b - 48) (10 ^ length bs) (digit_small b p.0) in
    let rest = below_power bs (n * 10 + (b - 48)) p.1 in
    rw (pow-suc 10 (length bs)) (omega (arith, here, rest))

not_below : (ds : List ℕ) (n : ℕ) → n ≤ number_from n ds
not_below [] n = omega arith
not_below (b ∷ bs) n = let h = not_below bs (n * 10 + (b - 48)) in omega (arith, h)

power_above : (k : ℕ) → 1 ≤ 10 ^ k
power_above zero = omega arith
power_above (suc k) = let h = power_above k in rw (pow-suc 10 k) (omega (arith, h))

power_below : (k n : ℕ) → k ≤ n → 10 ^ k ≤ 10 ^ n
power_below zero n h = power_above n
power_below (suc k) zero h = absurd (omega arith)
power_below (suc k) (suc n) h =
    let below : k ≤ n = omega arith in
    let e = power_below k n below in
    rw (pow-suc 10 k, pow-suc 10 n) (omega (arith, e))

number_below : (ds : List ℕ) → is_number ds ≡ true → number_from 0 ds < 10 ^ 18
number_below ds h =
    let p : ((leb 1 (length ds) && leb (length ds) 18) ≡ true)
    × (list_all is_digit ds ≡ true) =
    and_parts (leb 1 (length ds) && leb (length ds) 18) (list_all is_digit ds) h in
    let q : (leb 1 (length ds) ≡ true)
    × (leb (length ds) 18 ≡ true) = and_parts (leb 1 (length ds)) (leb (length ds) 18) p.0 in
    let short : length ds ≤ 18 = grind (arith, nat_tests) in
    omega (arith, below_power ds 0 p.1, power_below (length ds) 18 short)

-- one step of the loop over the digits
pub step_fits : (ds : List ℕ) (i n : ℕ) → is_number ds ≡ true → i < length ds →
    number_from n (drop i ds) ≡ number_from 0 ds → n * 10 + (get_or ds i 0 - 48) < 10 ^ 18
step_fits ds i n h inside e =
    let step : number_from n (drop i ds) ≡ number_from (n * 10 + (get_or ds i 0 - 48)) (drop (i + 1) ds) =
    at_drop_more (number_from n) ds i 0 inside in
    let above = not_below (drop (i + 1) ds) (n * 10 + (get_or ds i 0 - 48)) in
    omega (arith, number_below ds h, above, step, e)
