-- Sets of numbers as bits.
use Rattle.std.proofs.Common.{◌≡◌, ℕ, nat_eq, ◌+◌, ◌-◌, ◌≤◌, zero, suc, not, min, max, nat_lt, ◌*◌, ◌%◌, ◌^◌, ◌<◌, Bool, true, false, ◌==◌, ◌||◌, ◌&&◌, bit_or, bit_and, w64, refl, sym, ap, ◌∙◌, arith}
use Rattle.std.proofs.Math.Bool.{or-false}
use Rattle.std.proofs.lemmas.Bool.{eqb-true, eqb-false, ltb-true, ltb-false, not-false}
use Rattle.std.proofs.Math.Pow.{pow-lt}
use Rattle.std.proofs.Math.Nat.{mod-eq_of_lt}
use Rattle.std.specs.Int.{bit_at}
use Rattle.std.proofs.lemmas.Nat.Bits.{bit_at_set_same, bit_at_set_other, bit_at_or, bit_at_and, bit_at_ones, bit_at_ones_above, bit_at_mask_inside, bit_at-zero, bit_at-lt}
use Rattle.zr_schedule.specs.Schedule.{has}

true_or : (a b : Bool) → b ≡ true → true ≡ (a || b)
true_or true b e = refl
true_or false b e = sym e

false_or : (a b : Bool) → b ≡ false → (a || b) ≡ a
false_or a b e = ap (λ x. a || x) e ∙ or-false a

pub has_with : (set value : ℕ) → value < 64 → (n : ℕ) → has (bit_or set (1 * 2 ^ value % 18446744073709551616)) n ≡ (has set n || (n == value))
has_with set value within n =
    elim (n == value) as (λ b. (n == value) ≡ b → has (bit_or set (1 * 2 ^ value % 18446744073709551616)) n ≡ (has set n || (n == value))) [
      | true ↦ λ t. let e = eqb-true n value t in
          ap (λ (k : ℕ). has (bit_or set (1 * 2 ^ value % 18446744073709551616)) k) e ∙ ap (λ (k : ℕ). k == 1) (bit_at_set_same w64 set value within) ∙ true_or (has set n) (n == value) t
      | false ↦ λ f. ap (λ (k : ℕ). k == 1) (bit_at_set_other w64 set value within n (eqb-false n value f)) ∙ sym (false_or (has set n) (n == value) f)
    ] refl

either : (a b : ℕ) → a < 2 → b < 2 → (max a b == 1) ≡ ((a == 1) || (b == 1))
either zero zero h k = refl
either zero (suc zero) h k = refl
either zero (suc (suc b)) h k = absurd (omega arith)
either (suc zero) zero h k = refl
either (suc zero) (suc zero) h k = refl
either (suc zero) (suc (suc b)) h k = absurd (omega arith)
either (suc (suc a)) b h k = absurd (omega arith)

pub has_or : (a b n : ℕ) → has (bit_or a b) n ≡ (has a n || has b n)
has_or a b n = ap (λ (k : ℕ). k == 1) (bit_at_or a b n) ∙ either (bit_at a n) (bit_at b n) (bit_at-lt a n) (bit_at-lt b n)

at_least_one : (a : ℕ) → a < 2 → (min a 1 == 1) ≡ (a == 1)
at_least_one zero h = refl
at_least_one (suc zero) h = refl
at_least_one (suc (suc a)) h = absurd (omega arith)

no_bit : (a : ℕ) → (min a 0 == 1) ≡ false
no_bit zero = refl
no_bit (suc a) = let e : min (suc a) 0 ≡ 0 = omega arith in ap (λ (k : ℕ). k == 1) e

below_by : (set n : ℕ) (low : Bool) → nat_lt n 7 ≡ low → has (bit_and set 127) n ≡ (low && has set n)
below_by set n true e =
    ap (λ (k : ℕ). k == 1) (bit_at_and set 127 n) ∙ ap (λ (k : ℕ). min (bit_at set n) k == 1) (bit_at_ones 7 n (ltb-true n 7 e)) ∙ at_least_one (bit_at set n) (bit_at-lt set n)
below_by set n false e =
    ap (λ (k : ℕ). k == 1) (bit_at_and set 127 n) ∙ ap (λ (k : ℕ). min (bit_at set n) k == 1) (bit_at_ones_above 7 n (ltb-false n 7 e)) ∙ no_bit (bit_at set n)

pub has_below_seven : (set n : ℕ) → has (bit_and set 127) n ≡ (nat_lt n 7 && has set n)
has_below_seven set n = below_by set n (nat_lt n 7) refl

-- ---- a set and a mask

-- `1 << k`
shifted : (k : ℕ) → k < 64 → 1 * 2 ^ k % 18446744073709551616 ≡ 2 ^ k
shifted k h = let small : 2 ^ k < 18446744073709551616 = pow-lt h in let one : 1 * 2 ^ k ≡ 2 ^ k = omega arith in ap (λ (n : ℕ). n % 18446744073709551616) one ∙ mod-eq_of_lt small

pub mask_order : (low high : ℕ) → low ≤ high → high < 63 → 1 * 2 ^ low % 18446744073709551616 ≤ 1 * 2 ^ (high + 1) % 18446744073709551616
mask_order low high order bits =
    let a = shifted low (omega arith) in
    let b = shifted (high + 1) (omega arith) in
    let l : low < high + 1 = omega arith in
    let c : 2 ^ low < 2 ^ (high + 1) = pow-lt l in
    omega (arith, a, b, c)

bit_of_min : (a : ℕ) → a < 2 → min a 1 ≡ 0 → (a == 1) ≡ false
bit_of_min zero h e = refl
bit_of_min (suc zero) h e = absurd (omega arith)
bit_of_min (suc (suc a)) h e = absurd (omega arith)

none_under : (set low high : ℕ) → bit_and set (2 ^ (high + 1) - 2 ^ low) ≡ 0 → (n : ℕ) → low ≤ n → n ≤ high → has set n ≡ false
none_under set low high e n from to =
    let below : n < high + 1 = omega arith in
    bit_of_min (bit_at set n) (bit_at-lt set n) (ap (λ (k : ℕ). min (bit_at set n) k) (sym (bit_at_mask_inside low (high + 1) n from below)) ∙ sym (bit_at_and set (2 ^ (high + 1) - 2 ^ low) n) ∙ ap (λ (k : ℕ). bit_at k n) e ∙ bit_at-zero n)

pub none_in_mask : (set low high : ℕ) → low ≤ high → high < 63 → not (nat_eq (bit_and set (1 * 2 ^ (high + 1) % 18446744073709551616 - 1 * 2 ^ low % 18446744073709551616)) 0) ≡ false → (n : ℕ) → low ≤ n → n ≤ high → has set n ≡ false
none_in_mask set low high order bits test =
    let a = shifted low (omega arith) in
    let b = shifted (high + 1) (omega arith) in
    let e = eqb-true _ 0 (not-false _ test) in
    none_under set low high (ap (bit_and set) (ap (λ (k : ℕ). k - 2 ^ low) (sym b) ∙ ap (λ (k : ℕ). 1 * 2 ^ (high + 1) % 18446744073709551616 - k) (sym a)) ∙ e)
