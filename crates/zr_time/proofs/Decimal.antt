-- Facts about decimal digits.
use Rattle.std.proofs.Common.{◌≡◌, ℕ, zero, suc, ◌+◌, ◌-◌, ◌*◌, ◌/◌, ◌%◌, ◌^◌, ◌<◌, ◌≤◌, ◌∙◌, ◌⊎◌, inl, inr, true, List, [], ◌∷◌, ◌++◌, length, get_or, take, refl, ap, sym, arith, length-append, nat_cmp, add-one}
use Rattle.std.specs.Ordering.{ordering_then}
use Rattle.std.specs.declared.cmp.Ordering.TheVariants.{Less, Equal}
use Rattle.std.specs.Char.{is_ascii_digit}
use Rattle.std.specs.Cmp.Lexicographic.{slice_cmp}
use Rattle.std.proofs.Math.Nat.{pow-suc}
use Rattle.std.proofs.lemmas.Bool.{cases_order}
use Rattle.std.proofs.lemmas.Bool.Decides.{nat_tests}
use Rattle.std.proofs.lemmas.List.{get_or_append_left, get_or-append_right, take_more}
use Rattle.zr_time.specs.Digits.{digits, IsNumber}

pub length-digits : (width n : ℕ) → length (digits width n) ≡ width
unfolding digits
length-digits zero n = refl
length-digits (suc width) n = length-append (digits width (n / 10)) ((48 + n % 10) ∷ []) ∙ ap (λ k. k + 1) (length-digits width (n / 10)) ∙ omega arith

-- one digit more behind
pub digits-next : (width n d : ℕ) → d < 10 → digits (width + 1) (n * 10 + d) ≡ digits width n ++ (48 + d) ∷ []
unfolding digits
digits-next width n d small =
    let more : width + 1 ≡ suc width = omega arith in
    let rest : (n * 10 + d) / 10 ≡ n = omega arith in
    let last : (n * 10 + d) % 10 ≡ d = omega arith in
    ap (λ k. digits k (n * 10 + d)) more ∙ ap (λ k. digits width k ++ (48 + (n * 10 + d) % 10) ∷ []) rest ∙ ap (λ k. digits width n ++ (48 + k) ∷ []) last

-- each byte of some digits is a digit
pub digits-at : (width n i : ℕ) → i < width → (48 ≤ get_or (digits width n) i 0) × (get_or (digits width n) i 0 ≤ 57)
unfolding digits
digits-at zero n i inside = absurd (omega arith)
digits-at (suc width) n i inside =
    elim (cases_order i width) [
      | inl last ↦
          let there : get_or (digits width (n / 10) ++ (48 + n % 10) ∷ []) i 0 ≡ get_or ((48 + n % 10) ∷ []) (i - width) 0 = get_or-append_right (digits width (n / 10)) ((48 + n % 10) ∷ []) width i 0 (length-digits width (n / 10)) (omega arith) in
          let first : i - width ≡ 0 = omega arith in
          let is : get_or (digits width (n / 10) ++ (48 + n % 10) ∷ []) i 0 ≡ 48 + n % 10 = there ∙ ap (λ k. get_or ((48 + n % 10) ∷ []) k 0) first in
          omega arith
      | inr (inl before) ↦
          let there = get_or_append_left (digits width (n / 10)) ((48 + n % 10) ∷ []) 0 i (omega (arith, length-digits width (n / 10))) in
          let same = digits-at width (n / 10) i before in
          omega arith
      | inr (inr past) ↦ absurd (omega arith)
    ]

-- lists that begin with lists of one length compare by those first
pub slice_cmp-append : (a b x y : List ℕ) → length a ≡ length b → slice_cmp nat_cmp (a ++ x) (b ++ y) ≡ ordering_then (slice_cmp nat_cmp a b) (slice_cmp nat_cmp x y)
slice_cmp-append [] [] x y same = refl
slice_cmp-append [] (b ∷ bs) x y same = absurd (omega arith)
slice_cmp-append (a ∷ more) [] x y same = absurd (omega arith)
slice_cmp-append (a ∷ more) (b ∷ bs) x y same = grind (arith, slice_cmp-append more bs x y (omega arith))

pub slice_cmp-same : (a : List ℕ) → slice_cmp nat_cmp a a ≡ Equal
slice_cmp-same [] = refl
slice_cmp-same (a ∷ more) = grind (arith, nat_tests, slice_cmp-same more)

-- the digits of a smaller number come first
pub digits-lt : (width n m : ℕ) → n < m → m < 10 ^ width → slice_cmp nat_cmp (digits width n) (digits width m) ≡ Less
unfolding digits
digits-lt zero n m below fits = absurd (omega arith)
digits-lt (suc width) n m below fits =
    let parted = slice_cmp-append (digits width (n / 10)) (digits width (m / 10)) ((48 + n % 10) ∷ []) ((48 + m % 10) ∷ []) (length-digits width (n / 10) ∙ sym (length-digits width (m / 10))) in
    let room : m / 10 < 10 ^ width = omega (arith, pow-suc 10 width) in
    elim (cases_order (n / 10) (m / 10)) [
      | inl same ↦
          let last : n % 10 < m % 10 = omega arith in
          let heads : slice_cmp nat_cmp (digits width (n / 10)) (digits width (m / 10)) ≡ Equal = ap (λ k. slice_cmp nat_cmp (digits width k) (digits width (m / 10))) same ∙ slice_cmp-same (digits width (m / 10)) in
          let lasts : slice_cmp nat_cmp ((48 + n % 10) ∷ []) ((48 + m % 10) ∷ []) ≡ Less = grind (arith, nat_tests) in
          cc
      | inr (inl lower) ↦
          let heads = digits-lt width (n / 10) (m / 10) lower room in
          cc
      | inr (inr higher) ↦ absurd (omega arith)
    ]

pub digits-none : (n : ℕ) → digits 0 n ≡ []
unfolding digits
digits-none n = refl

-- a text so far with its next digit
pub digit_added : (text : List ℕ) (i n d : ℕ) → i < length text → get_or text i 0 ≡ 48 + d → d < 10 → n < 10 ^ i → take i text ≡ digits i n → (n * 10 + d < 10 ^ (i + 1)) × (take (i + 1) text ≡ digits (i + 1) (n * 10 + d))
digit_added text i n d inside there small fits is =
    let wider : 10 ^ (i + 1) ≡ 10 ^ i * 10 = ap (λ k. 10 ^ k) (add-one i) ∙ pow-suc 10 i in
    (omega arith, take_more text i 0 inside ∙ ap (λ k. take i text ++ k ∷ []) there ∙ ap (λ k. k ++ (48 + d) ∷ []) is ∙ sym (digits-next i n d small))

-- a text with a byte that is no digit has the digits of no number
pub not_digit : (text : List ℕ) (i : ℕ) → i < length text → (get_or text i 0 < 48) ⊎ (57 < get_or text i 0) → (n : ℕ) → IsNumber text n → ⊥
not_digit text i inside other n is =
    let same : get_or text i 0 ≡ get_or (digits (length text) n) i 0 = ap (λ t. get_or t i 0) is.text_is in
    let lies = digits-at (length text) n i inside in
    elim other [ inl low ↦ omega arith | inr high ↦ omega arith ]

pub digit_range : (b : ℕ) → is_ascii_digit b ≡ true → (48 ≤ b) × (b ≤ 57)
digit_range b is = grind (arith, nat_tests)

pub digits-two : (n : ℕ) → digits 2 n ≡ (48 + n / 10 % 10) ∷ (48 + n / 1 % 10) ∷ []
unfolding digits
digits-two n = let whole : n ≡ n / 1 = omega arith in ap (λ k. (48 + n / 10 % 10) ∷ (48 + k % 10) ∷ []) whole

pub digits-three : (n : ℕ) → digits 3 n ≡ (48 + n / 100 % 10) ∷ (48 + n / 10 % 10) ∷ (48 + n / 1 % 10) ∷ []
unfolding digits
digits-three n =
    let whole : n ≡ n / 1 = omega arith in
    let hundred : n / 10 / 10 ≡ n / 100 = omega arith in
    ap (λ k. (48 + n / 10 / 10 % 10) ∷ (48 + n / 10 % 10) ∷ (48 + k % 10) ∷ []) whole
    ∙ ap (λ k. (48 + k % 10) ∷ (48 + n / 10 % 10) ∷ (48 + n / 1 % 10) ∷ []) hundred

pub digits-four : (n : ℕ) → digits 4 n ≡ (48 + n / 1000 % 10) ∷ (48 + n / 100 % 10) ∷ (48 + n / 10 % 10) ∷ (48 + n / 1 % 10) ∷ []
unfolding digits
digits-four n =
    let whole : n ≡ n / 1 = omega arith in
    let hundred : n / 10 / 10 ≡ n / 100 = omega arith in
    let thousand : n / 10 / 10 / 10 ≡ n / 1000 = omega arith in
    ap (λ k. (48 + n / 10 / 10 / 10 % 10) ∷ (48 + n / 10 / 10 % 10) ∷ (48 + n / 10 % 10) ∷ (48 + k % 10) ∷ []) whole
    ∙ ap (λ k. (48 + n / 10 / 10 / 10 % 10) ∷ (48 + k % 10) ∷ (48 + n / 10 % 10) ∷ (48 + n / 1 % 10) ∷ []) hundred
    ∙ ap (λ k. (48 + k % 10) ∷ (48 + n / 100 % 10) ∷ (48 + n / 10 % 10) ∷ (48 + n / 1 % 10) ∷ []) thousand
