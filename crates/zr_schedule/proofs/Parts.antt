-- A text cut at the first byte that parts it.
use Rattle.std.proofs.Common.{◌≡◌, ℕ, zero, suc, ◌+◌, ◌-◌, ◌<◌, ◌≤◌, Bool, true, false, cond, nat_lt, List, [], ◌∷◌, length, take, drop, Some, None, refl, sym, ap, subst, ◌∙◌, arith}
use Rattle.std.specs.List.{position, position_or_len, filter}
use Rattle.std.proofs.Math.Seq.{drop-cons}
use Rattle.std.proofs.lemmas.List.{take_all, drop_all, length-drop}
use Rattle.std.proofs.lemmas.List.Quantifiers.{position-Some}
use Rattle.std.proofs.lemmas.Option.{cond_some}
use Rattle.std.proofs.lemmas.Bool.{ltb-true, ltb-false}
use Rattle.zr_schedule.specs.Words.{parted, is_blank, is_word, words, skip}

-- the parts behind the first
abbrev others : (ℕ → Bool) → List ℕ → List (List ℕ)
others test [] = []
others test (b ∷ text) = parted test text

cut_by : (test : ℕ → Bool) (b : ℕ) (text : List ℕ) (hit : Bool) → test b ≡ hit → parted test text ≡ take (position_or_len test text) text ∷ others test (drop (position_or_len test text) text) → parted test (b ∷ text) ≡ take (position_or_len test (b ∷ text)) (b ∷ text) ∷ others test (drop (position_or_len test (b ∷ text)) (b ∷ text))
cut_by test b text true e ih = rw e refl
cut_by test b text false e ih = let s : 1 + position_or_len test text ≡ suc (position_or_len test text) = omega arith in rw (e, s, ih) refl

pub cut : (test : ℕ → Bool) (text : List ℕ) → parted test text ≡ take (position_or_len test text) text ∷ others test (drop (position_or_len test text) text)
cut test [] = refl
cut test (b ∷ text) = cut_by test b text (test b) refl (cut test text)

cut_before : (test : ℕ → Bool) (text : List ℕ) (k : ℕ) → k ≡ position_or_len test text → k < length text → parted test text ≡ take k text ∷ parted test (drop (k + 1) text)
cut_before test text k e within =
    let behind = drop-cons text k 0 within in
    let next : k + 1 ≡ suc k = omega arith in
    cut test text ∙ ap (λ (n : ℕ). take n text ∷ others test (drop n text)) (sym e) ∙ ap (λ (rest : List ℕ). take k text ∷ others test rest) behind ∙ ap (λ (n : ℕ). take k text ∷ parted test (drop n text)) (sym next)

-- a text cut at the first byte that passes
cut_at : (test : ℕ → Bool) (text : List ℕ) (k : ℕ) → Some k ≡ position test text → parted test text ≡ take k text ∷ parted test (drop (k + 1) text)
cut_at test text k e =
    let p = cond_some (nat_lt (position_or_len test text) (length text)) (position_or_len test text) k (sym e) in
    let lt = ltb-true (position_or_len test text) (length text) p.0 in
    let within : k < length text = subst (λ (n : ℕ). n < length text) p.1 lt in
    cut_before test text k (sym p.1) within

-- the bytes from a place on, as a slice has them
rest_whole : (text : List ℕ) (k : ℕ) → take (length text - k) (drop k text) ≡ drop k text
rest_whole text k = take_all (length text - k) (drop k text) (omega (arith, length-drop k text))

pub cut_some : (test : ℕ → Bool) (text : List ℕ) (k : ℕ) → Some k ≡ position test text → parted test text ≡ take k text ∷ parted test (take (length text - (k + 1)) (drop (k + 1) text))
cut_some test text k e = cut_at test text k e ∙ ap (λ (rest : List ℕ). take k text ∷ parted test rest) (sym (rest_whole text (k + 1)))

pub place_within : (test : ℕ → Bool) (text : List ℕ) (k : ℕ) → Some k ≡ position test text → k < length text
place_within test text k e = (position-Some test text k 0 (sym e)).0

cond_none : (b : Bool) (x : ℕ) → cond b (Some x) None ≡ None → b ≡ false
cond_none true x e = absurd cc
cond_none false x e = refl

-- a text of which no byte passes
pub cut_none : (test : ℕ → Bool) (text : List ℕ) → None ≡ position test text → parted test text ≡ text ∷ []
cut_none test text e =
    let long = ltb-false (position_or_len test text) (length text) (cond_none (nat_lt (position_or_len test text) (length text)) (position_or_len test text) (sym e)) in
    cut test text ∙ ap (λ (front : List ℕ). front ∷ others test (drop (position_or_len test text) text)) (take_all (position_or_len test text) text long)
    ∙ ap (λ (rest : List ℕ). text ∷ others test rest) (drop_all (position_or_len test text) text long)

-- ---- words

skip_by : (b : ℕ) (text : List ℕ) (hit : Bool) → is_blank b ≡ hit → words (skip text) ≡ words text → words (skip (b ∷ text)) ≡ words (b ∷ text)
skip_by b text true e ih = rw e ih
skip_by b text false e ih = let same : skip (b ∷ text) ≡ b ∷ text = rw e refl in ap (λ (rest : List ℕ). words rest) same

pub words-skip : (text : List ℕ) → words (skip text) ≡ words text
words-skip [] = refl
words-skip (b ∷ text) = skip_by b text (is_blank b) refl (words-skip text)

-- the first byte behind blanks is none
starts_by : (b : ℕ) (text : List ℕ) (hit : Bool) → is_blank b ≡ hit → ((c : ℕ) (rest : List ℕ) → skip text ≡ c ∷ rest → is_blank c ≡ false) → (c : ℕ) (rest : List ℕ) → skip (b ∷ text) ≡ c ∷ rest → is_blank c ≡ false
starts_by b text true e ih c rest h = ih c rest (rw e at h)
starts_by b text false e ih c rest h = let s = rw e at h in let same : b ≡ c = cc in ap is_blank (sym same) ∙ e

starts : (text : List ℕ) (c : ℕ) (rest : List ℕ) → skip text ≡ c ∷ rest → is_blank c ≡ false
starts [] c rest h = absurd cc
starts (b ∷ text) c rest h = starts_by b text (is_blank b) refl (starts text) c rest h

not_at_zero : (c : ℕ) (rest : List ℕ) → is_blank c ≡ false → Some 0 ≡ position is_blank (c ∷ rest) → ⊥
not_at_zero c rest e h = let g = position-Some is_blank (c ∷ rest) 0 0 (sym h) in cc (g.1, e)

first_word : (c : ℕ) (rest : List ℕ) (k : ℕ) → is_blank c ≡ false → Some k ≡ position is_blank (c ∷ rest) → words (c ∷ rest) ≡ take k (c ∷ rest) ∷ words (drop (k + 1) (c ∷ rest))
first_word c rest zero e h = absurd (not_at_zero c rest e h)
first_word c rest (suc k) e h = ap (filter is_word) (cut_at is_blank (c ∷ rest) (suc k) h)

only_word : (c : ℕ) (rest : List ℕ) → None ≡ position is_blank (c ∷ rest) → words (c ∷ rest) ≡ (c ∷ rest) ∷ []
only_word c rest h = ap (filter is_word) (cut_none is_blank (c ∷ rest) h)

word_of : (text found : List ℕ) (k : ℕ) → skip text ≡ found → 1 ≤ length found → Some k ≡ position is_blank found → words text ≡ take k found ∷ words (drop (k + 1) found)
word_of text [] k e some h = absurd (omega arith)
word_of text (c ∷ rest) k e some h = sym (words-skip text) ∙ ap (λ (t : List ℕ). words t) e ∙ first_word c rest k (starts text c rest e) h

last_word_of : (text found : List ℕ) → skip text ≡ found → 1 ≤ length found → None ≡ position is_blank found → words text ≡ found ∷ []
last_word_of text [] e some h = absurd (omega arith)
last_word_of text (c ∷ rest) e some h = sym (words-skip text) ∙ ap (λ (t : List ℕ). words t) e ∙ only_word c rest h

no_word_of : (text found : List ℕ) → skip text ≡ found → length found < 1 → words text ≡ []
no_word_of text [] e none = sym (words-skip text) ∙ ap (λ (t : List ℕ). words t) e
no_word_of text (c ∷ rest) e none = absurd (omega arith)

-- the first word behind blanks, and what is behind it
pub word_first : (text found : List ℕ) (k : ℕ) → found ≡ skip text → 1 ≤ length found → Some k ≡ position is_blank found → words text ≡ take k found ∷ words (take (length found - (k + 1)) (drop (k + 1) found))
word_first text found k e some h = word_of text found k (sym e) some h ∙ ap (λ (rest : List ℕ). take k found ∷ words rest) (sym (rest_whole found (k + 1)))

pub word_last : (text found : List ℕ) → found ≡ skip text → 1 ≤ length found → None ≡ position is_blank found → words text ≡ found ∷ []
word_last text found e some h = last_word_of text found (sym e) some h

pub word_none : (text found : List ℕ) → found ≡ skip text → length found < 1 → words text ≡ []
word_none text found e none = no_word_of text found (sym e) none
