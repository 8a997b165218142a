-- How the readers go over a text: each part answers its value and what is left, or how many bytes were left where the text cannot go on.
use Rattle.std.specs.Prelude.{◌≡◌, ℕ, zero, suc, ◌+◌, ◌-◌, ◌*◌, ◌^◌, Bool, ◌==◌, if◌then◌else◌, min, List, [], ◌∷◌, length, false, codes, Option, Some, None, Result, Ok, Err}
use Rattle.zr_grid.specs.declared.scan.Stop.{Stop}
use Rattle.zr_grid.specs.declared.grid.Unread.{Unread}
use Rattle.zr_grid.specs.declared.grid.Unread.TheVariants.{Stopped, NoMemory}
use Rattle.zr_grid.specs.declared.form.Form.{Form}
use Rattle.zr_grid.specs.declared.form.KeepForm.{KeepForm}
use Rattle.zr_grid.specs.declared.form.KeepForm.TheVariants as forms
use Rattle.zr_grid.specs.Grammar.{is_blank, is_digit, unit_of}

infixl 10 ◌>>=◌
abbrev pub ◌>>=◌ : {A B : Type 0} → Result A ℕ → (A → Result B ℕ) → Result B ℕ
(Ok x) >>= f = f x
(Err left) >>= f = Err left

-- what a function returned, as view sees it, is what the scan gives
abbrev pub Gives : {X Y : Type 0} → (X → Y) → Result X Stop → Result Y ℕ → Type 0
Gives view (Ok x) scan = scan ≡ Ok (view x)
Gives view (Err stop) scan = scan ≡ Err stop.left

-- a number as the readers keep it: one above 64 bits is as good as their greatest
abbrev pub capped : ℕ → ℕ
capped n = min n (2 ^ 64 - 1)

-- what comes after blanks
abbrev pub skip : List ℕ → List ℕ
skip [] = []
skip (b ∷ bs) = if is_blank b then skip bs else b ∷ bs

-- the number whose first digits make n, and what comes after it
abbrev pub digits_from : ℕ → List ℕ → ℕ × List ℕ
digits_from n [] = (n, [])
digits_from n (b ∷ bs) = if is_digit b then digits_from (capped (n * 10 + (b - 48))) bs else (n, b ∷ bs)

abbrev pub counted_at : List ℕ → Result (ℕ × List ℕ) ℕ
counted_at text = if (digits_from 0 text).0 == 0 then Err (length (digits_from 0 text).1) else Ok (digits_from 0 text)

abbrev pub unit_found : Option ℕ → List ℕ → Result (ℕ × List ℕ) ℕ
unit_found None rest = Err (length rest + 1)
unit_found (Some seconds) rest = Ok (seconds, rest)

abbrev pub unit_at : List ℕ → Result (ℕ × List ℕ) ℕ
unit_at [] = Err 0
unit_at (b ∷ bs) = unit_found (unit_of b) bs

unfoldable pub span_at : List ℕ → Result (ℕ × List ℕ) ℕ
span_at text = do
  n ← counted_at (skip text)
  unit ← unit_at (skip n.1)
  Ok (capped (n.0 * unit.0), skip unit.1)

-- what comes after a word
abbrev pub word_at : List ℕ → List ℕ → Result (List ℕ) ℕ
word_at [] text = Ok text
word_at (w ∷ ws) [] = Err 0
word_at (w ∷ ws) (b ∷ bs) = if b == w then word_at ws bs else Err (length bs + 1)

-- what comes after a word and blanks
abbrev pub lexeme_at : List ℕ → List ℕ → Result (List ℕ) ℕ
lexeme_at word text = word_at word text >>= λ rest. Ok (skip rest)

abbrev pub number_at : List ℕ → Result (ℕ × List ℕ) ℕ
number_at [] = Err 0
number_at (b ∷ bs) = if is_digit b then Ok (digits_from 0 (b ∷ bs)) else Err (length bs + 1)

abbrev pub starts_with_byte : ℕ → List ℕ → Bool
starts_with_byte c [] = false
starts_with_byte c (b ∷ bs) = b == c

abbrev pub all_at : List ℕ → Result (KeepForm × List ℕ) ℕ
all_at text = word_at (codes "all") text >>= λ rest. Ok (forms.All, rest)

abbrev pub most_at : List ℕ → Result (KeepForm × List ℕ) ℕ
most_at text = number_at text >>= λ n. Ok (forms.Most n.0, n.1)

abbrev pub kept_at : List ℕ → Result (KeepForm × List ℕ) ℕ
kept_at text = if starts_with_byte 97 text then all_at text else most_at text

-- what is kept, after the bracket that opens
unfoldable pub brackets_at : List ℕ → Result (KeepForm × List ℕ) ℕ
brackets_at text = do
  named ← lexeme_at (codes "keep") (skip text)
  equal ← lexeme_at (codes "=") named
  keep ← kept_at equal
  closed ← lexeme_at (codes ")") (skip keep.1)
  Ok (keep.0, closed)

abbrev pub keep_at : List ℕ → Result (KeepForm × List ℕ) ℕ
keep_at [] = Ok (forms.Most 1, [])
keep_at (b ∷ bs) = if b == 40 then brackets_at bs else Ok (forms.Most 1, b ∷ bs)

unfoldable pub form_at : List ℕ → Result (Form × List ℕ) ℕ
form_at text = do
  count ← counted_at (skip text)
  times ← word_at (codes "x") (skip count.1)
  width ← span_at times
  keep ← keep_at width.1
  Ok (record { count = count.0; width = width.0; keep = keep.0 }, keep.1)

-- what follows a byte, or none where another byte stands there
abbrev pub opt_at : {C : Type 0} → ℕ → C → (List ℕ → Result (C × List ℕ) ℕ) → List ℕ → Result (C × List ℕ) ℕ
opt_at c none inner [] = Ok (none, [])
opt_at c none inner (b ∷ bs) = if b == c then inner bs else Ok (none, b ∷ bs)

-- intervals parted by bars, at most so many
abbrev pub grid_at : ℕ → List ℕ → Result (List Form × List ℕ) ℕ
grid_at zero text = Err (length text)
grid_at (suc n) text = do
  form ← form_at text
  others ← opt_at 124 [] (grid_at n) form.1
  Ok (form.0 ∷ others.0, others.1)

-- nothing is left
abbrev pub ended : Result (List Form × List ℕ) ℕ → Result (List Form) ℕ
ended (Err left) = Err left
ended (Ok (forms, [])) = Ok forms
ended (Ok (forms, b ∷ bs)) = Err (length bs + 1)

-- the intervals of the whole text
abbrev pub forms_at : List ℕ → Result (List Form) ℕ
forms_at text = ended (grid_at (suc (length text)) text)

-- what the loop over the intervals returned is what the scan gives, unless memory ran out
abbrev pub GivesForms : {X : Type 0} → (X → List Form) → List ℕ → Result X Unread → Type 0
GivesForms view text (Ok forms) = forms_at text ≡ Ok (view forms)
GivesForms view text (Err (Stopped stop)) = forms_at text ≡ Err stop.left
GivesForms view text (Err NoMemory) = Unit {0}
