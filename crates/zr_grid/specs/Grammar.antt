-- The grammar of spans and grids: what each text is made of, from left to right.
use Rattle.std.specs.Prelude.{◌≡◌, ℕ, ◌+◌, ◌-◌, ◌*◌, ◌<◌, Bool, ◌==◌, ◌&&◌, ◌||◌, nat_le, IsTrue, if◌then◌else◌, List, [], ◌∷◌, ◌++◌, length, fold, Option, Some, None, ◌⊎◌, codes}
use Rattle.std.specs.List.{AllByRecursion}
use Rattle.zr_grid.specs.declared.grid.Interval.{Interval}
use Rattle.zr_grid.specs.declared.grid.Keep.{Keep}
use Rattle.zr_grid.specs.declared.grid.Keep.TheVariants.{All, Most}

-- the texts that are one of the first form, and then one of the second
infixr 10 ◌⨾◌
abbrev pub ◌⨾◌ : (List ℕ → Type 0) → (List ℕ → Type 0) → List ℕ → Type 0
(first ⨾ second) text = (front : List ℕ) × (back : List ℕ) × (text ≡ front ++ back) × first front × second back

-- a space or a tab
abbrev pub is_blank : ℕ → Bool
is_blank b = b == 32 || b == 9

-- 0 to 9
abbrev pub is_digit : ℕ → Bool
is_digit b = nat_le 48 b && nat_le b 57

-- spaces and tabs, or nothing
abbrev pub Blanks : List ℕ → Type 0
Blanks text = AllByRecursion (λ b. IsTrue (is_blank b)) text

-- the number that decimal digits stand for, after those that make n
abbrev pub number_after : ℕ → List ℕ → ℕ
number_after n digits = fold (λ before d. before * 10 + (d - 48)) n digits

-- one digit or more, which stand for n
abbrev pub Digits : ℕ → List ℕ → Type 0
Digits n text = (0 < length text) × AllByRecursion (λ b. IsTrue (is_digit b)) text × (n ≡ number_after 0 text)

-- a number that is at least 1
abbrev pub Counted : ℕ → List ℕ → Type 0
Counted n text = Digits n text × (0 < n)

-- how many seconds a unit counts: s, m, h, d or w
abbrev pub unit_of : ℕ → Option ℕ
unit_of b =
    if b == 115 then Some 1 else (if b == 109 then Some 60 else (if b == 104 then Some 3600 else (if b == 100 then Some 86400 else (if b == 119 then Some 604800 else None))))

-- the letter of a unit
abbrev pub UnitOf : ℕ → List ℕ → Type 0
UnitOf seconds text = (letter : ℕ) × (text ≡ letter ∷ []) × (unit_of letter ≡ Some seconds)

-- a span: a number that is at least 1 and its unit, with blanks where one likes
unfoldable pub Span : ℕ → List ℕ → Type 0
Span seconds text = (n : ℕ) × (unit : ℕ) × (seconds ≡ n * unit) × (Blanks ⨾ Counted n ⨾ Blanks ⨾ UnitOf unit ⨾ Blanks) text

-- the texts of a form, and then blanks
abbrev pub Spaced : (List ℕ → Type 0) → List ℕ → Type 0
Spaced form text = (form ⨾ Blanks) text

-- this text alone
abbrev pub Word : List ℕ → List ℕ → Type 0
Word word text = text ≡ word

-- what is kept: all, or a number
abbrev pub Kept : Keep → List ℕ → Type 0
Kept All text = Word (codes "all") text
Kept (Most n) text = Digits n text

-- what is kept, in brackets
abbrev pub Brackets : Keep → List ℕ → Type 0
Brackets keep text = (Word (codes "(") ⨾ Blanks ⨾ Spaced (Word (codes "keep")) ⨾ Spaced (Word (codes "=")) ⨾ Spaced (Kept keep) ⨾ Spaced (Word (codes ")"))) text

-- brackets, or nothing, which keeps one
abbrev pub KeepPart : Keep → List ℕ → Type 0
KeepPart keep text = ((text ≡ []) × (keep ≡ Most 1)) ⊎ Brackets keep text

-- an interval: how many, an x, how long each is, and what is kept
unfoldable pub IntervalText : Interval → List ℕ → Type 0
IntervalText interval text = (Blanks ⨾ Spaced (Counted interval.count) ⨾ Word (codes "x") ⨾ Span interval.width ⨾ KeepPart interval.keep) text

-- a grid: an interval or more, parted by bars
abbrev pub Grid : List Interval → List ℕ → Type 0
Grid [] text = ⊥
Grid (interval ∷ []) text = IntervalText interval text
Grid (interval ∷ next ∷ others) text = (IntervalText interval ⨾ Word (codes "|") ⨾ Grid (next ∷ others)) text
