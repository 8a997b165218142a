-- The outcome of lines, and the documents.
use Rattle.std.proofs.Common.{◌≡◌, ℕ, suc, Bool, true, false, cond, List, [], ◌∷◌, ◌++◌, Option, Some, None, Result, Ok, Err, refl, sym, ap, ◌∙◌}
use Rattle.zr_names.specs.Tree.{Tree}
use Rattle.zr_yaml.specs.declared.symbols.Symbol.{Symbol}
use Rattle.zr_yaml.specs.Document.{Document}
use Rattle.zr_yaml.specs.Lines.{after_line, contents, is_text, lines_symbols}
use Rattle.zr_yaml.specs.Reading.{State, counted, ended, line_read, line_step, lines_end, lines_step, outcome, start, symbols_step, then_lines, then_symbols, tree_or}
use Rattle.zr_yaml.specs.Symbols.{Read, line_symbols, with_symbols}
use Rattle.zr_yaml.proofs.BlockRuns.{says_run}
use Rattle.zr_yaml.proofs.Running.{run_append, run_on}
use Rattle.zr_yaml.proofs.SoundFlows.{run_says}

-- ---- a line

-- what a line that was read is
pub record LineParts (s : State) (unclosed : ℕ) (line : List ℕ) (x : State) (count : ℕ) : Type 0 where
  pub text : is_text line ≡ true
  pub symbols : List Symbol
  pub says : line_symbols unclosed line ≡ Some (symbols, count)
  pub runs : symbols_step s symbols ≡ Some x

counted_parts : (count : ℕ) (o : Option State) (x : State) (n : ℕ) → counted count o ≡ Some (x, n) → (o ≡ Some x)
    × (count ≡ n)
counted_parts count None x n e = absurd cc
counted_parts count (Some y) x n e = let p : (y, count) ≡ (x, n) =
    cc in (ap (λ (q : State × ℕ). Some q.0) p, ap (λ (q : State × ℕ). q.1) p)

read_parts : (s : State) (unclosed : ℕ) (line : List ℕ) (x : State) (count : ℕ) → is_text line ≡ true →
    (read : Option Read) → line_symbols unclosed line ≡ read → line_read s read ≡ Some (x, count) →
    LineParts s unclosed line x count
read_parts s unclosed line x count t None was e = absurd cc
read_parts s unclosed line x count t (Some r) was e =
    let p = counted_parts r.1 (symbols_step s r.0) x count e in
    record { text = t; symbols = r.0; says = was ∙ ap (λ n. Some (r.0, n)) p.1; runs = p.0 }

text_parts : (s : State) (unclosed : ℕ) (line : List ℕ) (x : State) (count : ℕ) (t : Bool) → is_text line ≡ t →
    cond t (line_read s (line_symbols unclosed line)) None ≡ Some (x, count) → LineParts s unclosed line x count
text_parts s unclosed line x count false was e = absurd cc
text_parts s unclosed line x count true was e =
    read_parts s unclosed line x count was (line_symbols unclosed line) refl e

pub line_parts : (s : State) (unclosed : ℕ) (line : List ℕ) (x : State) (count : ℕ) →
    line_step s unclosed line ≡ Some (x, count) → LineParts s unclosed line x count
line_parts s unclosed line x count e = text_parts s unclosed line x count (is_text line) refl e

pub line_from : (s : State) (unclosed : ℕ) (line : List ℕ) (x : State) (count : ℕ) (symbols : List Symbol) →
    is_text line ≡ true → line_symbols unclosed line ≡ Some (symbols, count) → symbols_step s symbols ≡ Some x →
    line_step s unclosed line ≡ Some (x, count)
line_from s unclosed line x count symbols t says runs =
    ap (λ (b : Bool). cond b (line_read s (line_symbols unclosed line)) None) t ∙ ap (line_read s) says
    ∙ ap (counted count) runs

-- ---- lines

-- what lines that were read say
abbrev pub LinesParts : State → ℕ → List (List ℕ) → State → Type 0
LinesParts s unclosed lines x = (symbols : List Symbol) × (count : ℕ)
    × (lines_symbols unclosed lines ≡ Some (symbols, count)) × (symbols_step s symbols ≡ Some x)

lines_more : (line : List ℕ) (others : List (List ℕ)) (s : State) (unclosed : ℕ) (y : State) (n : ℕ) (x : State) →
    LineParts s unclosed line y n → LinesParts y n others x → LinesParts s unclosed (line ∷ others) x
lines_more line others s unclosed y n x p (symbols, count, says, runs) = (
  p.symbols ++ symbols,
  count,
  ap (λ (b : Bool). cond b (after_line (λ o. lines_symbols o others) (line_symbols unclosed line)) None) p.text
      ∙ ap (after_line (λ o. lines_symbols o others)) p.says ∙ ap (with_symbols p.symbols) says,
  run_on p.symbols symbols s y p.runs ∙ runs,
)

abbrev Reads : List (List ℕ) → Type 0
Reads lines = (good : ℕ) (s : State) (unclosed : ℕ) (r : State × ℕ) → lines_step good (s, unclosed) lines ≡ Ok r →
    LinesParts s unclosed lines r.0

reads_line : (line : List ℕ) (others : List (List ℕ)) → Reads others →
    (good : ℕ) (s : State) (unclosed : ℕ) (r : State × ℕ) (o : Option (State × ℕ)) → line_step s unclosed line ≡ o
    → then_lines good (λ x. lines_step (suc good) x others) o ≡ Ok r → LinesParts s unclosed (line ∷ others) r.0
reads_line line others go good s unclosed r None was e = absurd cc
reads_line line others go good s unclosed r (Some y) was e =
    lines_more line others s unclosed y.0 y.1 r.0 (line_parts s unclosed line y.0 y.1 was)
    (go (suc good) y.0 y.1 r e)

pub lines_parts : (lines : List (List ℕ)) → Reads lines
lines_parts [] =
    λ good s unclosed r e.
    ([], unclosed, refl, (let there : (s, good) ≡ r = cc in ap (λ (q : State × ℕ). Some q.0) there))
lines_parts (line ∷ others) =
    λ good s unclosed r e.
    reads_line line others (lines_parts others) good s unclosed r (line_step s unclosed line) refl e

abbrev Read_from : List (List ℕ) → Type 0
Read_from lines = (good : ℕ) (s : State) (unclosed : ℕ) (symbols : List Symbol) (count : ℕ) (x : State) →
    lines_symbols unclosed lines ≡ Some (symbols, count) → symbols_step s symbols ≡ Some x
    → (n : ℕ) × (lines_step good (s, unclosed) lines ≡ Ok (x, n))

join_parts : (a : List Symbol) (read : Option Read) (symbols : List Symbol) (count : ℕ) →
    with_symbols a read ≡ Some (symbols, count) → (b : List Symbol) × (read ≡ Some (b, count)) × (symbols ≡ a ++ b)
join_parts a None symbols count e = absurd cc
join_parts a (Some r) symbols count e =
    let p : (a ++ r.0, r.1) ≡ (symbols, count) = cc in
    (r.0, ap (λ (q : Read). Some (r.0, q.1)) p, sym (ap (λ (q : Read). q.0) p))

ran_first : (o : Option State) (b : List Symbol) (x : State) → then_symbols (λ y. symbols_step y b) o ≡ Some x →
    (y : State) × (o ≡ Some y) × (symbols_step y b ≡ Some x)
ran_first None b x e = absurd cc
ran_first (Some y) b x e = (y, refl, e)

from_line : (line : List ℕ) (others : List (List ℕ)) → Read_from others →
    (good : ℕ) (s : State) (unclosed : ℕ) (symbols : List Symbol) (count : ℕ) (x : State) → is_text line ≡ true →
    (read : Option Read) → line_symbols unclosed line ≡ read
    → after_line (λ o. lines_symbols o others) read ≡ Some (symbols, count) → symbols_step s symbols ≡ Some x →
    (n : ℕ) × (lines_step good (s, unclosed) (line ∷ others) ≡ Ok (x, n))
from_line line others go good s unclosed symbols count x t None was e run = absurd cc
from_line line others go good s unclosed symbols count x t (Some r) was e run =
    let p = join_parts r.0 (lines_symbols r.1 others) symbols count e in
    let split = ran_first (symbols_step s r.0) p.0 x (sym (run_append r.0 p.0 s) ∙ ap (symbols_step s) (sym p.2)
    ∙ run) in
    let next = go (suc good) split.0 r.1 p.0 count x p.1 split.2 in (
      next.0,
      ap (then_lines good (λ y. lines_step (suc good) y others))
          (line_from s unclosed line split.0 r.1 r.0 t was split.1) ∙ next.1,
    )

from_text : (line : List ℕ) (others : List (List ℕ)) → Read_from others →
    (good : ℕ) (s : State) (unclosed : ℕ) (symbols : List Symbol) (count : ℕ) (x : State) (b : Bool) →
    is_text line ≡ b
    → cond b (after_line (λ o. lines_symbols o others) (line_symbols unclosed line)) None ≡ Some (symbols, count) →
    symbols_step s symbols ≡ Some x → (n : ℕ) × (lines_step good (s, unclosed) (line ∷ others) ≡ Ok (x, n))
from_text line others go good s unclosed symbols count x false was e run = absurd cc
from_text line others go good s unclosed symbols count x true was e run =
    from_line line others go good s unclosed symbols count x was (line_symbols unclosed line) refl e run

pub lines_from : (lines : List (List ℕ)) → Read_from lines
lines_from [] =
    λ good s unclosed symbols count x e run. (
      good,
      (let p : ([], unclosed) ≡ (symbols, count) = cc in let none : [] ≡ symbols =
          ap (λ (q : Read). q.0) p in let there : s ≡ x =
          some_same s x (ap (symbols_step s) none ∙ run) in ap (λ y. Ok (y, good)) there),
    )
  where
    some_same : (s x : State) → Some s ≡ Some x → s ≡ x
    some_same s x e = cc
lines_from (line ∷ others) =
    λ good s unclosed symbols count x e run.
    from_text line others (lines_from others) good s unclosed symbols count x (is_text line) refl e run

-- ---- documents

tree_parts : (n : ℕ) (o : Option Tree) (t : Tree) → tree_or n o ≡ Ok t → o ≡ Some t
tree_parts n None t e = absurd cc
tree_parts n (Some u) t e = cc

sound_parts : (lines : List (List ℕ)) (t : Tree) (r : Result (State × ℕ) ℕ) →
    lines_step 0 (start, 0) (contents lines) ≡ r → lines_end r ≡ Ok t → Document lines t
sound_parts lines t (Err g) was e = absurd cc
sound_parts lines t (Ok x) was e =
    let p = lines_parts (contents lines) 0 start 0 x was in
    (p.0, p.1, p.2, run_says p.0 x.0 t p.3 (tree_parts x.1 (ended x.0.frames x.0.slot) t e))

-- what is read is a document of that tree
pub outcome_document : (lines : List (List ℕ)) (t : Tree) → outcome lines ≡ Ok t → Document lines t
outcome_document lines t e = sound_parts lines t (lines_step 0 (start, 0) (contents lines)) refl e

-- a document is read as its tree
pub document_outcome : (lines : List (List ℕ)) (t : Tree) → Document lines t → outcome lines ≡ Ok t
document_outcome lines t (symbols, count, e, says) =
    let run = says_run t symbols says in
    let read = lines_from (contents lines) 0 start 0 symbols count run.0 e run.1 in
    ap lines_end read.1 ∙ ap (tree_or read.0) run.2

-- a text has at most one tree
pub one_tree : (lines : List (List ℕ)) (t u : Tree) → Document lines t → Document lines u → t ≡ u
one_tree lines t u d e = let a = document_outcome lines t d in let b = document_outcome lines u e in cc
