-- The line of a fault.
use Rattle.std.proofs.Common.{◌≡◌, ◌⊎◌, inl, inr, ℕ, zero, suc, ◌+◌, ◌-◌, ◌<◌, ◌≤◌, Bool, true, false, List, [], ◌∷◌, ◌++◌, length, take, Option, Some, None, Result, Ok, Err, refl, sym, ap, subst, ◌∙◌, arith}
use Rattle.std.proofs.lemmas.List.{take_all}
use Rattle.zr_names.specs.Tree.{Tree}
use Rattle.std.specs.Prelude.{IfErr, IfOk}
use Rattle.zr_yaml.specs.declared.fault.YamlFault.{YamlFault}
use Rattle.zr_yaml.specs.declared.fault.YamlFault.TheVariants.{BadYaml, NoMemory}
use Rattle.zr_yaml.specs.declared.symbols.Symbol.{Symbol}
use Rattle.zr_yaml.specs.Document.{Begins, Document, IsFault, IsFaultOf, OnlyTree}
use Rattle.zr_yaml.specs.Lines.{content_from, contents_from}
use Rattle.zr_yaml.specs.Reading.{GivesOutcome, State, ended, line_step, lines_end, lines_step, outcome, start, then_lines, tree_or}
use Rattle.zr_yaml.specs.Symbols.{line_symbols}
use Rattle.zr_yaml.proofs.Closing.{closing_line, ended_some, plain_return, plain_text}
use Rattle.zr_yaml.proofs.Holding.{Holds}
use Rattle.zr_yaml.proofs.Outcomes.{document_outcome, line_from, line_parts, one_tree, outcome_document}
use Rattle.zr_yaml.proofs.SoundFlows.{symbols_hold}
use Rattle.zr_yaml.proofs.Unclosed.{flows, line_flows}

abbrev Line : Type 0
Line = List ℕ

-- a run over lines of a text, of which the first is the text's first line or not
abbrev Run : ℕ → State → ℕ → Bool → List Line → Result (State × ℕ) ℕ
Run good s unclosed first lines = lines_step good (s, unclosed) (contents_from first lines)

-- ---- a bad line stays bad

abbrev StaysBad : List Line → Type 0
StaysBad lines = (first : Bool) (good : ℕ) (s : State) (unclosed g k : ℕ) (more : List Line) →
    Run good s unclosed first lines ≡ Err g → (good ≤ g)
    × (g < good + k → Run good s unclosed first (take k lines ++ more) ≡ Err g)

bad_line : (line : Line) (others : List Line) → StaysBad others →
    (first : Bool) (good : ℕ) (s : State) (unclosed g k : ℕ) (more : List Line) (o : Option (State × ℕ)) →
    line_step s unclosed (content_from first line) ≡ o
    → then_lines good (λ x. lines_step (suc good) x (contents_from false others)) o ≡ Err g → (good ≤ g)
    × (g < good + k → Run good s unclosed first (take k (line ∷ others) ++ more) ≡ Err g)
bad_line line others go first good s unclosed g zero more None was e = let same : good ≡ g =
    cc in (omega (arith, same), λ h. absurd (omega (arith, same)))
bad_line line others go first good s unclosed g (suc k) more None was e =
    let same : good ≡ g = cc in (
      omega (arith, same),
      λ h. ap (then_lines good (λ x. lines_step (suc good) x (contents_from false (take k others ++ more)))) was
          ∙ e,
    )
bad_line line others go first good s unclosed g zero more (Some y) was e = let r =
    go false (suc good) y.0 y.1 g 0 more e in (omega (arith, r.0), λ h. absurd (omega (arith, r.0)))
bad_line line others go first good s unclosed g (suc k) more (Some y) was e =
    let r = go false (suc good) y.0 y.1 g k more e in (
      omega (arith, r.0),
      λ h. ap (then_lines good (λ x. lines_step (suc good) x (contents_from false (take k others ++ more)))) was
          ∙ r.1 (omega (arith, h)),
    )

stays_bad : (lines : List Line) → StaysBad lines
stays_bad [] = λ first good s unclosed g k more e. absurd cc
stays_bad (line ∷ others) =
    λ first good s unclosed g k more e.
    bad_line line others (stays_bad others) first good s unclosed g k more
    (line_step s unclosed (content_from first line)) refl e

-- ---- the good lines before it

-- a first line has no bracket before it
abbrev Flagged : Bool → ℕ → Type 0
Flagged first unclosed = 0 < unclosed → first ≡ false

-- after so many lines the run goes on from a state that they lead to
pub record Front (good : ℕ) (s : State) (unclosed : ℕ) (first : Bool) (front : List Line) (count : ℕ) : Type 0 where
  pub state : State
  pub open_there : ℕ
  pub symbols : List Symbol
  pub holds : Holds state.frames state.slot symbols
  pub same : flows state.frames ≡ open_there
  pub later : Bool
  pub flagged : Flagged later open_there
  pub goes_on : (more : List Line) → Run good s unclosed first (front ++ more) ≡ Run count state open_there later more

-- one line more in front
front_line : (line : Line) (front : List Line) (first : Bool) (good : ℕ) (s : State) (unclosed : ℕ) (y : State)
    (n count : ℕ) → line_step s unclosed (content_from first line) ≡ Some (y, n) →
    Front (suc good) y n false front count → Front good s unclosed first (line ∷ front) count
front_line line front first good s unclosed y n count was f = record {
  state = f.state;
  open_there = f.open_there;
  symbols = f.symbols;
  holds = f.holds;
  same = f.same;
  later = f.later;
  flagged = f.flagged;
  goes_on = λ more. ap (then_lines good (λ x. lines_step (suc good) x (contents_from false (front ++ more)))) was
      ∙ f.goes_on more;
}

here : (good : ℕ) (s : State) (unclosed : ℕ) (first : Bool) (symbols : List Symbol) →
    Holds s.frames s.slot symbols → flows s.frames ≡ unclosed → Flagged first unclosed →
    Front good s unclosed first [] good
here good s unclosed first symbols h same flag = record {
  state = s;
  open_there = unclosed;
  symbols = symbols;
  holds = h;
  same = same;
  later = first;
  flagged = flag;
  goes_on = λ more. refl;
}

abbrev Fronts : List Line → Type 0
Fronts lines = (first : Bool) (good : ℕ) (s : State) (unclosed : ℕ) (symbols : List Symbol) →
    Holds s.frames s.slot symbols → flows s.frames ≡ unclosed → Flagged first unclosed
    → ((g : ℕ) → Run good s unclosed first lines ≡ Err g → (good ≤ g) × (g < good + length lines)
    × Front good s unclosed first (take (g - good) lines) g)
    × ((r : State × ℕ) → Run good s unclosed first lines ≡ Ok r → (r.1 ≡ good + length lines)
    × Front good s unclosed first lines r.1)

bad_front : (line : Line) (others : List Line) → Fronts others →
    (first : Bool) (good : ℕ) (s : State) (unclosed : ℕ) (symbols : List Symbol) → Holds s.frames s.slot symbols →
    flows s.frames ≡ unclosed → Flagged first unclosed
    → (o : Option (State × ℕ)) → line_step s unclosed (content_from first line) ≡ o → (g : ℕ) →
    then_lines good (λ x. lines_step (suc good) x (contents_from false others)) o ≡ Err g
    → (good ≤ g) × (g < good + suc (length others)) × Front good s unclosed first (take (g - good) (line ∷ others)) g
bad_front line others go first good s unclosed symbols h same flag None was g e =
    let equal : good ≡ g = cc in
    let none : g - good ≡ 0 = omega (arith, equal) in (
      omega (arith, equal),
      omega (arith, equal),
      subst (λ (k : ℕ). Front good s unclosed first (take k (line ∷ others)) g) (sym none)
          (subst (λ (k : ℕ). Front good s unclosed first [] k) equal
          (here good s unclosed first symbols h same flag)),
    )
bad_front line others go first good s unclosed symbols h same flag (Some y) was g e =
    let p = line_parts s unclosed (content_from first line) y.0 y.1 was in
    let there = symbols_hold p.symbols s symbols y.0 h p.runs in
    let count = line_flows unclosed (content_from first line) p.symbols y.1 s y.0 p.says p.runs same in
    let r = (go false (suc good) y.0 y.1 (symbols ++ p.symbols) there count (λ k. refl)).0 g e in
    let next : suc (g - suc good) ≡ g - good = omega (arith, r.0) in (
      omega (arith, r.0),
      omega (arith, r.1),
      subst (λ (k : ℕ). Front good s unclosed first (take k (line ∷ others)) g) next
          (front_line line (take (g - suc good) others) first good s unclosed y.0 y.1 g was r.2),
    )

good_front : (line : Line) (others : List Line) → Fronts others →
    (first : Bool) (good : ℕ) (s : State) (unclosed : ℕ) (symbols : List Symbol) → Holds s.frames s.slot symbols →
    flows s.frames ≡ unclosed → Flagged first unclosed
    → (o : Option (State × ℕ)) → line_step s unclosed (content_from first line) ≡ o → (q : State × ℕ) →
    then_lines good (λ x. lines_step (suc good) x (contents_from false others)) o ≡ Ok q
    → (q.1 ≡ good + suc (length others)) × Front good s unclosed first (line ∷ others) q.1
good_front line others go first good s unclosed symbols h same flag None was q e = absurd cc
good_front line others go first good s unclosed symbols h same flag (Some y) was q e =
    let p = line_parts s unclosed (content_from first line) y.0 y.1 was in
    let there = symbols_hold p.symbols s symbols y.0 h p.runs in
    let count = line_flows unclosed (content_from first line) p.symbols y.1 s y.0 p.says p.runs same in
    let r = (go false (suc good) y.0 y.1 (symbols ++ p.symbols) there count (λ k. refl)).1 q e in
    (omega (arith, r.0), front_line line others first good s unclosed y.0 y.1 q.1 was r.1)

fronts : (lines : List Line) → Fronts lines
fronts [] = λ first good s unclosed symbols h same flag. (
  λ g e. absurd cc,
  λ r e.
      let equal : (s, good) ≡ r = cc in
      let n : good ≡ r.1 = ap (λ (q : State × ℕ). q.1) equal in (
        omega (arith, n),
        subst (λ (k : ℕ). Front good s unclosed first [] k) n (here good s unclosed first symbols h same flag),
      ),
)
fronts (line ∷ others) = λ first good s unclosed symbols h same flag. (
  λ g e. bad_front line others (fronts others) first good s unclosed symbols h same flag
      (line_step s unclosed (content_from first line)) refl g e,
  λ q e. good_front line others (fronts others) first good s unclosed symbols h same flag
      (line_step s unclosed (content_from first line)) refl q e,
)

-- ---- what is in front begins a document

zero_or_more : (n : ℕ) → (n ≡ 0) ⊎ (0 < n)
zero_or_more zero = inl refl
zero_or_more (suc n) = inr (omega arith)

-- a run that ends with a tree
abbrev Ends : List Line → ℕ → State → ℕ → Bool → Type 0
Ends more count x unclosed first = (z : State) × (m : ℕ) × (t : Tree)
    × (Run count x unclosed first more ≡ Ok (z, m)) × (ended z.frames z.slot ≡ Some t)

finish : (count : ℕ) (x : State) (unclosed : ℕ) (symbols : List Symbol) (first : Bool) →
    Holds x.frames x.slot symbols → flows x.frames ≡ unclosed → Flagged first unclosed → (unclosed ≡ 0)
    ⊎ (0 < unclosed) → (more : List Line) × Ends more count x unclosed first
finish count x unclosed symbols first h same flag (inl none) = let e =
    ended_some x.frames h.0 x.slot h.3 (same ∙ none) in ([], (x, count, e.0, refl, e.1))
finish count x unclosed symbols first h same flag (inr some) =
    let c = closing_line x.frames x.slot symbols h (omega (arith, same)) in
    let says = ap (λ n. line_symbols n c.line) (sym same) ∙ c.says in
    let step = line_from x unclosed c.line c.state 0 c.symbols (plain_text c.line c.plain) says c.runs in
    let content : content_from first c.line ≡ c.line = ap (λ (f : Bool). content_from f c.line) (flag some)
    ∙ plain_return c.line c.plain in
    let none = line_flows unclosed c.line c.symbols 0 x c.state says c.runs same in
    let there = symbols_hold c.symbols x symbols c.state h c.runs in
    let e = ended_some c.state.frames there.0 c.state.slot there.3 none in (
      c.line ∷ [],
      (
        c.state,
        suc count,
        e.0,
        ap (λ l. lines_step count (x, unclosed) (l ∷ [])) content
            ∙ ap (then_lines count (λ y. lines_step (suc count) y [])) step,
        e.1,
      ),
    )

front_begins : (front : List Line) (count : ℕ) → Front 0 start 0 true front count → Begins front
front_begins front count f =
    let d = finish count f.state f.open_there f.symbols f.later f.holds f.same f.flagged (zero_or_more f.open_there) in
    let z = d.1 in
    (d.0, z.2, outcome_document (front ++ d.0) z.2 (ap lines_end (f.goes_on d.0 ∙ z.3) ∙ ap (tree_or z.1) z.4))

-- ---- the fault

no_document : (lines : List Line) (g : ℕ) → outcome lines ≡ Err g → (t : Tree) → Document lines t → ⊥
no_document lines g e t d = let o = document_outcome lines t d in cc

bad_in : (lines : List Line) (g : ℕ) → Run 0 start 0 true lines ≡ Err g → outcome lines ≡ Err g → IsFault lines (g + 1)
bad_in lines g run e =
    let f = (fronts lines true 0 start 0 [] ([], [], refl, refl, refl) refl (λ k. absurd (omega arith))).0 g run in
    let same : g - 0 ≡ g + 1 - 1 = omega arith in
    record {
      bad = no_document lines g e;
      counted = omega arith;
      within = omega (arith, f.1);
      begins = subst (λ (k : ℕ). Begins (take k lines)) same (front_begins (take (g - 0) lines) g f.2);
      longest = λ longer above within b. let stays =
          (stays_bad lines true 0 start 0 g longer b.0 run).1 (omega (arith, above)) in
          no_document (take longer lines ++ b.0) g (ap lines_end stays) b.1 b.2;
    }

bad_end : (lines : List Line) (r : State × ℕ) → Run 0 start 0 true lines ≡ Ok r → outcome lines ≡ Err r.1 →
    IsFault lines (r.1 + 1)
bad_end lines r run e =
    let f = (fronts lines true 0 start 0 [] ([], [], refl, refl, refl) refl (λ k. absurd (omega arith))).1 r run in
    let all : take (r.1 + 1 - 1) lines ≡ lines = take_all (r.1 + 1 - 1) lines (omega (arith, f.0)) in
    record {
      bad = no_document lines r.1 e;
      counted = omega arith;
      within = omega (arith, f.0);
      begins = subst Begins (sym all) (front_begins lines r.1 f.1);
      longest = λ longer above within b. absurd (omega (arith, f.0, above, within));
    }

tree_or_err : (n : ℕ) (o : Option Tree) (g : ℕ) → tree_or n o ≡ Err g → n ≡ g
tree_or_err n None g e = cc
tree_or_err n (Some t) g e = absurd cc

fault_cases : (lines : List Line) (g : ℕ) → outcome lines ≡ Err g → (r : Result (State × ℕ) ℕ) →
    Run 0 start 0 true lines ≡ r → lines_end r ≡ Err g → IsFault lines (g + 1)
fault_cases lines g e (Err h) was d = let same : h ≡ g = cc in bad_in lines g (was ∙ ap Err same) e
fault_cases lines g e (Ok r) was d =
    let same = tree_or_err r.1 (ended r.0.frames r.0.slot) g d in
    subst (λ (k : ℕ). IsFault lines (k + 1)) same (bad_end lines r was (e ∙ ap Err (sym same)))

-- where the outcome is a fault, so many lines begin a document, and no more
pub outcome_fault : (lines : List Line) (g : ℕ) → outcome lines ≡ Err g → IsFault lines (g + 1)
outcome_fault lines g e = fault_cases lines g e (Run 0 start 0 true lines) refl e

-- ---- what the code answers

fault_of : {X : Type 0} (view : X → Tree) (lines : List Line) (fault : YamlFault) →
    GivesOutcome view (Err fault) (outcome lines) → IsFaultOf lines fault
fault_of view lines (BadYaml n) h = let same : n - 1 + 1 ≡ n =
    omega (arith, h.0) in subst (IsFault lines) same (outcome_fault lines (n - 1) h.1)
fault_of view lines NoMemory h = tt

pub gives_document : {X : Type 0} (view : X → Tree) (lines : List Line) (result : Result X YamlFault) →
    GivesOutcome view result (outcome lines) → IfOk result (λ x. Document lines (view x))
gives_document view lines (Ok x) h = outcome_document lines (view x) h
gives_document view lines (Err fault) h = tt

pub gives_only : {X : Type 0} (view : X → Tree) (lines : List Line) (result : Result X YamlFault) →
    GivesOutcome view result (outcome lines) → IfOk result (λ x. OnlyTree lines (view x))
gives_only view lines (Ok x) h = λ other d. one_tree lines other (view x) d (outcome_document lines (view x) h)
gives_only view lines (Err fault) h = tt

pub gives_fault : {X : Type 0} (view : X → Tree) (lines : List Line) (result : Result X YamlFault) →
    GivesOutcome view result (outcome lines) → IfErr result (IsFaultOf lines)
gives_fault view lines (Ok x) h = tt
gives_fault view lines (Err fault) h = fault_of view lines fault h
