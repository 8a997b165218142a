-- How lines are read one after the other.
use Rattle.std.proofs.Common.{◌≡◌, ◌++◌, ◌<◌, inl, inr, ℕ, ◌+◌, List, [], ◌∷◌, subst, sym, ap, refl, length, get_or, drop, map, ◌∙◌, append-nil}
use Rattle.std.proofs.lemmas.List.{drop_more}
use Rattle.zr_names.specs.Tree.{Tree}
use Rattle.zr_filter.specs.declared.entry.FilterEntry.{FilterEntry}
use Rattle.zr_jobwalk.specs.declared.fault.JobFault.{JobFault}
use Rattle.zr_jobwalk.specs.declared.line.Line.{Line}
use Rattle.zr_jobwalk.specs.Lines.{pair_of}
use Rattle.zr_jobrules.specs.Filesystems.{AreEntries, BadLine, FirstLine, IsEntry}

-- some lines are read: whatever the rest gives comes behind them, and a fault of the rest is that of all
pub record SoFar (front : List ℕ) (all rest : List (List ℕ × Tree)) (done : List FilterEntry) : Type 0 where
  pub good : (entries : List FilterEntry) → AreEntries rest entries → AreEntries all (done ++ entries)
  pub bad : (fault : JobFault) → FirstLine front rest fault → FirstLine front all fault

append_one : {X : Type 0} (xs : List X) (x : X) (ys : List X) → (xs ++ x ∷ []) ++ ys ≡ xs ++ x ∷ ys
append_one [] x ys = refl
append_one {X} (one ∷ xs) x ys = ap (λ (zs : List X). one ∷ zs) (append_one xs x ys)

pub lines_next : (lines : List Line) (index : ℕ) (here : Line) → index < length lines → here ≡ get_or lines index here → map pair_of (drop index lines) ≡ pair_of here ∷ map pair_of (drop (index + 1) lines)
lines_next lines index here inside at =
    let next : drop index lines ≡ here ∷ drop (index + 1) lines = rw at (drop_more lines index here inside) in
    ap (map pair_of) next

pub begun : (front : List ℕ) (all : List (List ℕ × Tree)) → SoFar front all all []
begun front all = record { good = λ entries are. are; bad = λ fault first. first }

pub one_more : (front : List ℕ) (all here rest : List (List ℕ × Tree)) (at : List ℕ × Tree) (entry : FilterEntry) (done more : List FilterEntry) → SoFar front all here done → here ≡ at ∷ rest → IsEntry at entry → more ≡ done ++ entry ∷ [] → SoFar front all rest more
one_more front all here rest at entry done more so_far next is pushed = record {
  good = λ entries are.
      let AreAll : List FilterEntry → Type 0 = λ es. AreEntries all es in
      let Rest : List (List ℕ × Tree) → Type 0 = λ lines. AreEntries lines (entry ∷ entries) in
      let found = so_far.good (entry ∷ entries) (subst Rest (sym next) (is, are)) in
      subst AreAll (sym (ap (λ (es : List FilterEntry). es ++ entries) pushed ∙ append_one done entry entries)) found;
  bad = λ fault first.
      let Rest : List (List ℕ × Tree) → Type 0 = λ lines. FirstLine front lines fault in
      so_far.bad fault (subst Rest (sym next) (inr ((entry, is), first)));
}

pub stopped : (front : List ℕ) (all here rest : List (List ℕ × Tree)) (at : List ℕ × Tree) (done : List FilterEntry) (fault : JobFault) → SoFar front all here done → here ≡ at ∷ rest → BadLine front at fault → FirstLine front all fault
stopped front all here rest at done fault so_far next bad =
    let Rest : List (List ℕ × Tree) → Type 0 = λ lines. FirstLine front lines fault in
    so_far.bad fault (subst Rest (sym next) (inl bad))

pub all_read : (front : List ℕ) (all here : List (List ℕ × Tree)) (done : List FilterEntry) → SoFar front all here done → here ≡ [] → AreEntries all done
all_read front all here done so_far none =
    let AreAll : List FilterEntry → Type 0 = λ es. AreEntries all es in
    let Rest : List (List ℕ × Tree) → Type 0 = λ lines. AreEntries lines [] in
    subst AreAll (append-nil done) (so_far.good [] (subst Rest (sym none) tt))
