use Rattle.std.proofs.Common.{◌≡◌, ◌∙◌, ◌==◌, ◌&&◌, ℕ, ◌+◌, ◌<◌, Bool, true, false, not, List, [], ◌∷◌, ◌++◌, Option, Some, None, ap, append-nil, append_assoc, arith, get_or, inl, inr, length, length-append, nat_eq, refl, subst, sym}
use Rattle.std.specs.Bool.{if◌then◌else◌}
use Rattle.std.specs.Cmp.Lexicographic.{pointwise}
use Rattle.std.specs.List.{All, Contains}
use Rattle.std.proofs.lemmas.Bool.Decides.{nat_tests}
use Rattle.std.proofs.lemmas.List.Elements.{Contains-append_cases, Contains-append_right, Contains-push_cases}
use Rattle.zr_names.specs.declared.unit.Unit.{Unit}
use Rattle.zr_names.specs.declared.unit.Work.{Work}
use Rattle.zr_names.specs.declared.unit.Work.TheVariants as work
use Rattle.zr_command.specs.declared.command.Answer.TheVariants as answer
use Rattle.zr_command.specs.declared.command.Cmd.TheVariants as cmd
use Rattle.zr_command.specs.declared.command.Reply.TheVariants as reply
use Rattle.zr_command.specs.declared.version.VersionName.TheVariants.{Snap}
use Rattle.zr_command.specs.declared.version.VersionRow.{VersionRow}
use Rattle.zr_jobset.specs.Sets.{Jobs}
use Rattle.zr_rules.specs.declared.rule.RuleSpec.{RuleSpec}
use Rattle.zr_rules.specs.Keeps.{retained}
use Rattle.zr_permit.specs.Honest.{IsHonest, MayGo, rules_by, WasListed}
use Rattle.zr_jobset.specs.Units.{name_of, pair_of, rules_of}
use Rattle.zr_jobs.specs.declared.pair.Pair.{Pair}
use Rattle.zr_permit.specs.Keep.{cursor_txg, doomed, going_from, gone, rule_row, snaps_of, text_of}
use Rattle.zr_permit.proofs.Dooming.{snap-named}
use Rattle.zr_permit.proofs.Snaps.{snaps-more, snaps-same}
use Rattle.zr_command.specs.Kinds.{is_snap}
use Rattle.zr_permit.specs.Transcript.{Allowed, doomed_in, Legal, LegalAfter, later_of, listed, Permits, rows_told, Transcript, Turn, Replicates}

no-element : {X : Type 0} (x : X) → Contains [] x → ⊥
no-element x within = let inside = within.1 in omega arith

and-both : (x y : Bool) → (x && y) ≡ true → (x ≡ true) × (y ≡ true)
and-both true true e = (refl, refl)
and-both true false e = cc
and-both false y e = cc

not-true : (b : Bool) → not b ≡ true → b ≡ false
not-true true e = cc
not-true false e = refl

same-number : (x y : ℕ) → nat_eq x y ≡ true → x ≡ y
same-number x y e = grind (arith, nat_tests)

texts-same : (one other : List ℕ) → pointwise nat_eq one other ≡ true → one ≡ other
texts-same [] [] e = refl
texts-same [] (y ∷ ys) e = cc
texts-same (x ∷ xs) [] e = cc
texts-same (x ∷ xs) (y ∷ ys) e =
    let both = and-both (nat_eq x y) (pointwise nat_eq xs ys) e in
    let first = same-number x y both.0 in
    let rest = texts-same xs ys both.1 in
    cc

-- the turn that lists some rows of a dataset
abbrev lists : List ℕ → List VersionRow → Turn
lists path rows = (cmd.Versions path, answer.Done (reply.Versions rows))

listing-turn : (path : List ℕ) (turn : Turn) (rows : List VersionRow) → rows_told path turn.0 turn.1 ≡ Some rows → turn ≡ lists path rows
listing-turn path (cmd.Versions other, answer.Done (reply.Versions told)) rows e = choose (pointwise nat_eq other path) refl e where
  choose : (b : Bool) → pointwise nat_eq other path ≡ b → (if b then Some told else None) ≡ Some rows → lists other told ≡ lists path rows
  choose true same e =
      let paths : other ≡ path = texts-same other path same in
      let both : told ≡ rows = cc in
      ap (λ p. lists p told) paths ∙ ap (lists path) both
  choose false same e = cc
listing-turn path (command, given) rows e = cc

-- the last listing of a dataset is a turn of the transcript
listed-turn : (path : List ℕ) (turns : Transcript) (rows : List VersionRow) → listed path turns ≡ Some rows → Contains turns (lists path rows)
listed-turn path [] rows e = cc
listed-turn path (turn ∷ turns) rows e = choose (listed path turns) refl (listed-turn path turns rows) e where
  choose : (later : Option (List VersionRow)) → listed path turns ≡ later → (listed path turns ≡ Some rows → Contains turns (lists path rows)) → later_of (rows_told path turn.0 turn.1) later ≡ Some rows → Contains (turn ∷ turns) (lists path rows)
  choose None none in_rest e = (0, omega arith, listing-turn path turn rows e)
  choose (Some told) some in_rest e = Contains-append_right (turn ∷ []) turns _ (in_rest (some ∙ e))

-- a snapshot that one row gives up
gone-may : (job : List ℕ) (rules : List RuleSpec) (rows earlier : List VersionRow) (row : VersionRow) (later : List VersionRow) (name : List ℕ) → 0 < length rules → rows ≡ earlier ++ row ∷ later → is_snap row ≡ true → Contains (gone (retained rules (snaps_of rows) (cursor_txg job rows) (length (snaps_of earlier)) (rule_row row)) row) name → MayGo job rules rows name
gone-may job rules rows earlier row later name some is snap within = choose ((row.refs == 0) && not kept) refl within where
  kept : Bool
  kept = retained rules (snaps_of rows) (cursor_txg job rows) (length (snaps_of earlier)) (rule_row row)

  choose : (b : Bool) → (row.refs == 0) && not kept ≡ b → Contains (if b then text_of row.name ∷ [] else []) name → MayGo job rules rows name
  choose true goes within =
      elim (Contains-push_cases [] (text_of row.name) name within) [
        | inl none ↦ absurd (no-element name none)
        | inr same ↦
            record {
              some_rule = some;
              earlier = earlier;
              row = row;
              later = later;
              listed = is;
              named = snap-named row.name snap ∙ ap Snap same;
              no_holds = same-number row.refs 0 (and-both (row.refs == 0) _ goes).0;
              kept_by_none = not-true kept (and-both (row.refs == 0) _ goes).1;
            }
      ]
  choose false goes within = absurd (no-element name within)

one-more : (earlier : List VersionRow) (row : VersionRow) → is_snap row ≡ true → length (snaps_of (earlier ++ row ∷ [])) ≡ length (snaps_of earlier) + 1
one-more earlier row snap = ap length (snaps-more earlier row snap) ∙ length-append (snaps_of earlier) (rule_row row ∷ [])

from-may : (job : List ℕ) (rules : List RuleSpec) (rows earlier left : List VersionRow) (name : List ℕ) → 0 < length rules → rows ≡ earlier ++ left → Contains (going_from rules (snaps_of rows) (cursor_txg job rows) (length (snaps_of earlier)) left) name → MayGo job rules rows name
from-may job rules rows earlier [] name some is within = absurd (no-element name within)
from-may job rules rows earlier (row ∷ later) name some is within = choose (is_snap row) refl (from-may job rules rows (earlier ++ row ∷ []) later name some (is ∙ sym (append_assoc earlier (row ∷ []) later))) within where
  place : ℕ
  place = length (snaps_of earlier)

  going : ℕ → List (List ℕ)
  going at = going_from rules (snaps_of rows) (cursor_txg job rows) at later

  here : List (List ℕ)
  here = gone (retained rules (snaps_of rows) (cursor_txg job rows) place (rule_row row)) row

  choose : (b : Bool) → is_snap row ≡ b → (Contains (going (length (snaps_of (earlier ++ row ∷ [])))) name → MayGo job rules rows name) → Contains (if b then here ++ going (place + 1) else going place) name → MayGo job rules rows name
  choose true snap further within =
      let At : ℕ → Type 0 = λ n. Contains (going n) name in
      elim (Contains-append_cases here (going (place + 1)) name within) [
        | inl now ↦ gone-may job rules rows earlier row later name some is snap now
        | inr there ↦ further (subst At (sym (one-more earlier row snap)) there)
      ]
  choose false mark further within =
      let At : ℕ → Type 0 = λ n. Contains (going n) name in
      further (subst At (sym (ap length (snaps-same earlier row mark))) within)

-- what a listing dooms may go
pub doomed-may : (job : List ℕ) (rules : List RuleSpec) (rows : List VersionRow) (name : List ℕ) → Contains (doomed job rules rows) name → MayGo job rules rows name
doomed-may job [] rows name within = absurd (no-element name within)
doomed-may job (rule ∷ rules) rows name within =
    from-may job (rule ∷ rules) rows [] rows name (omega arith) refl within

-- each turn of a legal transcript was allowed after those before it
legal-at : (jobs : Jobs) (unit : Unit) (before past : Transcript) (turn : Turn) (later : Transcript) → LegalAfter jobs unit before (past ++ turn ∷ later) → Allowed jobs unit (before ++ past) turn.0
legal-at jobs unit before [] turn later legal =
    let allows : Transcript → Type 0 = λ ts. Allowed jobs unit ts turn.0 in
    subst allows (sym (append-nil before)) legal.0
legal-at jobs unit before (first ∷ past) turn later legal =
    let allows : Transcript → Type 0 = λ ts. Allowed jobs unit ts turn.0 in
    subst allows (append_assoc before (first ∷ []) past) (legal-at jobs unit (before ++ first ∷ []) past turn later legal.1)

-- a replication unit destroys no snapshot
no-destroy : (pair : Option Pair) (past : Transcript) (path : List ℕ) (names : List (List ℕ)) → Replicates pair past (cmd.DestroySnaps path names) → ⊥
no-destroy None past path names replicates = replicates
no-destroy (Some pair) past path names replicates = replicates

-- a destroy is permitted by a listing alone
permits-listed : (jobs : Jobs) (number : ℕ) (unit_work : Work) (past : Transcript) (path : List ℕ) (names : List (List ℕ)) → Permits jobs number unit_work past (cmd.DestroySnaps path names) → All (WasListed (name_of jobs number) (rules_by jobs number unit_work) past path) names
permits-listed jobs number (work.PruneSource own) past path names permits = λ k d inside. choose (listed own past) refl (get_or names k d) (permits.1 k d inside) where
  choose : (told : Option (List VersionRow)) → listed own past ≡ told → (name : List ℕ) → Contains (doomed_in jobs number told) name → WasListed (name_of jobs number) (rules_of jobs number) past path name
  choose None none name within = absurd (no-element name within)
  choose (Some rows) told name within =
      let on : List ℕ → Type 0 = λ p. Contains past (cmd.Versions p, answer.Done (reply.Versions rows)) in
      record {
        rows = rows;
        told = subst on (sym permits.0) (listed-turn own past rows told);
        may_go = doomed-may (name_of jobs number) (rules_of jobs number) rows name within;
      }
permits-listed jobs number (work.Replicate source) past path names permits =
    absurd (no-destroy (pair_of jobs number source) past path names permits)
permits-listed jobs number other past path names permits = absurd permits

-- a legal transcript destroys honestly
pub legal-honest : (jobs : Jobs) (unit : Unit) (turns : Transcript) → Legal jobs unit turns → IsHonest jobs unit turns
legal-honest jobs unit turns legal = λ past later path names given is.
    let after : Transcript → Type 0 = LegalAfter jobs unit [] in
    permits-listed jobs unit.job unit.work past path names (legal-at jobs unit [] past (cmd.DestroySnaps path names, given) later (subst after is legal)).permits
