use Rattle.std.proofs.Common.{◌≡◌, ℕ, Bool, true, false, List, [], ◌∷◌, ◌++◌, Option, Some, None, refl, ap, sym, subst, ◌∙◌}
use Rattle.zr_names.specs.declared.unit.Unit.{Unit}
use Rattle.zr_names.specs.declared.unit.Work.{Work}
use Rattle.zr_names.specs.declared.unit.Work.TheVariants as work
use Rattle.zr_command.specs.declared.command.Answer.{Answer}
use Rattle.zr_command.specs.declared.command.Cmd.{Cmd}
use Rattle.zr_command.specs.declared.command.Cmd.TheVariants as cmd
use Rattle.zr_command.specs.declared.command.Entry.{Entry}
use Rattle.zr_command.specs.declared.command.Entry.TheVariants.{Call}
use Rattle.zr_command.specs.declared.command.Transfer.{Transfer}
use Rattle.zr_command.specs.Plain.{plain}
use Rattle.zr_jobset.specs.Sets.{Jobs}
use Rattle.zr_jobset.specs.Units.{pair_of}
use Rattle.zr_jobs.specs.declared.pair.Pair.{Pair}
use Rattle.zr_known.specs.Known.{known_of}
use Rattle.zr_permit.specs.Transcript.{LegalAfter, Permits, Replicates, Transcript, Turn}
use Rattle.zr_permit.specs.Turned.{calls}
use Rattle.zr_known.proofs.Knowing.{one-transfer}

abbrev is_transfer : Cmd → Bool
is_transfer (cmd.Transfer transfer) = true
is_transfer command = false

-- only a transfer does not stand as it is
plain-itself : (c : Cmd) → is_transfer c ≡ false → plain c ≡ c
plain-itself cmd.Sets e = refl
plain-itself (cmd.Versions path) e = refl
plain-itself (cmd.Holds path name) e = refl
plain-itself (cmd.Token token) e = refl
plain-itself (cmd.Snapshot path name) e = refl
plain-itself (cmd.Hold kind job path name) e = refl
plain-itself (cmd.Release kind job path name) e = refl
plain-itself (cmd.Bookmark path version name) e = refl
plain-itself (cmd.DestroySnaps path names) e = refl
plain-itself (cmd.DestroyMark path name) e = refl
plain-itself (cmd.Create path) e = refl
plain-itself (cmd.Abort path) e = refl
plain-itself (cmd.Transfer transfer) e = cc

plain-kind : (c : Cmd) → is_transfer (plain c) ≡ is_transfer c
plain-kind cmd.Sets = refl
plain-kind (cmd.Versions path) = refl
plain-kind (cmd.Holds path name) = refl
plain-kind (cmd.Token token) = refl
plain-kind (cmd.Snapshot path name) = refl
plain-kind (cmd.Hold kind job path name) = refl
plain-kind (cmd.Release kind job path name) = refl
plain-kind (cmd.Bookmark path version name) = refl
plain-kind (cmd.DestroySnaps path names) = refl
plain-kind (cmd.DestroyMark path name) = refl
plain-kind (cmd.Create path) = refl
plain-kind (cmd.Abort path) = refl
plain-kind (cmd.Transfer transfer) = refl

transfer-is : (c : Cmd) → is_transfer c ≡ true → (transfer : Transfer) × (c ≡ cmd.Transfer transfer)
transfer-is cmd.Sets e = cc
transfer-is (cmd.Versions path) e = cc
transfer-is (cmd.Holds path name) e = cc
transfer-is (cmd.Token token) e = cc
transfer-is (cmd.Snapshot path name) e = cc
transfer-is (cmd.Hold kind job path name) e = cc
transfer-is (cmd.Release kind job path name) e = cc
transfer-is (cmd.Bookmark path version name) e = cc
transfer-is (cmd.DestroySnaps path names) e = cc
transfer-is (cmd.DestroyMark path name) e = cc
transfer-is (cmd.Create path) e = cc
transfer-is (cmd.Abort path) e = cc
transfer-is (cmd.Transfer transfer) e = (transfer, refl)

-- one transfer at most is permitted to a unit after its turns
permits-one : (jobs : Jobs) (number : ℕ) (unit_work : Work) (past : Transcript) (one other : Transfer) → Permits jobs number unit_work past (cmd.Transfer one) → Permits jobs number unit_work past (cmd.Transfer other) → one ≡ other
permits-one jobs number work.Scan past one other a b = absurd a
permits-one jobs number work.Parents past one other a b = absurd a
permits-one jobs number (work.Snap path prefix) past one other a b = absurd a
permits-one jobs number (work.PruneSource path) past one other a b = absurd a
permits-one jobs number (work.PruneTarget path) past one other a b = absurd a
permits-one jobs number (work.Replicate source) past one other a b = of-pair (pair_of jobs number source) a b where
  of-pair : (pair : Option Pair) → Replicates pair past (cmd.Transfer one) → Replicates pair past (cmd.Transfer other) → one ≡ other
  of-pair None a b = absurd a
  of-pair (Some pair) a b = one-transfer pair (known_of pair past) one other a b

-- two commands that are permitted and have the same words are one
permits-plain : (jobs : Jobs) (number : ℕ) (unit_work : Work) (past : Transcript) (one other : Cmd) → Permits jobs number unit_work past one → Permits jobs number unit_work past other → plain one ≡ plain other → one ≡ other
permits-plain jobs number unit_work past one other a b same = choose (is_transfer one) refl where
  kinds : is_transfer one ≡ is_transfer other
  kinds = sym (plain-kind one) ∙ ap is_transfer same ∙ plain-kind other

  choose : (t : Bool) → is_transfer one ≡ t → one ≡ other
  choose false is = sym (plain-itself one is) ∙ same ∙ plain-itself other (sym kinds ∙ is)
  choose true is =
      let first = transfer-is one is in
      let second = transfer-is other (sym kinds ∙ is) in
      let May : Cmd → Type 0 = λ c. Permits jobs number unit_work past c in
      let equal = permits-one jobs number unit_work past first.0 second.0 (subst May first.1 a) (subst May second.1 b) in
      first.1 ∙ ap cmd.Transfer equal ∙ sym second.1

head-same : (a b : Entry) (more rest : List Entry) → a ∷ more ≡ b ∷ rest → (a ≡ b) × (more ≡ rest)
head-same a b more rest e = (cc, cc)

call-same : (a b : Cmd) (x y : Answer) → Call a x ≡ Call b y → (a ≡ b) × (x ≡ y)
call-same a b x y e = (cc, cc)

-- a record is read as one legal transcript at most
pub one-reading : (jobs : Jobs) (unit : Unit) (past one other : Transcript) → LegalAfter jobs unit past one → LegalAfter jobs unit past other → calls one ≡ calls other → one ≡ other
one-reading jobs unit past [] [] a b same = refl
one-reading jobs unit past [] (turn ∷ turns) a b same = cc
one-reading jobs unit past (turn ∷ turns) [] a b same = cc
one-reading jobs unit past ((c, x) ∷ ones) ((d, y) ∷ others) a b same =
    let heads = head-same (Call (plain c) x) (Call (plain d) y) (calls ones) (calls others) same in
    let parts = call-same (plain c) (plain d) x y heads.0 in
    let command : c ≡ d = permits-plain jobs unit.job unit.work past c d a.0.permits b.0.permits parts.0 in
    let turn : (c, x) ≡ (d, y) = ap (λ (e : Cmd). (e, x)) command ∙ ap (λ (z : Answer). (d, z)) parts.1 in
    let after : Turn → Type 0 = λ t. LegalAfter jobs unit (past ++ t ∷ []) others in
    let rest = one-reading jobs unit (past ++ (c, x) ∷ []) ones others a.1 (subst after (sym turn) b.1) heads.1 in
    ap (λ (t : Turn). t ∷ ones) turn ∙ ap (λ (ts : Transcript). (d, y) ∷ ts) rest
