use Rattle.std.proofs.Common.{◌≡◌, ◌≢◌, ◌||◌, ℕ, Bool, true, false, true≢false, cond, not, List, [], ◌∷◌, ◌++◌, Option, Some, None, find, filter, reverse, refl, ap, sym, subst, ◌∙◌}
use Rattle.std.specs.Bool.{if◌then◌else◌}
use Rattle.std.specs.Cmp.Lexicographic.{bytes_decides, nat_list_eq_equiv}
use Rattle.std.specs.Option.{option_or}
use Rattle.std.specs.Prelude.{option_map}
use Rattle.std.proofs.lemmas.List.{append_assoc, reverse-append}
use Rattle.std.proofs.lemmas.List.Folds.{find-append}
use Rattle.zr_command.specs.declared.command.Answer.{Answer}
use Rattle.zr_command.specs.declared.command.Answer.TheVariants as answer
use Rattle.zr_command.specs.declared.command.Cmd.{Cmd}
use Rattle.zr_command.specs.declared.command.Cmd.TheVariants as cmd
use Rattle.zr_command.specs.declared.command.Reply.TheVariants as reply
use Rattle.zr_command.specs.declared.command.Transfer.{Transfer}
use Rattle.zr_command.specs.declared.version.VersionRow.{VersionRow}
use Rattle.zr_command.specs.Names.{same_text}
use Rattle.zr_command.specs.Kinds.{is_snap, newest}
use Rattle.zr_known.specs.declared.known.Known.{Known}
use Rattle.zr_jobs.specs.declared.pair.Pair.{Pair}
use Rattle.zr_known.specs.declared.known.Receiving.TheVariants.{Nothing}
use Rattle.zr_known.specs.Known.{arrival, is_among, is_own, known_after, presence_after, rows_of, target_rows, told_by, told_transfer, told_versions, without_name}
use Rattle.zr_known.specs.Replication.{MayGive, newest_known}

-- one turn more
pub known-more : (pair : Pair) (known : Known) (turns : List (Cmd × Answer)) (turn : Cmd × Answer) → known_after pair known (turns ++ turn ∷ []) ≡ told_by pair turn.0 turn.1 (known_after pair known turns)
known-more pair known [] turn = refl
known-more pair known (first ∷ turns) turn = known-more pair (told_by pair first.0 first.1 known) turns turn

pub failed-tells : (pair : Pair) (command : Cmd) (known : Known) → told_by pair command answer.Failed known ≡ known
failed-tells pair cmd.Sets known = refl
failed-tells pair (cmd.Versions path) known = refl
failed-tells pair (cmd.Holds path name) known = refl
failed-tells pair (cmd.Token token) known = refl
failed-tells pair (cmd.Snapshot path name) known = refl
failed-tells pair (cmd.Hold kind job path name) known = refl
failed-tells pair (cmd.Release kind job path name) known = refl
failed-tells pair (cmd.Bookmark path version name) known = refl
failed-tells pair (cmd.DestroySnaps path names) known = refl
failed-tells pair (cmd.DestroyMark path name) known = refl
failed-tells pair (cmd.Create path) known = refl
failed-tells pair (cmd.Abort path) known = refl
failed-tells pair (cmd.Transfer transfer) known = refl

pub garbled-tells : (pair : Pair) (command : Cmd) (line : ℕ) (known : Known) → told_by pair command (answer.Garbled line) known ≡ known
garbled-tells pair cmd.Sets line known = refl
garbled-tells pair (cmd.Versions path) line known = refl
garbled-tells pair (cmd.Holds path name) line known = refl
garbled-tells pair (cmd.Token token) line known = refl
garbled-tells pair (cmd.Snapshot path name) line known = refl
garbled-tells pair (cmd.Hold kind job path name) line known = refl
garbled-tells pair (cmd.Release kind job path name) line known = refl
garbled-tells pair (cmd.Bookmark path version name) line known = refl
garbled-tells pair (cmd.DestroySnaps path names) line known = refl
garbled-tells pair (cmd.DestroyMark path name) line known = refl
garbled-tells pair (cmd.Create path) line known = refl
garbled-tells pair (cmd.Abort path) line known = refl
garbled-tells pair (cmd.Transfer transfer) line known = refl

pub no-memory-tells : (pair : Pair) (command : Cmd) (known : Known) → told_by pair command answer.NoMemory known ≡ known
no-memory-tells pair cmd.Sets known = refl
no-memory-tells pair (cmd.Versions path) known = refl
no-memory-tells pair (cmd.Holds path name) known = refl
no-memory-tells pair (cmd.Token token) known = refl
no-memory-tells pair (cmd.Snapshot path name) known = refl
no-memory-tells pair (cmd.Hold kind job path name) known = refl
no-memory-tells pair (cmd.Release kind job path name) known = refl
no-memory-tells pair (cmd.Bookmark path version name) known = refl
no-memory-tells pair (cmd.DestroySnaps path names) known = refl
no-memory-tells pair (cmd.DestroyMark path name) known = refl
no-memory-tells pair (cmd.Create path) known = refl
no-memory-tells pair (cmd.Abort path) known = refl
no-memory-tells pair (cmd.Transfer transfer) known = refl

pub destroy-tells : (pair : Pair) (path : List ℕ) (names : List (List ℕ)) (given : Answer) (known : Known) → told_by pair (cmd.DestroySnaps path names) given known ≡ known
destroy-tells pair path names (answer.Done reply.Nothing) known = refl
destroy-tells pair path names (answer.Done (reply.Sets rows)) known = refl
destroy-tells pair path names (answer.Done (reply.Versions rows)) known = refl
destroy-tells pair path names (answer.Done (reply.Holds tags)) known = refl
destroy-tells pair path names (answer.Done (reply.Token info)) known = refl
destroy-tells pair path names answer.Failed known = refl
destroy-tells pair path names (answer.Garbled line) known = refl
destroy-tells pair path names answer.NoMemory known = refl

not-true : (b : Bool) → (b ≡ true → ⊥) → b ≡ false
not-true true wrong = absurd (wrong refl)
not-true false wrong = refl

-- texts that differ, by the test
differ : (one other : List ℕ) → one ≢ other → same_text one other ≡ false
differ one other wrong = not-true (same_text one other) (λ same. wrong ((bytes_decides one other).0 same))

equal : (text : List ℕ) → same_text text text ≡ true
equal text = nat_list_eq_equiv.refl text

pub source-listed : (pair : Pair) (rows : List VersionRow) (known : Known) → told_versions pair pair.source rows known ≡ record known { source = record known.source { listing = Some rows }; marks = filter (is_own pair.job) rows }
source-listed pair rows known = rw (equal pair.source) refl

pub target-listed : (pair : Pair) (rows : List VersionRow) (known : Known) → pair.target ≢ pair.source → told_versions pair pair.target rows known ≡ record known { target = record known.target { listing = Some rows }; arrived = Some [] }
target-listed pair rows known apart = rw (differ pair.target pair.source apart, equal pair.target) refl

pub other-listed : (pair : Pair) (path : List ℕ) (rows : List VersionRow) (known : Known) → path ≢ pair.source → path ≢ pair.target → told_versions pair path rows known ≡ known
other-listed pair path rows known one other = rw (differ path pair.source one, differ path pair.target other) refl

same-target : (pair : Pair) (transfer : Transfer) → transfer.target ≡ pair.target → same_text transfer.target pair.target ≡ true
same-target pair transfer same = subst (λ (t : List ℕ). same_text t pair.target ≡ true) (sym same) (equal pair.target)

arrived : (pair : Pair) (transfer : Transfer) (known : Known) → transfer.target ≡ pair.target → told_transfer pair transfer known ≡ record known {
  presence = presence_after known.presence;
  arrived = option_map (λ arrived. arrived ++ arrival transfer ∷ []) known.arrived;
  transferred = true;
  receiving = Nothing;
}
arrived pair transfer known same = rw (same-target pair transfer same) refl

-- the last of some rows is the newest where it is a snapshot
last-newest : (rows : List VersionRow) (row : VersionRow) → is_snap row ≡ true → newest (rows ++ row ∷ []) ≡ Some row
last-newest rows row snapshot =
    ap (find is_snap) (reverse-append rows (row ∷ [])) ∙ rw snapshot refl

-- the newest of a listing and of what arrived since
pub newest_append : (listing arrived : List VersionRow) → newest (listing ++ arrived) ≡ option_or (newest arrived) (newest listing)
newest_append listing arrived =
    ap (find is_snap) (reverse-append listing arrived) ∙ find-append is_snap (reverse arrived) (reverse listing)

-- what has arrived stands behind the target's versions
pub arrival-rows : (known : Known) (row : VersionRow) (rows : List VersionRow) → target_rows known ≡ Some rows → option_map (λ arrived. rows_of known.target.listing ++ arrived) (option_map (λ arrived. arrived ++ row ∷ []) known.arrived) ≡ Some (rows ++ row ∷ [])
arrival-rows known row rows are = by known.arrived are where
  by : (arrived : Option (List VersionRow)) → option_map (λ arrived. rows_of known.target.listing ++ arrived) arrived ≡ Some rows → option_map (λ arrived. rows_of known.target.listing ++ arrived) (option_map (λ arrived. arrived ++ row ∷ []) arrived) ≡ Some (rows ++ row ∷ [])
  by None are = cc
  by (Some arrived) are =
      let same : rows_of known.target.listing ++ arrived ≡ rows = (let it : Some (rows_of known.target.listing ++ arrived) ≡ Some rows = are in cc) in
      ap Some (sym (append_assoc (rows_of known.target.listing) arrived (row ∷ [])) ∙ ap (λ (rs : List VersionRow). rs ++ row ∷ []) same)

pub arrival-newest : (pair : Pair) (transfer : Transfer) (rows : List VersionRow) (known : Known) → transfer.target ≡ pair.target → target_rows known ≡ Some rows → newest_known (told_transfer pair transfer known) ≡ Some (arrival transfer)
arrival-newest pair transfer rows known same are =
    ap newest_known (arrived pair transfer known same)
    ∙ ap (λ (o : Option (List VersionRow)). newest (rows_of o)) (arrival-rows known (arrival transfer) rows are)
    ∙ last-newest rows (arrival transfer) refl

pub arrival-whole : (pair : Pair) (transfer : Transfer) (known : Known) → transfer.target ≡ pair.target → (told_transfer pair transfer known).receiving ≡ Nothing
arrival-whole pair transfer known same = ap (λ (k : Known). k.receiving) (arrived pair transfer known same)

pub arrival-marks : (pair : Pair) (transfer : Transfer) (known : Known) → (told_transfer pair transfer known).marks ≡ known.marks
arrival-marks pair transfer known = choose (same_text transfer.target pair.target) where
  choose : (b : Bool) → (if b then record known {
    presence = presence_after known.presence;
    arrived = option_map (λ arrived. arrived ++ arrival transfer ∷ []) known.arrived;
    transferred = true;
    receiving = Nothing;
  } else known).marks ≡ known.marks
  choose true = refl
  choose false = refl

-- the one transfer that may come next
pub one-transfer : (pair : Pair) (known : Known) (one other : Transfer) → MayGive pair known (cmd.Transfer one) → MayGive pair known (cmd.Transfer other) → one ≡ other
one-transfer pair known one other a b = let both : Some one ≡ Some other = sym a.next ∙ b.next in cc

-- a name that is not among others is not taken out of them
pub none_without : (name : List ℕ) (names : List (List ℕ)) → is_among names name ≡ false → without_name name names ≡ names
none_without name [] none = refl
none_without name (other ∷ names) none = by (same_text other name) none (none_without name names) where
  by : (b : Bool) → (b || is_among names name) ≡ false → (is_among names name ≡ false → without_name name names ≡ names) → cond (not b) (other ∷ without_name name names) (without_name name names) ≡ other ∷ names
  by true none rest = absurd (true≢false none)
  by false none rest = ap (λ (ns : List (List ℕ)). other ∷ ns) (rest none)
