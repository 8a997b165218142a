use Rattle.std.proofs.Common.{◌≡◌, ◌==◌, ◌&&◌, ◌||◌, ℕ, Bool, true, false, cond, List, [], ◌∷◌, ◌++◌, Some, None, nat_eq, refl, ap, ◌∙◌, sym, subst, ◌⊎◌, inl, inr, Result, Ok, Err}
use Rattle.std.specs.Cmp.Lexicographic.{pointwise}
use Rattle.std.specs.List.{join_with_byte, list_any}
use Rattle.std.proofs.lemmas.Cmp.{nat_list_eq_equiv}
use Rattle.std.proofs.lemmas.Slice.Eq.{bytes_eq-Decides}
use Rattle.zr_command.specs.declared.command.Cmd.TheVariants as cmd
use Rattle.zr_command.specs.declared.version.VersionName.TheVariants as version
use Rattle.zr_cmd.specs.Calls.{call_of, form_for, has_words}
use Rattle.zr_cmd.specs.Forms.{is_sign, read_as}
use Rattle.zr_cmd.specs.Words.{IsNamed, IsUnknown, Reads, Spells, sets_words, versions_words, words_of}
use Rattle.zr_cmd.specs.declared.argv.ArgvFault.{ArgvFault}
use Rattle.zr_cmd.specs.declared.argv.ArgvFault.TheVariants.{UnknownCommand, BadWord, NoMemory}
use Rattle.zr_cmd.specs.declared.forms.ZfsCall.{ZfsCall}
use Rattle.zr_cmd.specs.declared.forms.ZfsCall.TheVariants as call
use Rattle.zr_cmd.proofs.Cut.{set-of, name-of, names-of, kind-of, after-front}
use Rattle.zr_cmd.proofs.Spelling.{form_of}
use Rattle.zr_cmd.proofs.Texts.{ArePlain, name-plain, path-plain}

or-true : (b : Bool) → (b || true) ≡ true
or-true true = refl
or-true false = refl

-- the full name of a snapshot has an `@`
has-at : (path name : List ℕ) → list_any (λ b. b == 64) (path ++ 64 ∷ name) ≡ true
has-at [] name = refl
has-at (b ∷ path) name = rw (has-at path name) (or-true (b == 64))

no-sign : (b : ℕ) → is_sign b ≡ false → (b == 64) ≡ false
no-sign b e = left (b == 64) (b == 35) e where
  left : (x y : Bool) → (x || y) ≡ false → x ≡ false
  left true y e = cc
  left false y e = refl

no-at : (name : List ℕ) → ArePlain name → list_any (λ b. b == 64) name ≡ false
no-at [] p = refl
no-at (b ∷ name) p = rw (no-sign b p.0.1) (no-at name p.1)

-- the full name of a bookmark has none
mark-no-at : (path name : List ℕ) → ArePlain path → ArePlain name → list_any (λ b. b == 64) (path ++ 35 ∷ name) ≡ false
mark-no-at [] name p n = no-at name n
mark-no-at (b ∷ path) name p n = rw (no-sign b p.0.1) (mark-no-at path name p.1 n)

-- the words of a call have its form
form-found : (c : ZfsCall) → IsNamed c → form_for (words_of c) ≡ form_of c
unfolding sets_words versions_words
form-found (call.One cmd.Sets) n = refl
form-found (call.One (cmd.Versions path)) n = refl
form-found (call.One (cmd.Holds path name)) n = refl
form-found (call.One (cmd.Token token)) n = refl
form-found (call.One (cmd.Snapshot path name)) n = refl
form-found (call.One (cmd.Hold kind job path name)) n = refl
form-found (call.One (cmd.Release kind job path name)) n = refl
form-found (call.One (cmd.Bookmark path (version.Snap name) mark)) n = rw (has-at path name) refl
form-found (call.One (cmd.Bookmark path (version.Mark name) mark)) n = rw (mark-no-at path name (path-plain path n.0) (name-plain 255 name n.1)) refl
form-found (call.One (cmd.DestroySnaps path names)) n = rw (has-at path (join_with_byte 44 names)) refl
form-found (call.One (cmd.DestroyMark path mark)) n = rw (mark-no-at path mark (path-plain path n.0) (name-plain 255 mark n.1)) refl
form-found (call.One (cmd.Create path)) n = refl
form-found (call.One (cmd.Transfer transfer)) n = absurd n
form-found (call.One (cmd.Abort path)) n = refl
form-found (call.SendFull path name) n = refl
form-found (call.SendFrom path mark name) n = refl
form-found (call.SendToken token) n = refl
form-found (call.Receive path false) n = refl
form-found (call.Receive path true) n = refl

-- the names in the words of a call are its own
names-found : (c : ZfsCall) → IsNamed c → read_as (form_of c) (words_of c) ≡ c
unfolding versions_words
names-found (call.One cmd.Sets) n = refl
names-found (call.One (cmd.Versions path)) n = refl
names-found (call.One (cmd.Holds path name)) n = rw (set-of path name 64 refl n.0, name-of path name 64 refl n.0) refl
names-found (call.One (cmd.Token token)) n = refl
names-found (call.One (cmd.Snapshot path name)) n = rw (set-of path name 64 refl n.0, name-of path name 64 refl n.0) refl
names-found (call.One (cmd.Hold kind job path name)) n =
    rw (kind-of kind job, after-front kind job, set-of path name 64 refl n.1, name-of path name 64 refl n.1) refl
names-found (call.One (cmd.Release kind job path name)) n =
    rw (kind-of kind job, after-front kind job, set-of path name 64 refl n.1, name-of path name 64 refl n.1) refl
names-found (call.One (cmd.Bookmark path (version.Snap name) mark)) n =
    rw (set-of path name 64 refl n.0, name-of path name 64 refl n.0, name-of path mark 35 refl n.0) refl
names-found (call.One (cmd.Bookmark path (version.Mark name) mark)) n =
    rw (set-of path name 35 refl n.0, name-of path name 35 refl n.0, name-of path mark 35 refl n.0) refl
names-found (call.One (cmd.DestroySnaps path names)) n = rw (set-of path (join_with_byte 44 names) 64 refl n.0, names-of path names n.0 n.1) refl
names-found (call.One (cmd.DestroyMark path mark)) n = rw (set-of path mark 35 refl n.0, name-of path mark 35 refl n.0) refl
names-found (call.One (cmd.Create path)) n = refl
names-found (call.One (cmd.Transfer transfer)) n = absurd n
names-found (call.One (cmd.Abort path)) n = refl
names-found (call.SendFull path name) n = rw (set-of path name 64 refl n.0, name-of path name 64 refl n.0) refl
names-found (call.SendFrom path mark name) n =
    rw (set-of path mark 35 refl n.0, name-of path mark 35 refl n.0, name-of path name 64 refl n.0) refl
names-found (call.SendToken token) n = refl
names-found (call.Receive path false) n = refl
names-found (call.Receive path true) n = refl

same-words : (words : List (List ℕ)) → pointwise (pointwise nat_eq) words words ≡ true
same-words [] = refl
same-words (word ∷ words) = rw (nat_list_eq_equiv.refl word) (same-words words)

and-both : (x y : Bool) → (x && y) ≡ true → (x ≡ true) × (y ≡ true)
and-both true y e = (refl, e)
and-both false y e = cc

words-once : (one other : List (List ℕ)) → pointwise (pointwise nat_eq) one other ≡ true → one ≡ other
words-once [] [] e = refl
words-once [] (y ∷ ys) e = cc
words-once (x ∷ xs) [] e = cc
words-once (x ∷ xs) (y ∷ ys) e =
    let both = and-both (pointwise nat_eq x y) (pointwise (pointwise nat_eq) xs ys) e in
    let first : x ≡ y = (bytes_eq-Decides x y).0 both.0 in
    let rest = words-once xs ys both.1 in
    cc

chosen : (test : Bool) (c : ZfsCall) → test ≡ true → cond test (Some c) None ≡ Some c
chosen test c e = rw e refl

-- the words of a call are found to be its
pub found : (c : ZfsCall) → IsNamed c → call_of (words_of c) ≡ Some c
unfolding call_of
found c n =
    let words = words_of c in
    let is : read_as (form_for words) words ≡ c = ap (λ f. read_as f words) (form-found c n) ∙ names-found c n in
    subst (λ (x : ZfsCall). cond (has_words words x) (Some x) None ≡ Some c) (sym is) (chosen (has_words words c) c (same-words words))

choice : (test : Bool) (c d : ZfsCall) → cond test (Some c) None ≡ Some d → (test ≡ true) × (c ≡ d)
choice true c d e = (refl, cc)
choice false c d e = cc

-- what is found has these words
pub found-spelled : (words : List (List ℕ)) (c : ZfsCall) → call_of words ≡ Some c → words_of c ≡ words
unfolding call_of
found-spelled words c e =
    let guess = read_as (form_for words) words in
    let one = choice (has_words words guess) guess c e in
    sym (words-once words (words_of guess) one.0 ∙ ap words_of one.1)

pub one-call : (a b : ZfsCall) → IsNamed a → IsNamed b → words_of a ≡ words_of b → a ≡ b
one-call a b p q e =
    let one = found a p in
    let other = found b q in
    let both = ap call_of e in
    cc

-- a call has words
some-words : (c : ZfsCall) → IsNamed c → [] ≡ words_of c → ⊥
unfolding sets_words versions_words
some-words (call.One cmd.Sets) n e = cc
some-words (call.One (cmd.Versions path)) n e = cc
some-words (call.One (cmd.Holds path name)) n e = cc
some-words (call.One (cmd.Token token)) n e = cc
some-words (call.One (cmd.Snapshot path name)) n e = cc
some-words (call.One (cmd.Hold kind job path name)) n e = cc
some-words (call.One (cmd.Release kind job path name)) n e = cc
some-words (call.One (cmd.Bookmark path from mark)) n e = cc
some-words (call.One (cmd.DestroySnaps path names)) n e = cc
some-words (call.One (cmd.DestroyMark path mark)) n e = cc
some-words (call.One (cmd.Create path)) n e = cc
some-words (call.One (cmd.Transfer transfer)) n e = absurd n
some-words (call.One (cmd.Abort path)) n e = cc
some-words (call.SendFull path name) n e = cc
some-words (call.SendFrom path mark name) n e = cc
some-words (call.SendToken token) n e = cc
some-words (call.Receive path force) n e = cc

spelled-known : (words : List (List ℕ)) (c : ZfsCall) → Spells words c → IsUnknown words → ⊥
spelled-known [] c is u = some-words c is.named is.same
spelled-known (w ∷ ws) c is u = u (record { given = c; more = ws; named = is.named; longer = sym is.same })

pub read-back : (words : List (List ℕ)) (c : ZfsCall) (result : Result ZfsCall ArgvFault) → Reads words result → Spells words c → (result ≡ Ok c) ⊎ (result ≡ Err NoMemory)
read-back words c (Ok given) reads is = inl (ap Ok (one-call given c reads.named is.named (sym reads.same ∙ is.same)))
read-back words c (Err UnknownCommand) reads is = absurd (spelled-known words c is reads)
read-back words c (Err (BadWord n)) reads is = absurd (reads.1 c is)
read-back words c (Err NoMemory) reads is = inr refl
