use Rattle.std.proofs.Common.{◌≡◌, ℕ, zero, suc, ◌+◌, true, false, List, [], ◌∷◌, ◌++◌, length, get_or, map, refl, arith, ap, ◌∙◌, sym, subst}
use Rattle.std.proofs.lemmas.List.{length-map}
use Rattle.zr_command.specs.declared.command.Cmd.TheVariants as cmd
use Rattle.zr_command.specs.declared.version.VersionName.TheVariants as version
use Rattle.zr_cmd.specs.Forms.{Suits, IsFull, Pattern, fixed, a_path, patterns_of, name_part, read_as, set_part}
use Rattle.zr_cmd.specs.Words.{IsNamed, IsPath, Spells, sets_words, versions_words, words_of}
use Rattle.zr_cmd.specs.declared.forms.ZfsCall.{ZfsCall}
use Rattle.zr_cmd.specs.declared.forms.ZfsCall.TheVariants as call
use Rattle.zr_cmd.specs.declared.forms.Form.{Form}
use Rattle.zr_cmd.specs.declared.forms.Form.TheVariants as form
use Rattle.zr_cmd.proofs.Cut.{full, full-group, group-spelled, job-tag, set-of}
use Rattle.zr_cmd.proofs.Fronts.{Along, is_chain}

-- the form of a call
abbrev pub form_of : ZfsCall → Form
form_of (call.One cmd.Sets) = form.Sets
form_of (call.One (cmd.Versions path)) = form.Versions
form_of (call.One (cmd.Holds path name)) = form.Holds
form_of (call.One (cmd.Token token)) = form.Token
form_of (call.One (cmd.Snapshot path name)) = form.Snapshot
form_of (call.One (cmd.Hold kind job path name)) = form.Hold
form_of (call.One (cmd.Release kind job path name)) = form.Release
form_of (call.One (cmd.Bookmark path (version.Snap name) mark)) = form.BookmarkSnap
form_of (call.One (cmd.Bookmark path (version.Mark name) mark)) = form.BookmarkMark
form_of (call.One (cmd.DestroySnaps path names)) = form.DestroySnaps
form_of (call.One (cmd.DestroyMark path mark)) = form.DestroyMark
form_of (call.One (cmd.Create path)) = form.Create
form_of (call.One (cmd.Transfer transfer)) = form.Sets
form_of (call.One (cmd.Abort path)) = form.Abort
form_of (call.SendFull path name) = form.SendFull
form_of (call.SendFrom path mark name) = form.SendFrom
form_of (call.SendToken token) = form.SendToken
form_of (call.Receive path false) = form.Receive
form_of (call.Receive path true) = form.ReceiveForced

-- each pattern can follow the one before
pub chained : (f : Form) → is_chain false (patterns_of f) ≡ true
unfolding sets_words versions_words
chained form.Sets = refl
chained form.Versions = refl
chained form.Holds = refl
chained form.Token = refl
chained form.Snapshot = refl
chained form.Hold = refl
chained form.Release = refl
chained form.BookmarkSnap = refl
chained form.BookmarkMark = refl
chained form.DestroySnaps = refl
chained form.DestroyMark = refl
chained form.Create = refl
chained form.SendFull = refl
chained form.SendFrom = refl
chained form.SendToken = refl
chained form.Receive = refl
chained form.ReceiveForced = refl
chained form.Abort = refl

along-fixed : (ts : List (List ℕ)) (b : List ℕ) → Along (map fixed ts) b ts
along-fixed [] b = tt
along-fixed (t ∷ ts) b = (refl, along-fixed ts t)

along-then : (ts : List (List ℕ)) (p : Pattern) (b w : List ℕ) → ((c : List ℕ) → Suits p c w) → Along (map fixed ts ++ p ∷ []) b (ts ++ w ∷ [])
along-then [] p b w f = (f b, tt)
along-then (t ∷ ts) p b w f = (refl, along-then ts p t w f)

-- the words of a call are as its form has them
pub written : (c : ZfsCall) (b : List ℕ) → IsNamed c → Along (patterns_of (form_of c)) b (words_of c)
written (call.One cmd.Sets) b n = along-fixed sets_words b
written (call.One (cmd.Versions path)) b n = along-then versions_words a_path b path (λ c. n)
written (call.One (cmd.Holds path name)) b n = (refl, (refl, (full path name 64 refl n.0 n.1, tt)))
written (call.One (cmd.Token token)) b n = (refl, (refl, (n, tt)))
written (call.One (cmd.Snapshot path name)) b n = (refl, (full path name 64 refl n.0 n.1, tt))
written (call.One (cmd.Hold kind job path name)) b n = (refl, (job-tag kind job n.0, (full path name 64 refl n.1 n.2, tt)))
written (call.One (cmd.Release kind job path name)) b n = (refl, (job-tag kind job n.0, (full path name 64 refl n.1 n.2, tt)))
written (call.One (cmd.Bookmark path (version.Snap name) mark)) b n =
    (refl, (full path name 64 refl n.0 n.1, ((full path mark 35 refl n.0 n.2, set-of path mark 35 refl n.0 ∙ sym (set-of path name 64 refl n.0)), tt)))
written (call.One (cmd.Bookmark path (version.Mark name) mark)) b n =
    (refl, (full path name 35 refl n.0 n.1, ((full path mark 35 refl n.0 n.2, set-of path mark 35 refl n.0 ∙ sym (set-of path name 35 refl n.0)), tt)))
written (call.One (cmd.DestroySnaps path names)) b n = (refl, (full-group path names n.0 n.1, tt))
written (call.One (cmd.DestroyMark path mark)) b n = (refl, (full path mark 35 refl n.0 n.1, tt))
written (call.One (cmd.Create path)) b n = (refl, (refl, (refl, (refl, (refl, (n, tt))))))
written (call.One (cmd.Transfer transfer)) b n = absurd n
written (call.One (cmd.Abort path)) b n = (refl, (refl, (n, tt)))
written (call.SendFull path name) b n = (refl, (full path name 64 refl n.0 n.1, tt))
written (call.SendFrom path mark name) b n =
    (refl, (refl, (full path mark 35 refl n.0 n.1, ((full path name 64 refl n.0 n.2, set-of path name 64 refl n.0 ∙ sym (set-of path mark 35 refl n.0)), tt))))
written (call.SendToken token) b n = (refl, (refl, (n, tt)))
written (call.Receive path false) b n = (refl, (refl, (refl, (n, tt))))
written (call.Receive path true) b n = (refl, (refl, (refl, (refl, (n, tt)))))

length-then : (ts : List (List ℕ)) (p : Pattern) (w : List ℕ) → length (ts ++ w ∷ []) ≡ length (map fixed ts ++ p ∷ [])
length-then [] p w = refl
length-then (t ∷ ts) p w = ap suc (length-then ts p w)

-- a call has as many words as its form
pub all-written : (c : ZfsCall) → IsNamed c → length (words_of c) ≡ length (patterns_of (form_of c))
all-written (call.One cmd.Sets) n = sym (length-map sets_words fixed)
all-written (call.One (cmd.Versions path)) n = length-then versions_words a_path path
all-written (call.One (cmd.Holds path name)) n = refl
all-written (call.One (cmd.Token token)) n = refl
all-written (call.One (cmd.Snapshot path name)) n = refl
all-written (call.One (cmd.Hold kind job path name)) n = refl
all-written (call.One (cmd.Release kind job path name)) n = refl
all-written (call.One (cmd.Bookmark path (version.Snap name) mark)) n = refl
all-written (call.One (cmd.Bookmark path (version.Mark name) mark)) n = refl
all-written (call.One (cmd.DestroySnaps path names)) n = refl
all-written (call.One (cmd.DestroyMark path mark)) n = refl
all-written (call.One (cmd.Create path)) n = refl
all-written (call.One (cmd.Transfer transfer)) n = absurd n
all-written (call.One (cmd.Abort path)) n = refl
all-written (call.SendFull path name) n = refl
all-written (call.SendFrom path mark name) n = refl
all-written (call.SendToken token) n = refl
all-written (call.Receive path false) n = refl
all-written (call.Receive path true) n = refl

abbrev spread : (n : ℕ) → (ℕ → List ℕ) → List (List ℕ)
spread zero at = []
spread (suc n) at = at 0 ∷ spread n (λ k. at (suc k))

-- a list is its elements
spread-same : (n : ℕ) (ws : List (List ℕ)) → length ws ≡ n → ws ≡ spread n (λ k. get_or ws k [])
spread-same zero [] e = refl
spread-same zero (w ∷ ws) e = absurd (omega arith)
spread-same (suc n) [] e = absurd (omega arith)
spread-same (suc n) (w ∷ ws) e = ap (λ l. w ∷ l) (spread-same n ws (omega arith))

cons : {x y : List ℕ} {xs ys : List (List ℕ)} → x ≡ y → xs ≡ ys → x ∷ xs ≡ y ∷ ys
cons e h = cc

fixed-all : (ts : List (List ℕ)) (b : List ℕ) (ws : List (List ℕ)) → Along (map fixed ts) b ws → length ws ≡ length ts → ws ≡ ts
fixed-all [] b [] a e = refl
fixed-all [] b (w ∷ ws) a e = absurd a
fixed-all (t ∷ ts) b [] a e = absurd (omega arith)
fixed-all (t ∷ ts) b (w ∷ ws) a e = cons a.0 (fixed-all ts w ws a.1 (omega arith))

-- fixed words and one more
pub record Then (ts : List (List ℕ)) (p : Pattern) (ws : List (List ℕ)) : Type 0 where
  pub last : List ℕ
  pub before : List ℕ
  pub same : ws ≡ ts ++ last ∷ []
  pub at : get_or ws (length ts) [] ≡ last
  pub fits : Suits p before last

fixed-then : (ts : List (List ℕ)) (p : Pattern) (b : List ℕ) (ws : List (List ℕ)) → Along (map fixed ts ++ p ∷ []) b ws → length ws ≡ length ts + 1 → Then ts p ws
fixed-then [] p b [] a e = absurd (omega arith)
fixed-then [] p b (w ∷ []) a e = record { last = w; before = b; same = refl; at = refl; fits = a.0 }
fixed-then [] p b (w ∷ v ∷ ws) a e = absurd (omega arith)
fixed-then (t ∷ ts) p b [] a e = absurd (omega arith)
fixed-then (t ∷ ts) p b (w ∷ ws) a e =
    let rest = fixed-then ts p w ws a.1 (omega arith) in
    record { last = rest.last; before = rest.before; same = cons a.0 rest.same; at = rest.at; fits = rest.fits }

length-spread : (n : ℕ) (at : ℕ → List ℕ) → length (spread n at) ≡ n
length-spread zero at = refl
length-spread (suc n) at = ap suc (length-spread n (λ k. at (suc k)))

-- the full name of a version of the dataset before
same-set : (w v : List ℕ) (sign : ℕ) → IsFull sign w → set_part w ≡ set_part v → w ≡ set_part v ++ sign ∷ name_part w
same-set w v sign f e = f.spelled ∙ ap (λ p. p ++ sign ∷ name_part w) e

-- words that are as the form has them are those of a call
exact : (f : Form) (b : List ℕ) (at : ℕ → List ℕ) → Along (patterns_of f) b (spread (length (patterns_of f)) at) → Spells (spread (length (patterns_of f)) at) (read_as f (spread (length (patterns_of f)) at))
unfolding versions_words
exact form.Sets b at a =
    let n = length (map fixed sets_words) in
    record { same = fixed-all sets_words b (spread n at) a (length-spread n at ∙ length-map sets_words fixed); named = tt }
exact form.Versions b at a =
    let t = fixed-then versions_words a_path b (spread 12 at) a refl in
    record { same = t.same ∙ ap (λ w. versions_words ++ w ∷ []) (sym t.at); named = subst IsPath (sym t.at) t.fits }
exact form.Holds b at a =
    record { same = cons a.0 (cons a.1.0 (cons a.1.1.0.spelled refl)); named = (a.1.1.0.is_path, a.1.1.0.is_name) }
exact form.Token b at a = record { same = cons a.0 (cons a.1.0 refl); named = a.1.1.0 }
exact form.Snapshot b at a = record { same = cons a.0 (cons a.1.0.spelled refl); named = (a.1.0.is_path, a.1.0.is_name) }
exact form.Hold b at a =
    record { same = cons a.0 (cons a.1.0.spelled (cons a.1.1.0.spelled refl)); named = (a.1.0.is_job, a.1.1.0.is_path, a.1.1.0.is_name) }
exact form.Release b at a =
    record { same = cons a.0 (cons a.1.0.spelled (cons a.1.1.0.spelled refl)); named = (a.1.0.is_job, a.1.1.0.is_path, a.1.1.0.is_name) }
exact form.BookmarkSnap b at a =
    record { same = cons a.0 (cons a.1.0.spelled (cons (same-set (at 2) (at 1) 35 a.1.1.0.0 a.1.1.0.1) refl)); named = (a.1.0.is_path, a.1.0.is_name, a.1.1.0.0.is_name) }
exact form.BookmarkMark b at a =
    record { same = cons a.0 (cons a.1.0.spelled (cons (same-set (at 2) (at 1) 35 a.1.1.0.0 a.1.1.0.1) refl)); named = (a.1.0.is_path, a.1.0.is_name, a.1.1.0.0.is_name) }
exact form.DestroySnaps b at a = record { same = cons a.0 (cons (group-spelled (at 1) a.1.0) refl); named = (a.1.0.is_path, a.1.0.is_group) }
exact form.DestroyMark b at a = record { same = cons a.0 (cons a.1.0.spelled refl); named = (a.1.0.is_path, a.1.0.is_name) }
exact form.Create b at a =
    record { same = cons a.0 (cons a.1.0 (cons a.1.1.0 (cons a.1.1.1.0 (cons a.1.1.1.1.0 refl)))); named = a.1.1.1.1.1.0 }
exact form.SendFull b at a = record { same = cons a.0 (cons a.1.0.spelled refl); named = (a.1.0.is_path, a.1.0.is_name) }
exact form.SendFrom b at a =
    record {
      same = cons a.0 (cons a.1.0 (cons a.1.1.0.spelled (cons (same-set (at 3) (at 2) 64 a.1.1.1.0.0 a.1.1.1.0.1) refl)));
      named = (a.1.1.0.is_path, a.1.1.0.is_name, a.1.1.1.0.0.is_name);
    }
exact form.SendToken b at a = record { same = cons a.0 (cons a.1.0 refl); named = a.1.1.0 }
exact form.Receive b at a = record { same = cons a.0 (cons a.1.0 (cons a.1.1.0 refl)); named = a.1.1.1.0 }
exact form.ReceiveForced b at a = record { same = cons a.0 (cons a.1.0 (cons a.1.1.0 (cons a.1.1.1.0 refl))); named = a.1.1.1.1.0 }
exact form.Abort b at a = record { same = cons a.0 (cons a.1.0 refl); named = a.1.1.0 }

pub spelled : (f : Form) (b : List ℕ) (ws : List (List ℕ)) → Along (patterns_of f) b ws → length ws ≡ length (patterns_of f) → Spells ws (read_as f ws)
spelled f b ws a e =
    let same = spread-same (length (patterns_of f)) ws e in
    subst (λ (l : List (List ℕ)). Spells l (read_as f l)) (sym same) (exact f b (λ k. get_or ws k []) (subst (λ (l : List (List ℕ)). Along (patterns_of f) b l) same a))
