use Rattle.std.proofs.Common.{◌≡◌, ℕ, zero, suc, ◌+◌, ◌<◌, ◌≤◌, List, [], ◌∷◌, ◌++◌, length, get_or, take, refl, arith, ap, ◌∙◌, sym, subst, ◌⊎◌, inl, inr, Err, max}
use Rattle.std.proofs.lemmas.List.{append-nil, take_all}
use Rattle.zr_cmd.specs.Forms.{fixed, Pattern, patterns_of, read_as}
use Rattle.zr_cmd.specs.Steps.{IsFront}
use Rattle.zr_cmd.specs.Words.{Begins, IsUnknown, Reads, Spells, words_of}
use Rattle.zr_cmd.specs.declared.argv.ArgvFault.TheVariants.{BadWord}
use Rattle.zr_cmd.specs.declared.forms.ZfsCall.{ZfsCall}
use Rattle.zr_cmd.specs.declared.forms.Form.{Form}
use Rattle.zr_cmd.specs.declared.forms.Form.TheVariants as form
use Rattle.zr_cmd.proofs.Fronts.{Along, Front, front-along, along-front, ending}
use Rattle.zr_cmd.proofs.Spelling.{form_of, chained, written, all-written, spelled}

-- a front of a form begins the words of some call
pub begins : (f : Form) (words : List (List ℕ)) (k : ℕ) → Front (patterns_of f) words k → Begins (take k words)
begins f words k front =
    let b = get_or words 0 [] in
    let e = ending (patterns_of f) (fixed b) [] b (take k words) (chained f) refl (front-along (patterns_of f) words k front) in
    let is = spelled f b (take k words ++ e.more) e.along e.count in
    record { given = read_as f (take k words ++ e.more); more = e.more; named = is.named; longer = sym is.same }

-- so many words are a front of some form
pub record Reached (words : List (List ℕ)) (k : ℕ) : Type 0 where
  pub form : Form
  pub front : Front (patterns_of form) words k

-- what begins the words of some call is a front of its form
pub reached : (words : List (List ℕ)) (k : ℕ) → k ≤ length words → Begins (take k words) → Reached words k
reached words k within b =
    let b0 = get_or words 0 [] in
    record {
      form = form_of b.given;
      front = along-front (patterns_of (form_of b.given)) words b.more k within
          (subst (λ (l : List (List ℕ)). Along (patterns_of (form_of b.given)) b0 l) b.longer (written b.given b0 b.named));
    }

-- all words are as the form has them
pub record IsWhole (f : Form) (words : List (List ℕ)) : Type 0 where
  pub front : Front (patterns_of f) words (length words)
  pub all : length words ≡ length (patterns_of f)

pub whole-spelled : (f : Form) (words : List (List ℕ)) → IsWhole f words → Spells words (read_as f words)
whole-spelled f words w =
    spelled f (get_or words 0 []) words (subst (λ (l : List (List ℕ)). Along (patterns_of f) (get_or words 0 []) l) (take_all (length words) words (omega arith)) (front-along (patterns_of f) words (length words) w.front)) w.all

spelled-whole : (words : List (List ℕ)) (c : ZfsCall) → Spells words c → IsWhole (form_of c) words
spelled-whole words c is =
    let b0 = get_or words 0 [] in
    let along : Along (patterns_of (form_of c)) b0 (words_of c) = written c b0 is.named in
    record {
      front = along-front (patterns_of (form_of c)) words [] (length words) (omega arith)
          (subst (λ (l : List (List ℕ)). Along (patterns_of (form_of c)) b0 l) (sym is.same ∙ sym (append-nil words ∙ refl) ∙ ap (λ l. l ++ []) (sym (take_all (length words) words (omega arith)))) along);
      all = ap length is.same ∙ all-written c is.named;
    }

pub front-of : (f : Form) (words : List (List ℕ)) (n : ℕ) → IsFront (patterns_of f) words n → Front (patterns_of f) words n
front-of f words n is = record { in_words = is.in_words; in_patterns = is.in_patterns; fits = is.fits }

-- as many words as the parts of a form, all of which fit
pub whole-from : (f : Form) (words : List (List ℕ)) (n : ℕ) (ps : List Pattern) → IsFront ps words n → ps ≡ patterns_of f → n ≡ length words → n ≡ length ps → IsWhole f words
whole-from f words n ps is same all parts =
    let own : IsFront (patterns_of f) words n = subst (λ (qs : List Pattern). IsFront qs words n) same is in
    record {
      front = subst (λ (k : ℕ). Front (patterns_of f) words k) all (front-of f words n own);
      all = sym all ∙ parts ∙ ap length same;
    }

-- the table
abbrev pub forms : List Form
forms =
    form.Sets ∷ form.Versions ∷ form.Holds ∷ form.Token ∷ form.Snapshot ∷ form.Hold ∷ form.Release ∷ form.BookmarkSnap
    ∷ form.BookmarkMark ∷ form.DestroySnaps ∷ form.DestroyMark ∷ form.Create ∷ form.SendFull ∷ form.SendFrom ∷ form.SendToken
    ∷ form.Receive ∷ form.ReceiveForced ∷ form.Abort ∷ []

-- the place of a form in the table
abbrev pub place_of : Form → ℕ
place_of form.Sets = 0
place_of form.Versions = 1
place_of form.Holds = 2
place_of form.Token = 3
place_of form.Snapshot = 4
place_of form.Hold = 5
place_of form.Release = 6
place_of form.BookmarkSnap = 7
place_of form.BookmarkMark = 8
place_of form.DestroySnaps = 9
place_of form.DestroyMark = 10
place_of form.Create = 11
place_of form.SendFull = 12
place_of form.SendFrom = 13
place_of form.SendToken = 14
place_of form.Receive = 15
place_of form.ReceiveForced = 16
place_of form.Abort = 17

pub in-table : (f : Form) → place_of f < 18
in-table form.Sets = omega arith
in-table form.Versions = omega arith
in-table form.Holds = omega arith
in-table form.Token = omega arith
in-table form.Snapshot = omega arith
in-table form.Hold = omega arith
in-table form.Release = omega arith
in-table form.BookmarkSnap = omega arith
in-table form.BookmarkMark = omega arith
in-table form.DestroySnaps = omega arith
in-table form.DestroyMark = omega arith
in-table form.Create = omega arith
in-table form.SendFull = omega arith
in-table form.SendFrom = omega arith
in-table form.SendToken = omega arith
in-table form.Receive = omega arith
in-table form.ReceiveForced = omega arith
in-table form.Abort = omega arith

at-own : (f : Form) → f ≡ get_or forms (place_of f) form.Sets
at-own form.Sets = refl
at-own form.Versions = refl
at-own form.Holds = refl
at-own form.Token = refl
at-own form.Snapshot = refl
at-own form.Hold = refl
at-own form.Release = refl
at-own form.BookmarkSnap = refl
at-own form.BookmarkMark = refl
at-own form.DestroySnaps = refl
at-own form.DestroyMark = refl
at-own form.Create = refl
at-own form.SendFull = refl
at-own form.SendFrom = refl
at-own form.SendToken = refl
at-own form.Receive = refl
at-own form.ReceiveForced = refl
at-own form.Abort = refl

-- the form at a place of the table
pub at-place : (i : ℕ) (f : Form) → place_of f ≡ i → f ≡ get_or forms i form.Sets
at-place i f e = at-own f ∙ ap (λ k. get_or forms k form.Sets) e

-- so many forms of the table were tried, none of which has all the words, and `most` words begin one of them
pub record Tried (words : List (List ℕ)) (count most : ℕ) : Type 0 where
  pub within : most ≤ length words
  pub begins : Begins (take most words)
  pub tried : (f : Form) → place_of f < count → (k : ℕ) → Front (patterns_of f) words k → k ≤ most
  pub none : (f : Form) → place_of f < count → IsWhole f words → ⊥

pub none-tried : (words : List (List ℕ)) → Tried words 0 0
none-tried words = record {
  within = omega arith;
  begins = begins form.Sets words 0 (record { in_words = omega arith; in_patterns = omega arith; fits = λ place inside. absurd (omega arith) });
  tried = λ f inside k front. absurd (omega arith);
  none = λ f inside w. absurd (omega arith);
}

pub le-or-lt : (m n : ℕ) → (m ≤ n) ⊎ (n < m)
le-or-lt zero n = inl (omega arith)
le-or-lt (suc m) zero = inr (omega arith)
le-or-lt (suc m) (suc n) = elim (le-or-lt m n) [ inl most ↦ inl (omega arith) | inr less ↦ inr (omega arith) ]

-- no longer front is one of the form
no-longer : (f : Form) (words : List (List ℕ)) (n k : ℕ) → IsFront (patterns_of f) words n → Front (patterns_of f) words k → k ≤ n
no-longer f words n k is front = elim (le-or-lt k n) [
  | inl most ↦ most
  | inr less ↦ absurd (let w = front.in_words in let p = front.in_patterns in is.other (omega arith) (omega arith) (front.fits n less))
]

-- one more form was tried
pub more-tried : (words : List (List ℕ)) (count most n : ℕ) (g : Form) → Tried words count most → ((f : Form) → place_of f ≡ count → f ≡ g)
    → IsFront (patterns_of g) words n → (n ≡ length words → n ≡ length (patterns_of g) → ⊥) → Tried words (count + 1) (max most n)
more-tried words count most n g t at is short =
    record {
      within = let w = t.within in let v = is.in_words in omega arith;
      begins = elim (le-or-lt n most) [
        | inl less ↦ subst (λ (k : ℕ). Begins (take k words)) (omega arith) t.begins
        | inr more ↦ subst (λ (k : ℕ). Begins (take k words)) (omega arith) (begins g words n (front-of g words n is))
      ];
      tried = λ f inside k front. elim (le-or-lt (place_of f + 1) count) [
        | inl before ↦ (let b = t.tried f (omega arith) k front in omega arith)
        | inr new ↦ (let b = no-longer g words n k is (subst (λ (x : Form). Front (patterns_of x) words k) (at f (omega arith)) front) in omega arith)
      ];
      none = λ f inside w. elim (le-or-lt (place_of f + 1) count) [
        | inl before ↦ t.none f (omega arith) w
        | inr new ↦ (
            let v : IsWhole g words = subst (λ (x : Form). IsWhole x words) (at f (omega arith)) w in
            let low = no-longer g words n (length words) is v.front in
            let high = is.in_words in
            let all = v.all in
            short (omega arith) (omega arith))
      ];
    }

-- where no word begins a call the first one is of none
pub unknown : (words : List (List ℕ)) → Tried words 18 0 → IsUnknown words
unknown [] t = tt
unknown (w ∷ ws) t = λ b.
    let r = reached (w ∷ ws) 1 (omega arith) b in
    let none = t.tried r.form (in-table r.form) 1 r.front in
    omega arith

known : (words : List (List ℕ)) (k : ℕ) → 0 < k → k ≤ length words → Begins (take k words) → IsUnknown words → ⊥
known [] k some within b u = omega arith
known (w ∷ ws) zero some within b u = omega arith
known (w ∷ ws) (suc k) some within b u =
    u (record { given = b.given; more = take k ws ++ b.more; named = b.named; longer = b.longer })

-- where all forms were tried, the most words that begin a call are known
pub bad-word : (words : List (List ℕ)) (most : ℕ) → Tried words 18 most → 0 < most → Reads words (Err (BadWord most))
bad-word words most t some = (
  known words most some t.within t.begins,
  (λ c is. t.none (form_of c) (in-table (form_of c)) (spelled-whole words c is)),
  record {
    within = t.within;
    begins = t.begins;
    longest = λ k past within b.
        let r = reached words k within b in
        let most_of = t.tried r.form (in-table r.form) k r.front in
        omega arith;
  },
)
