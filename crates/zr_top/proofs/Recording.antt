use Rattle.std.proofs.Common.{◌≡◌, ◌≢◌, ◌<◌, ◌∙◌, ℕ, ◌⊎◌, Bool, codes, true, false, List, [], ◌∷◌, ◌++◌, Option, Some, None, Ok, inl, inr, refl, ap, lit<, subst, sym}
use Rattle.std.specs.Io.KnownBytes.{append_known}
use Rattle.std.specs.List.{All, Contains}
use Rattle.zr_names.specs.declared.totals.Totals.{Totals}
use Rattle.zr_jobset.specs.Sets.{Jobs}
use Rattle.zr_top.specs.declared.status.Status.{Status}
use Rattle.zr_top.specs.declared.status.Status.TheVariants as status
use Rattle.zr_permit.specs.Result.{is_child_fault, is_out_of_memory}
use Rattle.zr_jobfile.specs.JobFile.{ReadsJobs}
use Rattle.zr_jobfile.specs.declared.JobFault.{JobFault}
use Rattle.zr_jobfile.specs.declared.JobFault.TheVariants as fault
use Rattle.zr_exec.specs.Entries.{entries_of}
use Rattle.zr_exec.specs.Running.{Running}
use Rattle.zr_exec.proofs.Told.{same_program}
use Rattle.zr_pipe.specs.Ends.{WroteFront}
use Rattle.zr_top.specs.Clock.{Ticks}
use Rattle.zr_top.specs.Attempts.{AreNumbered, Attempt, entries, IsGood, no_totals, totals_of}
use Rattle.zr_top.specs.Due.{IsDue, RanDue}
use Rattle.zr_top.specs.Records.{fault_line, FirstHas, FirstNext, FirstRan, FirstRose, IsFrontOf, IsNext, Written, RanBytes, RanFile, RanJobs, RanNext, Told, Unrun, View, Wrote, WroteAllOrNothing, WroteFrontOf, WroteLineOrNothing, WroteText, zfs}
use Rattle.zr_top.specs.Status.{code_of, is_conflict_or_too_long, is_garbled, is_unrun, Printed, some_ended, status_of, status_of_runs}
use Rattle.zr_top.specs.Totals.{totals_text}
use Rattle.zr_top.proofs.Books.{balanced}
use Rattle.zr_top.proofs.Ending.{faults-above, first_of, printed-of-runs, status-of-runs}
use Rattle.zr_top.proofs.Fronts.{wrote-nothing}
use Rattle.zr_top.proofs.Outcomes.{all-honest, means}

-- what was due was run with children of the program that was asked for, by the record that is read so
pub of-program : (jobs : Jobs) (moment : Option ℕ) (program asked : List ℕ) (before now : Told) (totals : Totals) → RanDue jobs moment (entries_of asked before) (entries_of program now) totals → RanDue jobs moment (entries_of asked before) (entries_of asked now) totals
of-program jobs moment program asked before now totals ran = record {
  attempts = ran.attempts;
  due = ran.due;
  good = ran.good;
  recorded = same_program program asked before now (entries ran.attempts) ran.recorded;
  numbered = ran.numbered;
  totals_are = ran.totals_are;
}

is-next : (moments : Option (List ℕ)) (tick : Option ℕ) (after : Option (List ℕ)) → Ticks moments tick after → IsNext moments tick
is-next None tick after ticks = tt
is-next (Some []) tick None ticks = absurd ticks
is-next (Some []) tick (Some left) ticks = ticks.0
is-next (Some (moment ∷ moments)) tick None ticks = absurd ticks
is-next (Some (moment ∷ moments)) tick (Some left) ticks = ticks.0

-- what was due was run with one runner of children of `zfs`, which was given back
pub ran-next : (jobs : Jobs) (moments : Option (List ℕ)) (tick : Option ℕ) (after : Option (List ℕ)) (totals : Totals) (R : Type 0) (told : R → Told) (program : List ℕ) (child : R) (begun left : Running R) (given : R) → Ticks moments tick after → begun ≡ record { program = program; children = child } → program ≡ zfs → given ≡ left.children → RanDue jobs tick (entries_of begun.program (told begun.children)) (entries_of left.program (told left.children)) totals → RanNext jobs moments (told child) (told given) totals
ran-next jobs moments tick after totals R told program child begun left given ticks begins is gives ran =
    let Begun : Running R → Type 0 = λ b. RanDue jobs tick (entries_of b.program (told b.children)) (entries_of left.program (told left.children)) totals in
    let Of : List ℕ → Type 0 = λ p. RanDue jobs tick (entries_of p (told child)) (entries_of p (told left.children)) totals in
    let Given : R → Type 0 = λ r. RanDue jobs tick (entries_of zfs (told child)) (entries_of zfs (told r)) totals in
    record {
      moment = tick;
      next = is-next moments tick after ticks;
      ran = subst Given (sym gives) (subst Of is (of-program jobs tick left.program program (told child) (told left.children) totals (subst Begun begins ran)));
    }

memory-status : (attempts : List Attempt) → some_ended is_out_of_memory attempts ≡ true → status_of_runs attempts ≡ status.OutOfMemory
memory-status attempts memory =
    ap (λ (b : Bool). first_of b (some_ended is_garbled attempts) (some_ended is_child_fault attempts) (some_ended is_conflict_or_too_long attempts)) memory

-- what was due at a clock's next moment and was attempted, with its totals
pub record RanFirst (jobs : Jobs) (moments : Option (List ℕ)) (totals : Totals) : Type 0 where
  pub moment : Option ℕ
  pub next : IsNext moments moment
  pub attempts : List Attempt
  pub due : IsDue jobs moment attempts
  pub good : All (IsGood jobs) attempts
  pub numbered : AreNumbered no_totals attempts
  pub totals_are : totals ≡ totals_of attempts

-- what became of the line of some totals: the status, and what was written
pub record LinePrinted (totals : Totals) (before now : View) (given : Status) : Type 0 where
  pub memory_first : status_of totals ≡ status.OutOfMemory → given ≡ status.OutOfMemory
  pub by_totals : Printed (status_of totals) given
  pub printed : Wrote given before.written now.written (totals_text totals)
  pub front : WroteFrontOf before.written now.written (totals_text totals)
  pub whole : WroteLineOrNothing before now (totals_text totals)

-- the totals have a failed child only where the count of the first runner's faults rose
abbrev pub TotalsRose : Totals → View → View → Type 0
TotalsRose totals before now = 0 < totals.faults → FirstRose before.child_faults now.child_faults

-- the first runner ran all that was due, of these records
pub first-next : (jobs : Jobs) (moments : Option (List ℕ)) (before now : List Told) (totals : Totals) → FirstNext jobs moments before now totals → (ran : RanFirst jobs moments totals) × FirstHas before now ran.attempts
first-next jobs moments [] now totals ran = absurd ran
first-next jobs moments (b ∷ others) [] totals ran = absurd ran
first-next jobs moments (b ∷ others) (n ∷ left) totals ran = (
  record {
    moment = ran.moment;
    next = ran.next;
    attempts = ran.ran.attempts;
    due = ran.ran.due;
    good = ran.ran.good;
    numbered = ran.ran.numbered;
    totals_are = ran.ran.totals_are;
  },
  ran.ran.recorded,
)

-- all that was due was attempted with the first runner, and the totals were printed
pub ran-jobs : (jobs : Jobs) (moments : Option (List ℕ)) (before now : View) (totals : Totals) (given : Status) → FirstRan jobs moments before.records now.records (Ok totals) → TotalsRose totals before now → LinePrinted totals before now given → RanJobs jobs moments before now given
ran-jobs jobs moments before now totals given ran rose line =
    let first = first-next jobs moments before.records now.records totals ran in
    let attempts = first.0.attempts in
    let are = first.0.totals_are in
    let printed = printed-of-runs attempts totals given are line.by_totals in
    let Front : Totals → Type 0 = λ t. WroteFrontOf before.written now.written (totals_text t) in
    let Whole : Totals → Type 0 = λ t. WroteLineOrNothing before now (totals_text t) in
    record {
      moment = first.0.moment;
      next = first.0.next;
      attempts = attempts;
      due = first.0.due;
      good = first.0.good;
      numbered = first.0.numbered;
      recorded = first.1;
      honest = all-honest jobs attempts first.0.good;
      books = balanced attempts;
      fault_rose = λ fault. rose (faults-above attempts totals are fault);
      status = printed;
      means = means attempts given printed;
      printed = λ loud. line.printed loud ∙ ap (λ t. append_known before.written (totals_text t ++ 10 ∷ [])) are;
      memory_first = λ memory. line.memory_first (ap status_of are ∙ status-of-runs attempts ∙ memory-status attempts memory);
      front = subst Front are line.front;
      whole = subst Whole are line.whole;
    }

silent : true ≡ false → ⊥
silent e = cc

-- the line of some totals was given to be printed
pub line-printed : (totals : Totals) (wanted : Status) (before now : View) (given : Status) (text : List ℕ) → wanted ≡ status_of totals → text ≡ totals_text totals ++ 10 ∷ [] → Printed wanted given → (wanted ≡ status.OutOfMemory → given ≡ status.OutOfMemory) → WroteText given before.written now.written text → WroteFront before.written now.written text → WroteAllOrNothing before.write_faults now.write_faults before.written now.written text → LinePrinted totals before now given
line-printed totals wanted before now given text of is printed first writes front whole =
    let By : Status → Type 0 = λ s. Printed s given in
    let Writes : List ℕ → Type 0 = λ t. WroteText given before.written now.written t in
    let Front : List ℕ → Type 0 = λ t. WroteFront before.written now.written t in
    let Whole : List ℕ → Type 0 = λ t. WroteAllOrNothing before.write_faults now.write_faults before.written now.written t in
    record {
      by_totals = subst By of printed;
      memory_first = λ memory. first (of ∙ memory);
      printed = subst Writes is writes;
      front = subst Front is front;
      whole = subst Whole is whole;
    }

-- there was no memory for the line
pub no-line : (totals : Totals) (before now : View) → now.written ≡ before.written → LinePrinted totals before now status.OutOfMemory
no-line totals before now nothing = record {
  by_totals = inr (inr refl);
  memory_first = λ memory. refl;
  printed = λ loud. absurd (silent loud);
  front = subst (λ (w : Written). WroteFrontOf before.written w (totals_text totals)) (sym nothing) (wrote-nothing before.written (totals_text totals));
  whole = λ sound. inr nothing;
}

-- nothing was run, and nothing was printed, for want of memory
pub idle-no-memory : (file : List ℕ) (before now : View) → now.records ≡ before.records → now.written ≡ before.written → Unrun file before now status.OutOfMemory
idle-no-memory file before now same silent =
    let line = codes "cannot read " ++ file in
    record {
      same = same;
      unrun = refl;
      line = line;
      of_file = inl refl;
      front = subst (λ (w : Written). WroteFrontOf before.written w line) (sym silent) (wrote-nothing before.written line);
      whole = λ sound. inr silent;
    }

-- what was read of a file was run, or nothing was
pub ran-file : (file : List ℕ) (content : Option (List ℕ)) (read bytes : List ℕ) (moments : Option (List ℕ)) (before now : View) (given : Status) → bytes ≡ read → IsFrontOf content read → Unrun file before now given ⊎ RanBytes bytes moments before now given → RanFile file content moments before now given
ran-file file content read bytes moments before now given is front (inl unrun) = inl unrun
ran-file file content read bytes moments before now given is front (inr ran) =
    inr (record { bytes = bytes; front = λ whole there. is ∙ front whole there; ran = ran })

printed-unrun : (given : Status) → Printed status.Unreadable given → is_unrun given ≡ true
printed-unrun given (inl is) = ap is_unrun is
printed-unrun given (inr (inl is)) = ap is_unrun is
printed-unrun given (inr (inr is)) = ap is_unrun is

-- a file that could not be read was not run
pub unread-unrun : (file : List ℕ) (before now : View) (given : Status) → now.records ≡ before.records → Printed status.Unreadable given → WroteFrontOf before.written now.written (codes "cannot read " ++ file) → WroteLineOrNothing before now (codes "cannot read " ++ file) → Unrun file before now given
unread-unrun file before now given same printed front whole = record {
  same = same;
  unrun = printed-unrun given printed;
  line = codes "cannot read " ++ file;
  of_file = inl refl;
  front = front;
  whole = whole;
}

no-toml : fault.NotToml ≢ fault.NoMemory
no-toml e = cc

no-jobs : fault.NotBuilt ≢ fault.NoMemory
no-jobs e = cc

too-long : fault.TooManyBytes ≢ fault.NoMemory
too-long e = cc

-- a job file gave no jobs: it is refused, or there was no memory
pub no-jobs-unrun : (file : List ℕ) (before now : View) (given : Status) (why : JobFault) → now.records ≡ before.records → is_unrun given ≡ true → (why ≢ fault.NoMemory → WroteFrontOf before.written now.written (fault_line why)) → (why ≢ fault.NoMemory → WroteLineOrNothing before now (fault_line why)) → (why ≡ fault.NoMemory → now.written ≡ before.written) → Unrun file before now given
no-jobs-unrun file before now given why same unrun loud whole silent = choose why loud whole silent where
  refused : (why : JobFault) → why ≢ fault.NoMemory → WroteFrontOf before.written now.written (fault_line why) → WroteLineOrNothing before now (fault_line why) → Unrun file before now given
  refused why other front whole = record {
    same = same;
    unrun = unrun;
    line = fault_line why;
    of_file = inr (why, other, refl);
    front = front;
    whole = whole;
  }

  choose : (why : JobFault) → (why ≢ fault.NoMemory → WroteFrontOf before.written now.written (fault_line why)) → (why ≢ fault.NoMemory → WroteLineOrNothing before now (fault_line why)) → (why ≡ fault.NoMemory → now.written ≡ before.written) → Unrun file before now given
  choose fault.NoMemory loud whole silent =
      let line = codes "cannot read " ++ file in
      record {
        same = same;
        unrun = unrun;
        line = line;
        of_file = inl refl;
        front = subst (λ (w : Written). WroteFrontOf before.written w line) (sym (silent refl)) (wrote-nothing before.written line);
        whole = λ sound. inr (silent refl);
      }
  choose fault.NotToml loud whole silent = refused fault.NotToml no-toml (loud no-toml) (whole no-toml)
  choose fault.NotBuilt loud whole silent = refused fault.NotBuilt no-jobs (loud no-jobs) (whole no-jobs)
  choose fault.TooManyBytes loud whole silent = refused fault.TooManyBytes too-long (loud too-long) (whole too-long)

-- the jobs of some bytes were run, or nothing was
pub bytes-ran : (file bytes : List ℕ) (jobs : Jobs) (moments : Option (List ℕ)) (before now : View) (given : Status) → ReadsJobs bytes (Ok jobs) → Unrun file before now given ⊎ RanJobs jobs moments before now given → Unrun file before now given ⊎ RanBytes bytes moments before now given
bytes-ran file bytes jobs moments before now given reads (inl unrun) = inl unrun
bytes-ran file bytes jobs moments before now given reads (inr ran) =
    inr (record { jobs = jobs; of_file = reads; ran = ran })

-- the record of the named file's run, under its name in the words
pub ran-named : (content : List ℕ → Option (List ℕ)) (named file : List ℕ) (moments : Option (List ℕ)) (before now : View) (given : Status) (code : ℕ) → named ≡ file → code ≡ code_of given → RanFile named (content named) moments before now given → (x : Status) × (code ≡ code_of x) × RanFile file (content file) moments before now x
ran-named content named file moments before now given code same is ran =
    let at : List ℕ → Type 0 = λ name. RanFile name (content name) moments before now given in
    (given, is, subst at same ran)

-- the codes where the words are no command
abbrev pub UsageCodes : Status → Type 0
UsageCodes given = Contains (2 ∷ 8 ∷ 9 ∷ []) (code_of given)

pub usage-codes : (given : Status) → Printed status.Usage given → UsageCodes given
usage-codes given (inl is) = subst UsageCodes (sym is) (0, lit< tt, refl)
usage-codes given (inr (inl is)) = subst UsageCodes (sym is) (1, lit< tt, refl)
usage-codes given (inr (inr is)) = subst UsageCodes (sym is) (2, lit< tt, refl)
