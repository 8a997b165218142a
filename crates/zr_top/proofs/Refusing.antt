use Rattle.std.proofs.Common.{◌≡◌, ◌≢◌, ◌∙◌, ℕ, ◌≤◌, List, [], ◌∷◌, Ok, Err, Option, Some, None, arith, inl, inr, refl, subst, sym, length, lit<}
use Rattle.std.specs.List.{Contains}
use Rattle.toml.specs.Data.{Members}
use Rattle.zr_jobset.specs.Sets.{Jobs}
use Rattle.zr_jobfile.specs.declared.JobFault.{JobFault}
use Rattle.zr_jobfile.specs.declared.JobFault.TheVariants.{TooManyBytes, NotToml, NotBuilt, NoMemory}
use Rattle.zr_jobfile.specs.JobFile.{IsJobFile, IsText, ReadsJobs}
use Rattle.zr_top.specs.declared.status.Status.{Status}
use Rattle.zr_top.specs.declared.status.Status.TheVariants as status
use Rattle.zr_top.specs.Status.{code_of, IsRefused, Printed, RefusedOrUnread}
use Rattle.zr_top.specs.Stored.{Asked, AsksAtMost}

same-tree : (bytes : List ℕ) (one other : Members) → IsText bytes one → IsText bytes other → other ≡ one
same-tree bytes one other a b = let e : Some other ≡ Some one = sym b.parsed ∙ a.parsed in cc

no-fault : (bytes : List ℕ) (jobs : Jobs) (fault : JobFault) → ReadsJobs bytes (Ok jobs) → fault ≢ NoMemory → ReadsJobs bytes (Err fault) → ⊥
no-fault bytes jobs TooManyBytes reads other by =
    let short : length bytes ≤ 1048576 = reads.1.short in
    omega (arith, by)
no-fault bytes jobs NotToml reads other by =
    let none : None ≡ Some reads.0 = sym (by.1 reads.1.utf8) ∙ reads.1.parsed in
    cc
no-fault bytes jobs NotBuilt reads other by =
    let of : Members → Type 0 = λ tree. IsJobFile tree jobs in
    by.2 jobs (subst of (sym (same-tree bytes reads.0 by.0 reads.1 by.1)) reads.2)
no-fault bytes jobs NoMemory reads other by = other refl

-- bytes that are read as jobs are not refused
pub read-not-refused : (bytes : List ℕ) (jobs : Jobs) → ReadsJobs bytes (Ok jobs) → IsRefused bytes → ⊥
read-not-refused bytes jobs reads refused = no-fault bytes jobs refused.fault reads refused.not_memory refused.by_fault

-- the status of this code
pub job_file-code : (given : Status) → code_of given ≡ 3 → given ≡ status.JobFile
job_file-code status.Clean e = cc
job_file-code status.Usage e = cc
job_file-code status.JobFile e = refl
job_file-code status.Conflict e = cc
job_file-code status.ChildFault e = cc
job_file-code status.Garbled e = cc
job_file-code status.Unreadable e = cc
job_file-code status.Unwritable e = cc
job_file-code status.OutOfMemory e = cc

abbrev pub Codes : Status → Type 0
Codes given = Contains (3 ∷ 7 ∷ 8 ∷ 9 ∷ []) (code_of given)

-- the codes of a refused job file
pub refused-codes : (given : Status) → RefusedOrUnread given → Codes given
refused-codes given (inl (inl is)) = subst Codes (sym is) (0, lit< tt, refl)
refused-codes given (inl (inr (inl is))) = subst Codes (sym is) (2, lit< tt, refl)
refused-codes given (inl (inr (inr is))) = subst Codes (sym is) (3, lit< tt, refl)
refused-codes given (inr is) = subst Codes (sym is) (1, lit< tt, refl)

-- a file that could not be read
pub unread : (given : Status) → Printed status.Unreadable given → RefusedOrUnread given
unread given (inl is) = inr is
unread given (inr rest) = inl (inr rest)

other-status : status.Unreadable ≡ status.JobFile → ⊥
other-status e = cc

other-output : status.Unwritable ≡ status.JobFile → ⊥
other-output e = cc

other-memory : status.OutOfMemory ≡ status.JobFile → ⊥
other-memory e = cc

pub unread-not-refused : (given : Status) → Printed status.Unreadable given → given ≡ status.JobFile → ⊥
unread-not-refused given (inl is) e = other-status (sym is ∙ e)
unread-not-refused given (inr (inl is)) e = other-output (sym is ∙ e)
unread-not-refused given (inr (inr is)) e = other-memory (sym is ∙ e)

-- the file that the words name
pub same-file : (named : Option (List ℕ)) (file other : List ℕ) → Some file ≡ named → named ≡ Some other → file ≡ other
same-file named file other is e = let both : Some file ≡ Some other = is ∙ e in cc

-- the file that was asked for, under its name in the words
pub asks-named : (before now : Asked) (named file : List ℕ) → named ≡ file → AsksAtMost before now named → AsksAtMost before now file
asks-named before now named file same asks =
    let At : List ℕ → Type 0 = λ path. AsksAtMost before now path in
    subst At same asks
