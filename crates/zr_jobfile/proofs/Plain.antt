-- The rules that a job file gives are plain.
use Rattle.std.specs.Prelude.{⊤}
use Rattle.std.proofs.Common.{◌≡◌, List, [], ◌∷◌, ℕ, None, Ok, inl, inr, refl, subst, sym}
use Rattle.std.specs.List.{All}
use Rattle.std.proofs.lemmas.List.Elements.{All-cons, All-nil}
use Rattle.zr_filter.specs.declared.entry.FilterEntry.{FilterEntry}
use Rattle.zr_rules.specs.declared.rule.RuleSpec.{RuleSpec}
use Rattle.zr_rules.specs.declared.rule.RuleSpec.TheVariants.{LastN}
use Rattle.zr_jobset.specs.Sets.{Jobs}
use Rattle.zr_jobset.specs.Units.{ArePlain, IsPlain}
use Rattle.zr_jobfile.specs.JobFile.{ReadsJobs}
use Rattle.zr_jobfile.specs.PushFile.{pushing, PushJob, SinkJob}
use Rattle.zr_jobfile.specs.SnapFile.{one_job}

-- the rules of one job are plain
one-plain : (rules : List RuleSpec) → All IsPlain rules → All (All IsPlain) (rules ∷ [])
one-plain rules plain = All-cons (All IsPlain) rules [] plain (All-nil (All IsPlain))

last-plain : (count : ℕ) → All IsPlain (LastN count None ∷ [])
last-plain count = All-cons IsPlain (LastN count None) [] (record { no_pattern = refl; grid = tt }) (All-nil IsPlain)

pub reads-plain : (bytes : List ℕ) (jobs : Jobs) → ReadsJobs bytes (Ok jobs) → ArePlain jobs
reads-plain bytes jobs (tree, text, inl snap) =
    subst ArePlain (sym snap.jobs_are) (one-plain (LastN snap.count None ∷ []) (last-plain snap.count))
reads-plain bytes jobs (tree, text, inr push) =
    let none : All IsPlain [] = All-nil IsPlain in
    subst ArePlain (sym push.jobs_are) (All-cons (All IsPlain) [] ([] ∷ []) none (one-plain [] none))
