-- The rules of one job among those of all.
use Rattle.std.proofs.Common.{◌≡◌, ◌∙◌, ℕ, ◌<◌, List, ap, arith, get_or, length, map, subst, sym}
use Rattle.std.specs.List.{All}
use Rattle.std.proofs.lemmas.List.{get_or-map, length-map}
use Rattle.zr_rules.specs.declared.rule.RuleSpec.{RuleSpec}
use Rattle.zr_jobset.specs.declared.job.Job.{Job}
use Rattle.zr_jobset.specs.Units.{IsPlain}

-- the rules of each job are plain where those of all are
pub plain-at : (jobs : List Job) (i : ℕ) (job : Job) → All (All IsPlain) (map (λ (j : Job). j.keep_source) jobs) → i < length jobs → job ≡ get_or jobs i job → All IsPlain job.keep_source
plain-at jobs i job plain inside is =
    let of : Job → List RuleSpec = λ j. j.keep_source in
    let low : i < length (map of jobs) = omega (arith, inside, length-map jobs of) in
    subst (All IsPlain) (get_or-map of jobs i job (of job) inside ∙ ap of (sym is)) (plain i (of job) low)
