use Rattle.std.proofs.Common.{◌≡◌, ◌++◌, ◌∷◌, [], ◌∙◌, ℕ, List, subst, ap, sym, rules, ◌+◌, length}
use Rattle.std.proofs.lemmas.List.{at_drop_all, length_push}
use Rattle.zr_names.specs.Tree.{tree, items_tree}
use Rattle.zr_jobset.specs.declared.job.Job.{Job}
use Rattle.zr_jobwalk.specs.Arrays.{part_name, series}
use Rattle.zr_jobwalk.specs.Faults.{InTable}
use Rattle.zr_jobwalk.specs.Values.{IsTable}
use Rattle.zr_jobwalk.proofs.Parts.{all_read, items_next, one_more, stopped}
use Rattle.zr_jobrules.specs.Patterns.{Asked, asked}
use Rattle.zr_jobtree.specs.Jobs.{IsNamed, NamedFault}
use Rattle.zr_jobtree.specs.Roots.{named_jobs}
use Rattle.zr_jobtree.proofs.Named.{named_more}
use Rattle.zr_jobtree.proofs.root.parts.Goals as goal

pub returns-in-Err-clause-fault : goal.returns-in-Err-clause-fault
returns-in-Err-clause-fault g c = λ other.
    let Told : ℕ → Type 0 = λ before. InTable (NamedFault (asked before (g.P.Patterns.refusals c.job_at.new.patterns) (g.P.Patterns.refused_last c.job_at.new.patterns))) (part_name (series c.args.array.now).name c.loop-index.index) (tree c.node-item.result) c.in-Err.fault in
    stopped (IsTable IsNamed) (λ (asked : Asked). InTable (NamedFault asked)) _ c.loop-index.index _ _ _ _ _ _ _ c.loop-index.invariant.read
    (items_next _ c.loop-index.index c.node-item.result c.loop-index-test.true c.node-item.is)
    (subst Told c.loop-index.invariant.count (c.in-Err.ensures.fault other))

pub loop-index-preserved : goal.loop-index-preserved
loop-index-preserved g c =
    let names : c.add.new.names.items ≡ c.loop-index.names.items ++ c.in-Ok.named.name ∷ [] = search rules in
    let jobs : c.add.new.jobs.items ≡ c.loop-index.jobs.items ++ c.in-Ok.named.job ∷ [] = search rules in
    let WithNames : List (List ℕ) → Type 0 = λ ns. named_jobs ns c.add.new.jobs.items ≡ named_jobs c.loop-index.names.items c.loop-index.jobs.items ++ c.in-Ok.named ∷ [] in
    let WithJobs : List Job → Type 0 = λ js. named_jobs (c.loop-index.names.items ++ c.in-Ok.named.name ∷ []) js ≡ named_jobs c.loop-index.names.items c.loop-index.jobs.items ++ c.in-Ok.named ∷ [] in
    let more = named_more c.loop-index.names.items c.loop-index.jobs.items c.in-Ok.named c.loop-index.invariant.as_many in
    let pushed = subst WithNames (sym names) (subst WithJobs (sym jobs) more) in
    record {
      read =
          one_more (IsTable IsNamed) (λ (asked : Asked). InTable (NamedFault asked)) _ c.loop-index.index _ _ _ _ c.in-Ok.named _ _ c.loop-index.invariant.read
          (items_next _ c.loop-index.index c.node-item.result c.loop-index-test.true c.node-item.is)
          c.in-Ok.ensures.job pushed;
      as_many =
          let long = c.loop-index.invariant.as_many in
          ap length names ∙ length_push c.loop-index.names.items c.in-Ok.named.name ∙ ap (λ (n : ℕ). n + 1) long
          ∙ sym (length_push c.loop-index.jobs.items c.in-Ok.named.job) ∙ sym (ap length jobs);
      count = search rules;
    }

pub returns-clause-jobs : goal.returns-clause-jobs
returns-clause-jobs g c =
    all_read (IsTable IsNamed) (λ (asked : Asked). InTable (NamedFault asked)) _ c.loop-index.index _ _ _ c.loop-index.invariant.read
    (at_drop_all items_tree _ c.loop-index.index c.loop-index-test.false)
