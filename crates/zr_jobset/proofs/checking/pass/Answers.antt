use Rattle.std.proofs.Common.{◌≡◌, ◌∙◌, sym, subst, rules}
use Rattle.zr_jobset.specs.Checks.{RefusedBy, fault_of}
use Rattle.zr_jobset.proofs.Passing.{one_more, passed, refused}
use Rattle.zr_jobset.proofs.checking.pass.Goals as goal

pub loop-number-preserved : goal.loop-number-preserved
loop-number-preserved c =
    one_more c.args.names.now c.args.jobs.now c.args.check c.loop-number.number c.loop-number.invariant (sym c.shows.ensures ∙ c.if-shows.false)

pub returns-clause-passed : goal.returns-clause-passed
returns-clause-passed c =
    passed c.args.names.now c.args.jobs.now c.args.check c.loop-number.number c.loop-number-test.false c.requires.before c.loop-number.invariant

pub returns-then-shows-clause-fault : goal.returns-then-shows-clause-fault
returns-then-shows-clause-fault c =
    let fault : c.fault.result ≡ fault_of c.args.check c.loop-number.number = search rules in
    subst (RefusedBy c.args.names.now c.args.jobs.now) (sym fault)
    (refused c.args.names.now c.args.jobs.now c.args.check c.loop-number.number (record {
      shown = sym c.shows.ensures ∙ c.if-shows.true;
      at_none_before = c.loop-number.invariant;
      others_pass = c.requires.before;
    }))
