use Rattle.std.proofs.Common.{◌∷◌, ◌++◌, [], sym, subst}
use Rattle.zr_jobfile.specs.declared.JobFault.{JobFault}
use Rattle.zr_top.specs.Records.{fault_line, Wrote, WroteAllOrNothing, WroteFrontOf}
use Rattle.zr_top.proofs.printing.refuse.Goals as goal

pub returns-in-TooManyBytes-clause-whole : goal.returns-in-TooManyBytes-clause-whole
returns-in-TooManyBytes-clause-whole g c = λ other.
    let Says : JobFault → Type 0 = λ why. WroteAllOrNothing (g.S.Sink.faults c.args.out.now) (g.S.Sink.faults c.print.new.out) (g.S.Sink.written c.args.out.now) (g.S.Sink.written c.print.new.out) (fault_line why ++ 10 ∷ []) in
    subst Says (sym c.in-TooManyBytes.is) c.print.ensures.whole

pub returns-in-NotToml-clause-wrote : goal.returns-in-NotToml-clause-wrote
returns-in-NotToml-clause-wrote g c =
    let Says : JobFault → Type 0 = λ why. Wrote c.print-in-NotToml.result (g.S.Sink.written c.args.out.now) (g.S.Sink.written c.print-in-NotToml.new.out) (fault_line why) in
    subst Says (sym c.in-NotToml.is) c.print-in-NotToml.ensures.wrote

pub returns-in-NotToml-clause-front : goal.returns-in-NotToml-clause-front
returns-in-NotToml-clause-front g c = λ other.
    let Says : JobFault → Type 0 = λ why. WroteFrontOf (g.S.Sink.written c.args.out.now) (g.S.Sink.written c.print-in-NotToml.new.out) (fault_line why) in
    subst Says (sym c.in-NotToml.is) c.print-in-NotToml.ensures.front

pub returns-in-NotToml-clause-whole : goal.returns-in-NotToml-clause-whole
returns-in-NotToml-clause-whole g c = λ other.
    let Says : JobFault → Type 0 = λ why. WroteAllOrNothing (g.S.Sink.faults c.args.out.now) (g.S.Sink.faults c.print-in-NotToml.new.out) (g.S.Sink.written c.args.out.now) (g.S.Sink.written c.print-in-NotToml.new.out) (fault_line why ++ 10 ∷ []) in
    subst Says (sym c.in-NotToml.is) c.print-in-NotToml.ensures.whole

pub returns-in-NotBuilt-clause-wrote : goal.returns-in-NotBuilt-clause-wrote
returns-in-NotBuilt-clause-wrote g c =
    let Says : JobFault → Type 0 = λ why. Wrote c.print-in-NotBuilt.result (g.S.Sink.written c.args.out.now) (g.S.Sink.written c.print-in-NotBuilt.new.out) (fault_line why) in
    subst Says (sym c.in-NotBuilt.is) c.print-in-NotBuilt.ensures.wrote

pub returns-in-NotBuilt-clause-front : goal.returns-in-NotBuilt-clause-front
returns-in-NotBuilt-clause-front g c = λ other.
    let Says : JobFault → Type 0 = λ why. WroteFrontOf (g.S.Sink.written c.args.out.now) (g.S.Sink.written c.print-in-NotBuilt.new.out) (fault_line why) in
    subst Says (sym c.in-NotBuilt.is) c.print-in-NotBuilt.ensures.front

pub returns-in-NotBuilt-clause-whole : goal.returns-in-NotBuilt-clause-whole
returns-in-NotBuilt-clause-whole g c = λ other.
    let Says : JobFault → Type 0 = λ why. WroteAllOrNothing (g.S.Sink.faults c.args.out.now) (g.S.Sink.faults c.print-in-NotBuilt.new.out) (g.S.Sink.written c.args.out.now) (g.S.Sink.written c.print-in-NotBuilt.new.out) (fault_line why ++ 10 ∷ []) in
    subst Says (sym c.in-NotBuilt.is) c.print-in-NotBuilt.ensures.whole
