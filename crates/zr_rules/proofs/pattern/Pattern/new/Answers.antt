use Rattle.zr_rules.proofs.Read.{finds-as, readable}
use Rattle.zr_rules.proofs.pattern.Pattern.new.Goals as goal

pub invariant_of-result : goal.invariant_of-result
invariant_of-result c = (finds-as c.args.regex c.requires.options c.requires.read, readable c.args.regex c.requires.options c.requires.read)

pub returns-clause-readable : goal.returns-clause-readable
returns-clause-readable c = readable c.args.regex c.requires.options c.requires.read
