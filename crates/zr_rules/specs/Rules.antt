-- Compiled rules as the rules that they were compiled from.
use Rattle.zr_rules.specs.declared.rule.RuleSpec.{RuleSpec}
use Rattle.zr_rules.specs.declared.rule.RuleSpec.TheVariants as spec
use Rattle.zr_rules.specs.declared.compiling.Rule.{Rule}
use Rattle.zr_rules.specs.declared.compiling.Rule.TheVariants.{Grid, LastN, NotReplicated, Regex}

abbrev pub spec_of : Rule → RuleSpec
spec_of (Grid grid pattern) = spec.Grid grid pattern
spec_of (LastN count pattern) = spec.LastN count pattern
spec_of (NotReplicated at_cursor) = spec.NotReplicated at_cursor
spec_of (Regex pattern negate) = spec.Regex pattern negate
