use Rattle.std.proofs.Common.{Err, ap}
use Rattle.zr_jobrules.proofs.Refusals.{refused_pattern}
use Rattle.zr_jobrules.proofs.patterns.pattern.Goals as goal

pub returns-in-Err-Refused-clause-fault : goal.returns-in-Err-Refused-clause-fault
returns-in-Err-Refused-clause-fault g c = λ other.
    refused_pattern _ _ _ c.in_ok-text.text.now c.in-Some.pattern.now _ c.in_ok-text.ensures.text c.in-Some.ensures.some (c.in-Err-Refused.ensures.refused (ap Err c.in-Err-Refused.field-0-is)) (c.bad_regex.ensures other)
