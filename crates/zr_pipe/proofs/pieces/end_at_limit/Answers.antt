use Rattle.std.proofs.Common.{arith}
use Rattle.zr_pipe.specs.Relay.{relay_max}
use Rattle.zr_pipe.proofs.RelayLemmas.{stopped_whole, stopped_read_fault, stopped_limit}
use Rattle.zr_pipe.proofs.pieces.end_at_limit.Goals as goal

pub returns-in-Ok-eq0-clause-stopped : goal.returns-in-Ok-eq0-clause-stopped
returns-in-Ok-eq0-clause-stopped g c = λ written.
    stopped_whole _ _ written relay_max _ _ c.in-Ok-eq0.field-0-test c.in-Ok-eq0.ensures.taken (c.in-Ok-eq0.ensures.end c.requires.some) (omega arith)

pub returns-in-Ok-clause-stopped : goal.returns-in-Ok-clause-stopped
returns-in-Ok-clause-stopped g c = λ written.
    stopped_limit _ _ written _ _ c.in-Ok.ensures.taken c.in-Ok.ensures.fits (omega (arith, c.requires.small)) c.in-Ok.field-0-test.1

pub returns-in-Err-clause-stopped : goal.returns-in-Err-clause-stopped
returns-in-Err-clause-stopped g c = λ written. stopped_read_fault _ _ written relay_max c.in-Err.ensures.untaken (omega arith)
