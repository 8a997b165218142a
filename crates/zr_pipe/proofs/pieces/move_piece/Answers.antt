use Rattle.std.proofs.Common.{refl, arith}
use Rattle.zr_pipe.proofs.RelayLemmas.{stopped_whole, stopped_read_fault, stopped_piece}
use Rattle.zr_pipe.proofs.pieces.move_piece.Goals as goal

pub returns-in-Ok-eq0-clause-stopped : goal.returns-in-Ok-eq0-clause-stopped
returns-in-Ok-eq0-clause-stopped g c =
    stopped_whole _ _ _ _ _ _ c.in-Ok-eq0.field-0-test c.in-Ok-eq0.ensures.taken (c.in-Ok-eq0.ensures.end c.requires.some) (omega (arith, c.requires.limited))

pub returns-in-Err-clause-stopped : goal.returns-in-Err-clause-stopped
returns-in-Err-clause-stopped g c = stopped_read_fault _ _ _ _ c.in-Err.ensures.untaken (omega (arith, c.requires.limited))

pub returns-in-Err-Failed-clause-stopped : goal.returns-in-Err-Failed-clause-stopped
returns-in-Err-Failed-clause-stopped g c =
    stopped_piece _ _ _ _ _ _ _ _ c.in-Ok.ensures.taken c.in-Err-Failed.ensures.front c.in-Ok.ensures.fits (omega (arith, c.requires.small)) (omega (arith, c.requires.limited)) (λ piece size. (refl, omega (arith, size, c.in-Ok.count-test.1)))

pub returns-in-Err-NoMemory-clause-stopped : goal.returns-in-Err-NoMemory-clause-stopped
returns-in-Err-NoMemory-clause-stopped g c =
    stopped_piece _ _ _ _ _ _ _ _ c.in-Ok.ensures.taken c.in-Err-NoMemory.ensures.front c.in-Ok.ensures.fits (omega (arith, c.requires.small)) (omega (arith, c.requires.limited)) (λ piece size. omega (arith, c.requires.some, c.requires.limited))
