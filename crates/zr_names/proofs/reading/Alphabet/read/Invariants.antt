use Rattle.std.proofs.Common.{◌≡◌, ℕ, ◌<◌, false}
use Rattle.zr_names.specs.Alphabet.{is_bad_in}
use Rattle.zr_names.proofs.reading.Alphabet.read.Given as goal

-- no place before this one is bad
abbrev pub invariant-loop-place : goal.invariant-loop-place
invariant-loop-place l =
    (earlier : ℕ) → earlier < l.place → is_bad_in l.self l.text earlier ≡ false
