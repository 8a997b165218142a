use Rattle.std.proofs.Common.{◌≡◌, ◌++◌, map, take}
use Rattle.zr_cmd.proofs.words.Words.push_all.Given as goal

-- the texts so far are taken
abbrev pub invariant-loop-text : goal.invariant-loop-text
invariant-loop-text l = l.self ≡ l.initial.self ++ map (λ text. text.now) (take l.text-index l.texts)
