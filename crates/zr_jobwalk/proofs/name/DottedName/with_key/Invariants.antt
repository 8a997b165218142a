use Rattle.std.proofs.Common.{◌≡◌, ◌++◌, take, string_bytes}
use Rattle.zr_jobwalk.specs.Fields.{shown}
use Rattle.zr_jobwalk.proofs.name.DottedName.with_key.Given as goal

abbrev pub invariant-loop-byte : goal.invariant-loop-byte
invariant-loop-byte l =
    string_bytes l.text ≡ l.fn.self ++ shown (take l.byte-index l.key)
