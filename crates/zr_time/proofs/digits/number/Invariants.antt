use Rattle.std.proofs.Common.{◌≡◌, ◌^◌, ◌<◌, take}
use Rattle.zr_time.specs.Digits.{digits}
use Rattle.zr_time.proofs.digits.number.Given as goal

abbrev pub invariant-loop-byte : goal.invariant-loop-byte
invariant-loop-byte l = record {
  fits : l.number < 10 ^ l.byte-index;
  text_is : take l.byte-index l.text ≡ digits l.byte-index l.number;
}
