use Rattle.std.proofs.Common.{◌≡◌, ◌<◌, ◌^◌, take}
use Rattle.json_scalar.specs.Digits.{spelled, AreDigits}
use Rattle.json_scalar.proofs.number.plain_digits.Given as goal

abbrev pub invariant-loop-byte : goal.invariant-loop-byte
invariant-loop-byte l = record {
  value : l.number ≡ spelled (take l.byte-index l.text);
  small : l.number < 10 ^ l.byte-index;
  digits : AreDigits (take l.byte-index l.text);
}
