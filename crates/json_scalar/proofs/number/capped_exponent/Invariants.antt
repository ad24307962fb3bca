use Rattle.std.proofs.Common.{◌<◌, ◌^◌, take}
use Rattle.json_scalar.specs.Digits.{spelled, IsCapped}
use Rattle.json_scalar.proofs.number.capped_exponent.Given as goal

abbrev pub invariant-loop-byte : goal.invariant-loop-byte
invariant-loop-byte l = IsCapped l.exponent (spelled (take l.byte-index l.digits)) × (l.exponent < 2 ^ 70)
