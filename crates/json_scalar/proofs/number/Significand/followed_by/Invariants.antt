use Rattle.std.proofs.Common.{◌≡◌, ◌≤◌, ◌+◌, take}
use Rattle.json_scalar.specs.Digits.{spelled_behind, IsTrimmed}
use Rattle.json_scalar.specs.Seen.{number_of}
use Rattle.json_scalar.proofs.number.Significand.followed_by.Given as goal

abbrev pub invariant-loop-byte : goal.invariant-loop-byte
invariant-loop-byte l = record {
  value : number_of l.number ≡ spelled_behind (number_of l.fn.self) (take l.byte-index l.digits);
  trimmed : IsTrimmed l.number.core;
  room : l.number.zeros ≤ l.fn.self.zeros + l.byte-index;
}
