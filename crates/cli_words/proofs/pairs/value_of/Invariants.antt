use Rattle.std.proofs.Common.{◌≡◌, map, string_bytes, length}
use Rattle.cli_words.specs.Pairs.{value_of as value_in}
use Rattle.cli_words.proofs.pairs.value_of.Given as goal

abbrev pub invariant-loop-rest : goal.invariant-loop-rest
invariant-loop-rest l = value_in l.option (map string_bytes l.rest) ≡ value_in l.option (map string_bytes l.words)

abbrev pub decreases-loop-rest : goal.decreases-loop-rest
decreases-loop-rest l = length l.rest
