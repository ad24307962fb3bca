use Rattle.json_write.proofs.Numerals.{decimal_literal}
use Rattle.json_write.proofs.Values.{decimal_within}
use Rattle.json_write.proofs.laws.numbers_read_back.Goals as goal

pub returns : goal.returns
returns c = record { whole = λ n small. decimal_literal n small; flat = λ n small. decimal_within 0 n small }
