use Rattle.std.proofs.Common.{◌+◌, arith}
use Rattle.json_write.proofs.HeldValues.{field_within}
use Rattle.json_write.proofs.laws.fields_nest_less.Goals as goal

pub returns : goal.returns
returns c = λ limit text name held w f. field_within limit (limit + 1) text name held (omega arith) w f
