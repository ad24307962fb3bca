use Rattle.json_scalar.proofs.Powers.{past_thirty_seven}
use Rattle.json_scalar.proofs.number.with_zeros.Goals as goal

pub returns-then-zeros-gt37 : goal.returns-then-zeros-gt37
returns-then-zeros-gt37 c = past_thirty_seven c.args.number c.args.zeros c.if-number-eq0.false c.if-zeros-gt37.true
