use Rattle.json_scalar.proofs.Powers.{past_eighteen}
use Rattle.json_scalar.proofs.number.times_power.Goals as goal

pub returns-then-power-gt18 : goal.returns-then-power-gt18
returns-then-power-gt18 c = past_eighteen c.args.number c.args.power c.if-number-eq0.false c.if-power-gt18.true
