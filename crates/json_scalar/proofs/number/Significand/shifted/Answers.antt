use Rattle.json_scalar.proofs.Powers.{meets_low, found_meets, none_meets}
use Rattle.json_scalar.proofs.number.Significand.shifted.Goals as goal

pub returns-then-up-lowered-clause-none : goal.returns-then-up-lowered-clause-none
returns-then-up-lowered-clause-none c = λ n small m.
    meets_low c.args.self.core c.args.self.zeros c.args.raised c.args.lowered n c.requires.some c.requires.trimmed.ends c.if-up-lowered.true m

pub returns-clause-value : goal.returns-clause-value
returns-clause-value c = found_meets c.args.self.core c.args.self.zeros c.args.raised c.args.lowered c.times_power.result c.if-up-lowered.false c.times_power.ensures

pub returns-clause-none : goal.returns-clause-none
returns-clause-none c = none_meets c.args.self.core c.args.self.zeros c.args.raised c.args.lowered c.times_power.result c.if-up-lowered.false c.times_power.ensures
