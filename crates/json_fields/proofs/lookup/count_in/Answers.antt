use Rattle.std.proofs.Common.{ap}
use Rattle.std.specs.Option.{option_copied}
use Rattle.json_fields.specs.Fields.{HasField}
use Rattle.json_fields.proofs.AnswerLemmas.{along}
use Rattle.json_fields.proofs.PartLemmas.{count_answer, has_count, count_absent}
use Rattle.json_fields.proofs.lookup.count_in.Goals as goal

pub returns-in-Some : goal.returns-in-Some
returns-in-Some c =
    let told = c.whole_of.ensures in
    has_count c.args.text.now c.args.name.now c.in-Some.held.now c.whole_of.result (along (HasField c.args.text.now c.args.name.now) (ap option_copied c.in-Some.is) c.in_ok-held.ensures.field) (count_answer c.in-Some.held.now c.whole_of.result told.found told.small told.only told.none)

pub returns-in-None : goal.returns-in-None
returns-in-None c =
    count_absent c.args.text.now c.args.name.now (along (HasField c.args.text.now c.args.name.now) (ap option_copied c.in-None.is) c.in_ok-held.ensures.field)
