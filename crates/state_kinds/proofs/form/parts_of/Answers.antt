use Rattle.std.proofs.Common.{ap, codes}
use Rattle.std.specs.Option.{option_copied}
use Rattle.json_fields.specs.Fields.{HasField}
use Rattle.json_fields.proofs.AnswerLemmas.{along}
use Rattle.state_kinds.specs.Store.{AreStoredEntries, HasState}
use Rattle.state_kinds.proofs.FormLemmas.{parts_answer, parts_other, parts_unheld, parts_unlisted}
use Rattle.state_kinds.proofs.form.parts_of.Goals as goal

pub returns-in_default : goal.returns-in_default
returns-in_default c = parts_unlisted c.args.text.now (along (HasField c.args.text.now (codes "streams")) (ap option_copied c.in_default.is) c.in_ok-list.ensures.field)

pub returns-in_default-2 : goal.returns-in_default-2
returns-in_default-2 c =
    parts_other c.args.text.now c.in-Some.list.now (along (HasField c.args.text.now (codes "streams")) (ap option_copied c.in-Some.is) c.in_ok-list.ensures.field) (along (AreStoredEntries c.in-Some.list.now) c.in_default-2.is c.in_ok-entries.ensures)

pub returns-in_default-3 : goal.returns-in_default-3
returns-in_default-3 c = parts_unheld c.args.text.now (along (HasState c.args.text.now (codes "global")) c.in_default-3.is c.in_ok-global.ensures)

pub returns : goal.returns
returns c =
    let text = c.args.text.now in
    parts_answer text c.in-Some.list.now c.in-Some-2.entries c.in-Some-3.global
    (along (HasField text (codes "streams")) (ap option_copied c.in-Some.is) c.in_ok-list.ensures.field)
    (along (AreStoredEntries c.in-Some.list.now) c.in-Some-2.is c.in_ok-entries.ensures)
    (along (HasState text (codes "global")) c.in-Some-3.is c.in_ok-global.ensures)
