use Rattle.std.proofs.Common.{ap, sym, codes}
use Rattle.std.specs.Option.{option_copied}
use Rattle.json_fields.specs.Fields.{line_depth}
use Rattle.json_fields.specs.Parts.{HasObject}
use Rattle.json_fields.proofs.AnswerLemmas.{along, along_only, uncut}
use Rattle.airbyte_message.proofs.MessageLemmas.{spec_answer, spec_uncut, spec_absent}
use Rattle.airbyte_message.proofs.spec_message.spec_of.Goals as goal

pub returns-in_default : goal.returns-in_default
returns-in_default c = spec_uncut c.args.text.now (uncut line_depth c.args.text.now c.in_ok-members.field-0 c.in_default.is c.in_ok-members.ensures.none)

pub returns-in-Some-2 : goal.returns-in-Some-2
returns-in-Some-2 c =
    let text = c.args.text.now in
    spec_answer text c.in_ok-copy_of-in-Some-2.field-0 (along_only (HasObject text (codes "connectionSpecification")) (sym c.in_ok-copy_of-in-Some-2.ensures) (along (HasObject text (codes "connectionSpecification")) (ap option_copied c.in-Some-2.is) c.in_ok-object.ensures))

pub returns : goal.returns
returns c = spec_absent c.args.text.now (along (HasObject c.args.text.now (codes "connectionSpecification")) (ap option_copied c.in-None.is) c.in_ok-object.ensures)
