use Rattle.std.proofs.Common.{List, ℕ, ap, sym, codes}
use Rattle.json_fields.specs.Fields.{HasText, line_depth}
use Rattle.airbyte_message.specs.Messages.{IsControl}
use Rattle.json_fields.proofs.AnswerLemmas.{along, along_only, uncut}
use Rattle.airbyte_message.proofs.MessageLemmas.{control_msg, control_answer, control_uncut, control_untyped}
use Rattle.airbyte_message.proofs.control_message.control_of.Goals as goal

pub returns-in_default : goal.returns-in_default
returns-in_default c = control_uncut c.args.text.now (uncut line_depth c.args.text.now c.in_ok-members.field-0 c.in_default.is c.in_ok-members.ensures.none)

pub returns-in-Some-2 : goal.returns-in-Some-2
returns-in-Some-2 c =
    let text = c.args.text.now in
    along_only (IsControl text) (ap (λ (o : List ℕ). control_msg o) (sym c.in_ok-copy_of-in-Some-2.ensures)) (control_answer text c.in-Some-2._name (along (HasText text (codes "type")) c.in-Some-2.is c.in_ok-_name.ensures))

pub returns : goal.returns
returns c = control_untyped c.args.text.now (along (HasText c.args.text.now (codes "type")) c.in-None.is c.in_ok-_name.ensures)
