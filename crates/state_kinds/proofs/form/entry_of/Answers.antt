use Rattle.std.proofs.Common.{codes}
use Rattle.json_fields.specs.Fields.{line_depth}
use Rattle.json_fields.specs.Parts.{HasCount}
use Rattle.json_fields.proofs.AnswerLemmas.{along, uncut}
use Rattle.airbyte_message.specs.Parts.{IsStreamId}
use Rattle.state_kinds.specs.Store.{HasState}
use Rattle.state_kinds.proofs.FormLemmas.{entry_answer, entry_stateless, entry_uncut, entry_unnamed, entry_unnumbered}
use Rattle.state_kinds.proofs.form.entry_of.Goals as goal

pub returns-in_default : goal.returns-in_default
returns-in_default c = entry_uncut c.args.text.now (uncut line_depth c.args.text.now c.in_ok-members.field-0 c.in_default.is c.in_ok-members.ensures.none)

pub returns-in_default-2 : goal.returns-in_default-2
returns-in_default-2 c = entry_unnamed c.args.text.now (along (IsStreamId c.args.text.now (codes "name")) c.in_default-2.is c.in_ok-id.ensures)

pub returns-in_default-3 : goal.returns-in_default-3
returns-in_default-3 c = entry_unnumbered c.args.text.now (along (HasCount c.args.text.now (codes "generation")) c.in_default-3.is c.in_ok-generation.ensures)

pub returns-in_default-4 : goal.returns-in_default-4
returns-in_default-4 c = entry_stateless c.args.text.now (along (HasState c.args.text.now (codes "state")) c.in_default-4.is c.in_ok-state.ensures)

pub returns : goal.returns
returns c =
    let text = c.args.text.now in
    entry_answer text c.in-Some-2.id c.in-Some-3.generation c.in-Some-4.state
    (along (IsStreamId text (codes "name")) c.in-Some-2.is c.in_ok-id.ensures)
    (along (HasCount text (codes "generation")) c.in-Some-3.is c.in_ok-generation.ensures)
    (along (HasState text (codes "state")) c.in-Some-4.is c.in_ok-state.ensures)
