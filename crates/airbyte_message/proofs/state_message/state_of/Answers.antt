use Rattle.std.proofs.Common.{List, ℕ, ap, sym, ◌∙◌}
use Rattle.airbyte_message.specs.States.{HasStateType, IsKind, HasStats, IsState, state_depth}
use Rattle.json_fields.proofs.AnswerLemmas.{along, along_only, uncut, within}
use Rattle.airbyte_message.proofs.StateLemmas.{state_msg, state_answer, state_uncut, state_untyped, state_no_kind, state_no_count}
use Rattle.airbyte_message.proofs.state_message.state_of.Goals as goal

pub returns-in_default : goal.returns-in_default
returns-in_default c =
    state_uncut c.args.text.now (uncut state_depth c.args.text.now c.in_ok-members.field-0 c.in_default.is c.in_ok-members.ensures.none)

pub returns-in_default-2 : goal.returns-in_default-2
returns-in_default-2 c = state_untyped c.args.text.now (along (HasStateType c.args.text.now) c.in_default-2.is c.in_ok-state_type.ensures)

pub returns-in_default-3 : goal.returns-in_default-3
returns-in_default-3 c =
    let text = c.args.text.now in
    state_no_kind text c.in-Some-2.state_type (along (HasStateType text) c.in-Some-2.is c.in_ok-state_type.ensures) (along (IsKind c.in-Some-2.state_type text) c.in_default-3.is c.in_ok-kind.ensures)

pub returns-in_default-4 : goal.returns-in_default-4
returns-in_default-4 c = state_no_count c.args.text.now (along (HasStats c.args.text.now) c.in_default-4.is c.in_ok-source_count.ensures)

pub returns : goal.returns
returns c =
    let text = c.args.text.now in
    let line = c.is_one_line.ensures.0 c.if-not-is_one_line.false in
    let cut = within state_depth text c.in_ok-members.field-0 c.in-Some.members c.in-Some.is c.in_ok-members.ensures.within in
    let typed = along (HasStateType text) c.in-Some-2.is c.in_ok-state_type.ensures in
    along_only (IsState text) (ap (λ (o : List ℕ). state_msg o c.in-Some-3.kind c.in-Some-4.source_count) (sym (c.new-object.ensures ∙ c.in_ok-copy_of.ensures)) ∙ sym c.new.ensures) (state_answer text c.in-Some.members c.in-Some-2.state_type c.in-Some-3.kind c.in-Some-4.source_count line cut typed (along (IsKind c.in-Some-2.state_type text) c.in-Some-3.is c.in_ok-kind.ensures) (along (HasStats text) c.in-Some-4.is c.in_ok-source_count.ensures))
