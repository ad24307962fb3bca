use Rattle.json_fields.proofs.AnswerLemmas.{along}
use Rattle.state_kinds.specs.Store.{IsStored}
use Rattle.state_kinds.proofs.ReadLemmas.{reads_fault, reads_other, reads_set, some_text}
use Rattle.state_kinds.proofs.read.read_store.Goals as goal

pub returns-in_default-clause-refused : goal.returns-in_default-clause-refused
returns-in_default-clause-refused c = λ other.
    let text = c.args.text.now in
    reads_other text (some_text text c.is_empty.result c.is_empty.ensures c.if-is_empty.false) (along (IsStored text) c.in_default.is c.in_ok-stored.ensures)

pub returns-in_ok-set_of-in-Ok-clause-read : goal.returns-in_ok-set_of-in-Ok-clause-read
returns-in_ok-set_of-in-Ok-clause-read c =
    let text = c.args.text.now in
    reads_set text c.in-Some.stored c.in_ok-set_of-in-Ok.field-0 (some_text text c.is_empty.result c.is_empty.ensures c.if-is_empty.false) (along (IsStored text) c.in-Some.is c.in_ok-stored.ensures) c.in-Ok.ensures.sound c.in_ok-set_of-in-Ok.ensures

pub returns-in-Err-clause-refused : goal.returns-in-Err-clause-refused
returns-in-Err-clause-refused c = λ other.
    let text = c.args.text.now in
    reads_fault text c.in-Some.stored c.in-Err.fault (some_text text c.is_empty.result c.is_empty.ensures c.if-is_empty.false) (along (IsStored text) c.in-Some.is c.in_ok-stored.ensures) (c.in-Err.ensures.refused other)
