use Rattle.airbyte_message.proofs.SameLemmas.{same_itself, same_turned, same_onward}
use Rattle.airbyte_message.proofs.same.same_laws.Goals as goal

pub returns : goal.returns
returns c = record {
  itself = λ a other. same_itself a.kind other;
  turned = λ a b same. same_turned a.kind b.kind same;
  onward = λ a b c same next. same_onward a.kind b.kind c.kind same next;
}
