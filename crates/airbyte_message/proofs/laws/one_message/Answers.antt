use Rattle.airbyte_message.proofs.OneMessage.{message_only}
use Rattle.airbyte_message.proofs.laws.one_message.Goals as goal

pub returns : goal.returns
returns c = λ line content other is other_is. (message_only line content is).only other other_is
