use Rattle.airbyte_message.proofs.EchoLemmas.{one_echo}
use Rattle.airbyte_message.proofs.laws.one_echo.Goals as goal

pub returns : goal.returns
returns c = λ object count text other a b. one_echo object count text other a b
