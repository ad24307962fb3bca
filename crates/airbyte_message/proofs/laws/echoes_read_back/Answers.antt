use Rattle.airbyte_message.proofs.EchoBack.{echo_back}
use Rattle.airbyte_message.proofs.laws.echoes_read_back.Goals as goal

pub returns : goal.returns
returns c = λ state count line is small echo. echo_back state count line is small echo
