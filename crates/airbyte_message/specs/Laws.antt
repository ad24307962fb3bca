-- Laws of lines and echoes.
use Rattle.std.specs.Prelude.{◌≡◌, ℕ, ◌<◌, ◌^◌, List}
use Rattle.airbyte_message.specs.Echo.{IsEcho}
use Rattle.airbyte_message.specs.EchoReads.{ReadsAsEcho}
use Rattle.airbyte_message.specs.Messages.{IsMessage}
use Rattle.airbyte_message.specs.State.{State}
use Rattle.airbyte_message.specs.States.{IsState}
use Rattle.airbyte_message.specs.declared.message.Message.{Message}

-- A line is at most one message.
abbrev pub OneMessage : Type 0
OneMessage = (line : List ℕ) (content other : Message) → IsMessage line content → IsMessage line other → other ≡ content

-- A state object and a count have one echo.
abbrev pub OneEcho : Type 0
OneEcho = (object : List ℕ) (count : ℕ) (text other : List ℕ) → IsEcho object count text → IsEcho object count other → other ≡ text

-- The echo of a state reads back as that state, with the count of the destination.
abbrev pub EchoesReadBack : Type 0
EchoesReadBack = (state : State) (count : ℕ) (line : List ℕ) → IsState state.object state → count < 2 ^ 64 → IsEcho state.object count line → ReadsAsEcho state count line
