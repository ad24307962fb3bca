-- What a line says to a book.
use Rattle.std.specs.Prelude.{◌≡◌, ℕ, List, Option, None, Some}
use Rattle.basics.specs.declared.stream.StreamId.{StreamId}
use Rattle.json_fields.specs.Answer.{IsAnswer}
use Rattle.airbyte_message.specs.Messages.{IsMessage}
use Rattle.airbyte_message.specs.declared.message.Message.{Message}
use Rattle.airbyte_message.specs.declared.message.Message.TheVariants as message
use Rattle.catalog.specs.declared.stream.ConfStream.{ConfStream}
use Rattle.load_rules.specs.Lines.{Status, status_told}
use Rattle.book_rules.specs.Views.{IsNumberIn}
use Rattle.book_parts.specs.declared.heard.Heard.{Heard}
use Rattle.book_parts.specs.declared.heard.Heard.TheVariants as heard

pub record HearsStatus (catalog : List ConfStream) (told : Status) (result : Heard) : Type 0 where
  pub found : Option ℕ
  pub number : IsNumberIn catalog told.id found
  pub is : result ≡ heard.Status found told.status

abbrev pub HearsTold : List ConfStream → Option Status → Heard → Type 0
HearsTold catalog None result = result ≡ heard.Other
HearsTold catalog (Some told) result = HearsStatus catalog told result

pub record HearsRecord (catalog : List ConfStream) (id : StreamId) (result : Heard) : Type 0 where
  pub found : Option ℕ
  pub number : IsNumberIn catalog id found
  pub is : result ≡ heard.Record found

abbrev pub HearsMessage : List ConfStream → Message → Heard → Type 0
HearsMessage catalog (message.Rec content) result = HearsRecord catalog content.id result
HearsMessage catalog (message.State state) result = result ≡ heard.State state
HearsMessage catalog (message.Trace content) result = HearsTold catalog (status_told content) result
HearsMessage catalog (message.Log content) result = result ≡ heard.Other
HearsMessage catalog (message.Spec content) result = result ≡ heard.Other
HearsMessage catalog (message.Connection content) result = result ≡ heard.Other
HearsMessage catalog (message.Catalog content) result = result ≡ heard.Other
HearsMessage catalog (message.Control content) result = result ≡ heard.Other

abbrev pub HearsFound : List ConfStream → Option Message → Heard → Type 0
HearsFound catalog None result = result ≡ heard.Nothing
HearsFound catalog (Some content) result = HearsMessage catalog content result

-- the line is read as the message that it is
pub record Hears (catalog : List ConfStream) (line : List ℕ) (result : Heard) : Type 0 where
  pub found : Option Message
  pub read : IsAnswer (IsMessage line) found
  pub hears : HearsFound catalog found result
