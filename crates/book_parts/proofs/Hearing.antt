-- A line is read as the message that it is.
use Rattle.std.proofs.Common.{◌≡◌, ℕ, List, Option, Some, refl, subst}
use Rattle.basics.specs.declared.stream.StreamId.{StreamId}
use Rattle.json_fields.specs.Answer.{IsAnswer}
use Rattle.airbyte_message.specs.Messages.{IsMessage}
use Rattle.airbyte_message.specs.declared.message.Message.{Message}
use Rattle.airbyte_message.specs.declared.message.Message.TheVariants as message
use Rattle.airbyte_message.specs.declared.message.RecordMsg.{RecordMsg}
use Rattle.catalog.specs.declared.stream.ConfStream.{ConfStream}
use Rattle.book_rules.specs.Views.{IsNumberIn}
use Rattle.book_parts.specs.declared.heard.Heard.TheVariants as heard
use Rattle.book_parts.specs.Heard.{Hears}

pub hears_record : (catalog : List ConfStream) (line : List ℕ) (read : Option Message) (content : RecordMsg) (id : StreamId) (found : Option ℕ) → IsAnswer (IsMessage line) read → read ≡ Some (message.Rec content) → id ≡ content.id → IsNumberIn catalog id found → Hears catalog line (heard.Record found)
hears_record catalog line read content id found answer is same number =
    let own : IsNumberIn catalog content.id found = subst (λ one. IsNumberIn catalog one found) same number in
    record {
      found = Some (message.Rec content);
      read = subst (IsAnswer (IsMessage line)) is answer;
      hears = record { found = found; number = own; is = refl };
    }
