use Rattle.std.proofs.Common.{option_map}
use Rattle.airbyte_message.specs.Views.{message_at, record_at}
use Rattle.book_parts.proofs.Hearing.{hears_record}
use Rattle.book_parts.proofs.heard.hear.Goals as goal

pub returns-in_ok-id-in-Some-Rec : goal.returns-in_ok-id-in-Some-Rec
returns-in_ok-id-in-Some-Rec c = hears_record _ _ (option_map message_at c.in_ok-record.field-0) (record_at c.in-Some-Rec.record) _ _ c.in_ok-record.ensures (cc) c.in_ok-id-in-Some-Rec.ensures c.find.ensures
