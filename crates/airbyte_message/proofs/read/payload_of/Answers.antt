use Rattle.std.proofs.Common.{sym, subst}
use Rattle.json_fields.specs.Answer.{IsAnswer}
use Rattle.airbyte_message.specs.Messages.{IsPayload}
use Rattle.airbyte_message.specs.declared.read.MessageType.{MessageType}
use Rattle.json_fields.proofs.AnswerLemmas.{along, mapped}
use Rattle.airbyte_message.proofs.MessageLemmas.{spec_payload, catalog_payload}
use Rattle.airbyte_message.specs.declared.read.MessageType.TheVariants as types
use Rattle.airbyte_message.specs.declared.message.Message.TheVariants as message
use Rattle.airbyte_message.proofs.read.payload_of.Goals as goal

pub returns-in_ok-spec_of-in-Spec : goal.returns-in_ok-spec_of-in-Spec
returns-in_ok-spec_of-in-Spec c =
    let found = c.in_ok-spec_of-in-Spec.field-0 in
    let payload = spec_payload c.args.text.now found c.in_ok-spec_of-in-Spec.ensures in
    subst (λ (t : MessageType). IsAnswer (IsPayload t c.args.text.now) c.map-in-Spec.result) (sym c.in-Spec.is) (along (IsPayload types.Spec c.args.text.now) (mapped (λ content. message.Spec content) found c.map-in-Spec.result c.map-in-Spec.ensures.cases) payload)

pub returns-in_ok-catalog_of-in-Catalog : goal.returns-in_ok-catalog_of-in-Catalog
returns-in_ok-catalog_of-in-Catalog c =
    let found = c.in_ok-catalog_of-in-Catalog.field-0 in
    let payload = catalog_payload c.args.text.now found c.in_ok-catalog_of-in-Catalog.ensures in
    subst (λ (t : MessageType). IsAnswer (IsPayload t c.args.text.now) c.map-in-Catalog.result) (sym c.in-Catalog.is) (along (IsPayload types.Catalog c.args.text.now) (mapped (λ content. message.Catalog content) found c.map-in-Catalog.result c.map-in-Catalog.ensures.cases) payload)
