-- Streams in the members of an object.
use Rattle.std.proofs.Common.{ℕ, List, Option, None, ◌∙◌, ap, codes}
use Rattle.json_span.specs.Members.{AreMembers}
use Rattle.json_span.specs.declared.Member.{Member}
use Rattle.basics.specs.declared.stream.StreamId.{StreamId}
use Rattle.json_fields.specs.Answer.{IsAnswer, IsOnly}
use Rattle.json_fields.specs.Fields.{HasField, HasText, HasOptionalText, line_depth}
use Rattle.airbyte_message.specs.Parts.{IsStreamId, HasDescriptor}
use Rattle.json_fields.proofs.AnswerLemmas.{at}

-- a stream
abbrev pub stream_id : List ℕ → Option (List ℕ) → StreamId
stream_id name namespace = record { name = name; namespace = namespace }

pub stream_id_answer : (text member name : List ℕ) (namespace : Option (List ℕ)) → IsOnly (HasText text member) name → IsOnly (HasOptionalText text (codes "namespace")) namespace → IsOnly (IsStreamId text member) (stream_id name namespace)
stream_id_answer text member name namespace named spaced = record {
  is = record { name = named.is; namespace = spaced.is };
  only = λ other is. ap (λ (n : List ℕ). stream_id n other.namespace) (named.only other.name is.name) ∙ ap (λ (n : Option (List ℕ)). stream_id name n) (spaced.only other.namespace is.namespace);
}

pub stream_id_unnamed : (text member : List ℕ) → IsAnswer (HasText text member) None → IsAnswer (IsStreamId text member) None
stream_id_unnamed text member named = λ id is. named id.name is.name

pub stream_id_misplaced : (text member : List ℕ) → IsAnswer (HasOptionalText text (codes "namespace")) None → IsAnswer (IsStreamId text member) None
stream_id_misplaced text member spaced = λ id is. spaced id.namespace is.namespace

pub stream_id_uncut : (text member : List ℕ) → ((members : List Member) → ¬ AreMembers line_depth text members) → IsAnswer (IsStreamId text member) None
stream_id_uncut text member none = λ id is. none is.name.field.members is.name.field.object

-- a stream's descriptor
pub descriptor_at : (text descriptor : List ℕ) (found : Option StreamId) → IsOnly (HasField text (codes "stream_descriptor")) descriptor → IsAnswer (IsStreamId descriptor (codes "name")) found → IsAnswer (HasDescriptor text) found
descriptor_at text = at (HasField text (codes "stream_descriptor")) (λ d id. IsStreamId d (codes "name") id) (HasDescriptor text) (λ d id field stream. record { descriptor = d; field = field; stream = stream }) (λ id has. (has.descriptor, has.field, has.stream))

pub descriptor_absent : (text : List ℕ) → IsAnswer (HasField text (codes "stream_descriptor")) None → IsAnswer (HasDescriptor text) None
descriptor_absent text none = λ id has. none has.descriptor has.field
