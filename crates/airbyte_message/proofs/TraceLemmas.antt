-- A trace from its members.
use Rattle.std.proofs.Common.{◌≡◌, ℕ, List, Option, None, Some, refl, ◌∙◌, ap, subst, codes}
use Rattle.std.specs.Option.{option_map}
use Rattle.json_span.specs.Members.{AreMembers}
use Rattle.json_span.specs.declared.Member.{Member}
use Rattle.basics.specs.declared.stream.StreamId.{StreamId}
use Rattle.json_fields.specs.Answer.{IsAnswer, IsOnly}
use Rattle.json_fields.specs.Fields.{HasField, HasText, HasOptionalText, line_depth}
use Rattle.json_fields.specs.Parts.{HasOptionalNumber}
use Rattle.airbyte_message.specs.Parts.{HasDescriptor}
use Rattle.airbyte_message.specs.Words.{trace_text, failure_text, status_text}
use Rattle.airbyte_message.specs.Traces.{HasError, HasStatus, IsTold, IsTrace}
use Rattle.airbyte_message.specs.declared.failure_type.FailureType.{FailureType}
use Rattle.airbyte_message.specs.declared.stream_status.StreamStatus.{StreamStatus}
use Rattle.airbyte_message.specs.declared.message.TraceMsg.{TraceMsg}
use Rattle.airbyte_message.specs.declared.message.TraceMsg.TheVariants as trace
use Rattle.airbyte_message.specs.declared.trace_message.TraceType.{TraceType}
use Rattle.airbyte_message.specs.declared.trace_message.TraceType.TheVariants as types
use Rattle.json_fields.proofs.AnswerLemmas.{at}

-- an error
error_shown : (text : List ℕ) (at : Option (List ℕ)) (content : TraceMsg) → IsTold types.Error text at content → (meaning : List ℕ) × (failure : Option FailureType) × HasError text meaning failure × (content ≡ trace.Error meaning failure at)
error_shown text at (trace.Error meaning failure other) is = (meaning, failure, is.0, ap (λ (o : Option (List ℕ)). trace.Error meaning failure o) is.1)
error_shown text at _ is = absurd is

abbrev pub HasFailure : List ℕ → Option FailureType → Type 0
HasFailure text failure = HasOptionalText text (codes "failure_type") (option_map failure_text failure)

pub error_answer : (text error meaning : List ℕ) (failure : Option FailureType) (at : Option (List ℕ)) → IsOnly (HasField text (codes "error")) error → IsOnly (HasText error (codes "message")) meaning → IsOnly (HasFailure error) failure → IsOnly (IsTold types.Error text at) (trace.Error meaning failure at)
error_answer text error meaning failure at field message type = record {
  is = (record { error = error; field = field.is; message = message.is; failure = type.is }, refl);
  only = λ content is.
      let shown = error_shown text at content is in
      let same = field.only shown.2.error shown.2.field in
      let e = message.only shown.0 (subst (λ (t : List ℕ). HasText t (codes "message") shown.0) same shown.2.message) in
      let f = type.only shown.1 (subst (λ (t : List ℕ). HasFailure t shown.1) same shown.2.failure) in
      shown.3 ∙ (ap (λ (m : List ℕ). trace.Error m shown.1 at) e ∙ ap (λ (t : Option FailureType). trace.Error meaning t at) f);
}

pub error_absent : (text : List ℕ) (at : Option (List ℕ)) → IsAnswer (HasField text (codes "error")) None → IsAnswer (IsTold types.Error text at) None
error_absent text at none = λ content is. let shown = error_shown text at content is in none shown.2.error shown.2.field

pub error_no_message : (text error : List ℕ) (at : Option (List ℕ)) → IsOnly (HasField text (codes "error")) error → IsAnswer (HasText error (codes "message")) None → IsAnswer (IsTold types.Error text at) None
error_no_message text error at field none = λ content is.
    let shown = error_shown text at content is in
    none shown.0 (subst (λ (t : List ℕ). HasText t (codes "message") shown.0) (field.only shown.2.error shown.2.field) shown.2.message)

pub error_uncut : (text error : List ℕ) (at : Option (List ℕ)) → IsOnly (HasField text (codes "error")) error → ((members : List Member) → ¬ AreMembers line_depth error members) → IsAnswer (IsTold types.Error text at) None
error_uncut text error at field none = error_no_message text error at field (λ meaning has. none has.field.members has.field.object)

pub error_no_failure : (text error : List ℕ) (at : Option (List ℕ)) → IsOnly (HasField text (codes "error")) error → IsAnswer (HasFailure error) None → IsAnswer (IsTold types.Error text at) None
error_no_failure text error at field none = λ content is.
    let shown = error_shown text at content is in
    none shown.1 (subst (λ (t : List ℕ). HasFailure t shown.1) (field.only shown.2.error shown.2.field) shown.2.failure)

-- a stream's status
status_shown : (text : List ℕ) (at : Option (List ℕ)) (content : TraceMsg) → IsTold types.StreamStatus text at content → (id : StreamId) × (status : StreamStatus) × HasStatus text id status × (content ≡ trace.Status id status at)
status_shown text at (trace.Status id status other) is = (id, status, is.0, ap (λ (o : Option (List ℕ)). trace.Status id status o) is.1)
status_shown text at _ is = absurd is

abbrev pub IsStatusOf : List ℕ → StreamStatus → Type 0
IsStatusOf text status = HasText text (codes "status") (status_text status)

pub status_answer : (text held : List ℕ) (id : StreamId) (status : StreamStatus) (at : Option (List ℕ)) → IsOnly (HasField text (codes "stream_status")) held → IsOnly (HasDescriptor held) id → IsOnly (IsStatusOf held) status → IsOnly (IsTold types.StreamStatus text at) (trace.Status id status at)
status_answer text held id status at field stream type = record {
  is = (record { held = held; field = field.is; stream = stream.is; status = type.is }, refl);
  only = λ content is.
      let shown = status_shown text at content is in
      let same = field.only shown.2.held shown.2.field in
      let e = stream.only shown.0 (subst (λ (t : List ℕ). HasDescriptor t shown.0) same shown.2.stream) in
      let f = type.only shown.1 (subst (λ (t : List ℕ). IsStatusOf t shown.1) same shown.2.status) in
      shown.3 ∙ (ap (λ (i : StreamId). trace.Status i shown.1 at) e ∙ ap (λ (s : StreamStatus). trace.Status id s at) f);
}

pub status_absent : (text : List ℕ) (at : Option (List ℕ)) → IsAnswer (HasField text (codes "stream_status")) None → IsAnswer (IsTold types.StreamStatus text at) None
status_absent text at none = λ content is. let shown = status_shown text at content is in none shown.2.held shown.2.field

pub status_no_stream : (text held : List ℕ) (at : Option (List ℕ)) → IsOnly (HasField text (codes "stream_status")) held → IsAnswer (HasDescriptor held) None → IsAnswer (IsTold types.StreamStatus text at) None
status_no_stream text held at field none = λ content is.
    let shown = status_shown text at content is in
    none shown.0 (subst (λ (t : List ℕ). HasDescriptor t shown.0) (field.only shown.2.held shown.2.field) shown.2.stream)

pub status_uncut : (text held : List ℕ) (at : Option (List ℕ)) → IsOnly (HasField text (codes "stream_status")) held → ((members : List Member) → ¬ AreMembers line_depth held members) → IsAnswer (IsTold types.StreamStatus text at) None
status_uncut text held at field none = status_no_stream text held at field (λ id has. none has.field.members has.field.object)

pub status_no_word : (text held : List ℕ) (at : Option (List ℕ)) → IsOnly (HasField text (codes "stream_status")) held → IsAnswer (IsStatusOf held) None → IsAnswer (IsTold types.StreamStatus text at) None
status_no_word text held at field none = λ content is.
    let shown = status_shown text at content is in
    none shown.1 (subst (λ (t : List ℕ). IsStatusOf t shown.1) (field.only shown.2.held shown.2.field) shown.2.status)

-- another trace
estimate_shown : (text : List ℕ) (at : Option (List ℕ)) (content : TraceMsg) → IsTold types.Estimate text at content → content ≡ trace.Other text
estimate_shown text at (trace.Other object) is = ap (λ (o : List ℕ). trace.Other o) is
estimate_shown text at _ is = absurd is

pub estimate_answer : (text : List ℕ) (at : Option (List ℕ)) → IsOnly (IsTold types.Estimate text at) (trace.Other text)
estimate_answer text at = record { is = refl; only = estimate_shown text at }

analytics_shown : (text : List ℕ) (at : Option (List ℕ)) (content : TraceMsg) → IsTold types.Analytics text at content → content ≡ trace.Other text
analytics_shown text at (trace.Other object) is = ap (λ (o : List ℕ). trace.Other o) is
analytics_shown text at _ is = absurd is

pub analytics_answer : (text : List ℕ) (at : Option (List ℕ)) → IsOnly (IsTold types.Analytics text at) (trace.Other text)
analytics_answer text at = record { is = refl; only = analytics_shown text at }

-- a trace
abbrev pub IsTypeOf : List ℕ → TraceType → Type 0
IsTypeOf text type = HasText text (codes "type") (trace_text type)

moved : (text : List ℕ) (type : TraceType) (at : Option (List ℕ)) (content : TraceMsg) → IsOnly (IsTypeOf text) type → IsOnly (HasOptionalNumber text (codes "emitted_at")) at → IsTrace text content → IsTold type text at content
moved text type at content typed number is =
    let told = subst (λ (t : TraceType). IsTold t text is.emitted_at content) (typed.only is.type is.typed) is.told in
    subst (λ (a : Option (List ℕ)). IsTold type text a content) (number.only is.emitted_at is.number) told

pub trace_answer : (text : List ℕ) (type : TraceType) (at : Option (List ℕ)) (found : Option TraceMsg) → IsOnly (IsTypeOf text) type → IsOnly (HasOptionalNumber text (codes "emitted_at")) at → IsAnswer (IsTold type text at) found → IsAnswer (IsTrace text) found
trace_answer text type at None typed number none = λ content is. none content (moved text type at content typed number is)
trace_answer text type at (Some told) typed number only = record {
  is = record { type = type; typed = typed.is; emitted_at = at; number = number.is; told = only.is };
  only = λ content is. only.only content (moved text type at content typed number is);
}

pub trace_uncut : (text : List ℕ) → ((members : List Member) → ¬ AreMembers line_depth text members) → IsAnswer (IsTrace text) None
trace_uncut text none = λ content is. none is.typed.field.members is.typed.field.object

pub trace_untyped : (text : List ℕ) → IsAnswer (IsTypeOf text) None → IsAnswer (IsTrace text) None
trace_untyped text none = λ content is. none is.type is.typed

pub trace_no_number : (text : List ℕ) → IsAnswer (HasOptionalNumber text (codes "emitted_at")) None → IsAnswer (IsTrace text) None
trace_no_number text none = λ content is. none is.emitted_at is.number
