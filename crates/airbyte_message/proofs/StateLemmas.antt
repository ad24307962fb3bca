-- A state from its members.
use Rattle.std.proofs.Common.{◌≡◌, ℕ, zero, suc, List, [], ◌∷◌, ◌++◌, Option, None, Some, refl, sym, ◌∙◌, ap, subst, arith, ◌<◌, ◌+◌, length, take, slice_index_or, codes, IfNone}
use Rattle.std.specs.Option.{option_map}
use Rattle.json_span.specs.Members.{AreMembers, text_at}
use Rattle.json_span.specs.Elements.{AreElements}
use Rattle.json_span.specs.declared.Member.{Member}
use Rattle.json_span.specs.declared.Span.{Span}
use Rattle.basics.specs.declared.stream.StreamId.{StreamId}
use Rattle.json_fields.specs.Answer.{IsAnswer, IsOnly}
use Rattle.json_fields.specs.Fields.{HasField, HasOptional, HasOptionalText, line_depth}
use Rattle.json_fields.specs.Parts.{HasOptionalCount, IsCutList}
use Rattle.airbyte_message.specs.Parts.{HasDescriptor}
use Rattle.airbyte_message.specs.States.{AreOptionalStats, HasStats, IsStateType, HasStateType, IsStreamBlob, IsStreamState, AreStreamBlobs, HasStreamBlobs, IsGlobalState, IsKind, IsState, state_depth, IsOneLine}
use Rattle.airbyte_message.specs.State.{State}
use Rattle.airbyte_message.specs.declared.message.StateKind.{StateKind}
use Rattle.airbyte_message.specs.declared.message.StateKind.TheVariants as kind
use Rattle.airbyte_message.specs.declared.message.StreamBlob.{StreamBlob}
use Rattle.airbyte_message.specs.declared.state_message.StateType.{StateType}
use Rattle.airbyte_message.specs.declared.state_message.StateType.TheVariants as types
use Rattle.std.proofs.lemmas.List.{take_more}
use Rattle.json_fields.proofs.AnswerLemmas.{at, both, wrapped}

-- counts that a state may tell
pub stats_uncut : (text : List ℕ) → ((members : List Member) → ¬ AreMembers line_depth text members) → IsAnswer (HasOptionalCount text (codes "recordCount")) None
stats_uncut text none = λ count has. none has.optional.members has.optional.object

optional_stats_absent : (held : Option (List ℕ)) (count : Option ℕ) → held ≡ None → AreOptionalStats held count → count ≡ None
optional_stats_absent None count e is = is
optional_stats_absent (Some held) count e is = absurd (cc)

pub has_stats_absent : (text : List ℕ) → IsOnly (HasOptional text (codes "sourceStats")) None → IsOnly (HasStats text) None
has_stats_absent text optional = record {
  is = record { held = None; optional = optional.is; stats = refl };
  only = λ other is. optional_stats_absent is.held other (optional.only is.held is.optional) is.stats;
}

pub has_stats : (text stats : List ℕ) (found : Option (Option ℕ)) → IsOnly (HasOptional text (codes "sourceStats")) (Some stats) → IsAnswer (HasOptionalCount stats (codes "recordCount")) found → IsAnswer (HasStats text) found
has_stats text stats None optional none = λ other is. none other (subst (λ (h : Option (List ℕ)). AreOptionalStats h other) (optional.only is.held is.optional) is.stats)
has_stats text stats (Some count) optional only = record {
  is = record { held = Some stats; optional = optional.is; stats = only.is };
  only = λ other is. only.only other (subst (λ (h : Option (List ℕ)). AreOptionalStats h other) (optional.only is.held is.optional) is.stats);
}

-- the type of a state
pub state_type_at : (text : List ℕ) (name : Option (List ℕ)) (found : Option StateType) → IsOnly (HasOptionalText text (codes "type")) name → IsAnswer (IsStateType name) found → IsAnswer (HasStateType text) found
state_type_at text = at (HasOptionalText text (codes "type")) IsStateType (HasStateType text) (λ n t optional is. record { name = n; optional = optional; named = is }) (λ t has. (has.name, has.optional, has.named))

pub state_type_absent : (text : List ℕ) → IsAnswer (HasOptionalText text (codes "type")) None → IsAnswer (HasStateType text) None
state_type_absent text none = λ t has. none has.name has.optional

-- a stream and its blob
abbrev pub stream_blob : StreamId → Option (List ℕ) → StreamBlob
stream_blob id blob = record { id = id; blob = blob }

pub stream_blob_answer : (text : List ℕ) (id : StreamId) (blob : Option (List ℕ)) → IsOnly (HasDescriptor text) id → IsOnly (HasOptional text (codes "stream_state")) blob → IsOnly (IsStreamBlob text) (stream_blob id blob)
stream_blob_answer text = both (HasDescriptor text) (HasOptional text (codes "stream_state")) (IsStreamBlob text) stream_blob (λ id blob i b. record { id = i; blob = b }) (λ part is. (part.id, part.blob, is.id, is.blob, refl))

pub stream_blob_unnamed : (text : List ℕ) → IsAnswer (HasDescriptor text) None → IsAnswer (IsStreamBlob text) None
stream_blob_unnamed text none = λ part is. none part.id is.id

pub stream_blob_uncut : (text : List ℕ) → ((members : List Member) → ¬ AreMembers line_depth text members) → IsAnswer (IsStreamBlob text) None
stream_blob_uncut text none = λ part is. none is.id.field.members is.id.field.object

pub stream_at : (text stream : List ℕ) (found : Option StreamBlob) → IsOnly (HasField text (codes "stream")) stream → IsAnswer (IsStreamBlob stream) found → IsAnswer (IsStreamState text) found
stream_at text = at (HasField text (codes "stream")) IsStreamBlob (IsStreamState text) (λ s part field is. record { stream = s; field = field; blob = is }) (λ part has. (has.stream, has.field, has.blob))

pub stream_absent : (text : List ℕ) → IsAnswer (HasField text (codes "stream")) None → IsAnswer (IsStreamState text) None
stream_absent text none = λ part has. none has.stream has.field

-- the elements so far, of which each is one stream and blob only
abbrev pub AreOnly : List ℕ → List Span → List StreamBlob → Type 0
AreOnly text [] parts = parts ≡ []
AreOnly text (span ∷ spans) [] = ⊥
AreOnly text (span ∷ spans) (part ∷ parts) = IsOnly (IsStreamBlob (text_at text span)) part × AreOnly text spans parts

AreOnly-are : (text : List ℕ) (spans : List Span) (parts : List StreamBlob) → AreOnly text spans parts → AreStreamBlobs text spans parts
AreOnly-are text [] parts h = h
AreOnly-are text (span ∷ spans) [] h = h
AreOnly-are text (span ∷ spans) (part ∷ parts) h = (h.0.is, AreOnly-are text spans parts h.1)

AreOnly-same : (text : List ℕ) (spans : List Span) (parts others : List StreamBlob) → AreOnly text spans parts → AreStreamBlobs text spans others → others ≡ parts
AreOnly-same text [] parts others h is = is ∙ sym h
AreOnly-same text (span ∷ spans) [] others h is = absurd h
AreOnly-same text (span ∷ spans) (part ∷ parts) [] h is = absurd is
AreOnly-same text (span ∷ spans) (part ∷ parts) (other ∷ others) h is =
    ap (λ (p : StreamBlob). p ∷ others) (h.0.only other is.0) ∙ ap (λ (ps : List StreamBlob). part ∷ ps) (AreOnly-same text spans parts others h.1 is.1)

pub stream_blobs_only : (text : List ℕ) (spans : List Span) (parts : List StreamBlob) → AreOnly text spans parts → IsOnly (AreStreamBlobs text spans) parts
stream_blobs_only text spans parts h = record { is = AreOnly-are text spans parts h; only = λ others is. AreOnly-same text spans parts others h is }

AreOnly-more : (text : List ℕ) (spans : List Span) (parts : List StreamBlob) (span : Span) (part : StreamBlob) → AreOnly text spans parts → IsOnly (IsStreamBlob (text_at text span)) part → AreOnly text (spans ++ span ∷ []) (parts ++ part ∷ [])
AreOnly-more text [] parts span part h only = subst (λ (ps : List StreamBlob). AreOnly text (span ∷ []) (ps ++ part ∷ [])) (sym h) (only, refl)
AreOnly-more text (s ∷ spans) [] span part h only = absurd h
AreOnly-more text (s ∷ spans) (p ∷ parts) span part h only = (h.0, AreOnly-more text spans parts span part h.1 only)

pub stream_blobs_more : (text : List ℕ) (spans : List Span) (i : ℕ) (d : Span) (parts after : List StreamBlob) (part : StreamBlob) (element : List ℕ) → i < length spans → element ≡ text_at text (slice_index_or spans i d) → after ≡ parts ++ part ∷ [] → IsOnly (IsStreamBlob element) part → AreOnly text (take i spans) parts → AreOnly text (take (i + 1) spans) after
stream_blobs_more text spans i d parts after part element lt is pushed only h =
    let more = AreOnly-more text (take i spans) parts (slice_index_or spans i d) part h (subst (λ (e : List ℕ). IsOnly (IsStreamBlob e) part) is only) in
    subst (λ (ps : List StreamBlob). AreOnly text (take (i + 1) spans) ps) (sym pushed) (subst (λ (ss : List Span). AreOnly text ss (parts ++ part ∷ [])) (sym (take_more spans i d lt)) more)

-- an element that is no stream
part_at : (text : List ℕ) (spans : List Span) (parts : List StreamBlob) (i : ℕ) (d : Span) → i < length spans → AreStreamBlobs text spans parts → (part : StreamBlob) × IsStreamBlob (text_at text (slice_index_or spans i d)) part
part_at text [] parts i d lt is = absurd (omega arith)
part_at text (span ∷ spans) [] i d lt is = absurd is
part_at text (span ∷ spans) (part ∷ parts) zero d lt is = (part, is.0)
part_at text (span ∷ spans) (part ∷ parts) (suc i) d lt is = part_at text spans parts i d (omega arith) is.1

pub stream_blobs_none : (text : List ℕ) (spans : List Span) (i : ℕ) (d : Span) (element : List ℕ) → i < length spans → element ≡ text_at text (slice_index_or spans i d) → IsAnswer (IsStreamBlob element) None → IsAnswer (AreStreamBlobs text spans) None
stream_blobs_none text spans i d element lt is none = λ parts are.
    let found = part_at text spans parts i d lt are in
    none found.0 (subst (λ (e : List ℕ). IsStreamBlob e found.0) (sym is) found.1)

-- the list of a state of all streams
pub stream_blobs_at : (text list : List ℕ) (spans : List Span) (found : Option (List StreamBlob)) → IsOnly (HasField text (codes "stream_states")) list → IsCutList list spans → IsAnswer (AreStreamBlobs list spans) found → IsAnswer (HasStreamBlobs text) found
stream_blobs_at text list spans None field cut none = λ parts has.
    let elements = subst (λ (l : List ℕ). AreElements line_depth l has.spans) (field.only has.list has.field) has.elements in
    let are = subst (λ (l : List ℕ). AreStreamBlobs l has.spans parts) (field.only has.list has.field) has.are in
    none parts (subst (λ (ss : List Span). AreStreamBlobs list ss parts) (cut.only has.spans elements) are)
stream_blobs_at text list spans (Some found) field cut only = record {
  is = record { list = list; field = field.is; spans = spans; elements = cut.are; are = only.is };
  only = λ parts has.
      let elements = subst (λ (l : List ℕ). AreElements line_depth l has.spans) (field.only has.list has.field) has.elements in
      let are = subst (λ (l : List ℕ). AreStreamBlobs l has.spans parts) (field.only has.list has.field) has.are in
      only.only parts (subst (λ (ss : List Span). AreStreamBlobs list ss parts) (cut.only has.spans elements) are);
}

pub stream_blobs_uncut : (text list : List ℕ) → IsOnly (HasField text (codes "stream_states")) list → ((spans : List Span) → ¬ AreElements line_depth list spans) → IsAnswer (HasStreamBlobs text) None
stream_blobs_uncut text list field none = λ parts has. none has.spans (subst (λ (l : List ℕ). AreElements line_depth l has.spans) (field.only has.list has.field) has.elements)

pub stream_blobs_absent : (text : List ℕ) → IsAnswer (HasField text (codes "stream_states")) None → IsAnswer (HasStreamBlobs text) None
stream_blobs_absent text none = λ parts has. none has.list has.field

pub list_uncut : (text : List ℕ) (found : Option (List Span)) → found ≡ None → IfNone found ((spans : List Span) → ¬ AreElements line_depth text spans) → (spans : List Span) → ¬ AreElements line_depth text spans
list_uncut text found e none = subst (λ (f : Option (List Span)). IfNone f ((spans : List Span) → ¬ AreElements line_depth text spans)) e none

-- a state of all streams
global_shown : (text : List ℕ) (what : StateKind) → IsKind types.Global text what → (shared : Option (List ℕ)) × (streams : List StreamBlob) × IsGlobalState text shared streams × (what ≡ kind.Global shared streams)
global_shown text (kind.Global shared streams) is = (shared, streams, is, refl)
global_shown text _ is = absurd is

pub global_answer : (text global : List ℕ) (shared : Option (List ℕ)) (streams : List StreamBlob) → IsOnly (HasField text (codes "global")) global → IsOnly (HasOptional global (codes "shared_state")) shared → IsOnly (HasStreamBlobs global) streams → IsOnly (IsKind types.Global text) (kind.Global shared streams)
global_answer text global shared streams field optional list = record {
  is = record { global = global; field = field.is; shared = optional.is; streams = list.is };
  only = λ what is.
      let shown = global_shown text what is in
      let same = field.only shown.2.global shown.2.field in
      let e = optional.only shown.0 (subst (λ (g : List ℕ). HasOptional g (codes "shared_state") shown.0) same shown.2.shared) in
      let f = list.only shown.1 (subst (λ (g : List ℕ). HasStreamBlobs g shown.1) same shown.2.streams) in
      shown.3 ∙ (ap (λ (s : Option (List ℕ)). kind.Global s shown.1) e ∙ ap (λ (l : List StreamBlob). kind.Global shared l) f);
}

pub global_absent : (text : List ℕ) → IsAnswer (HasField text (codes "global")) None → IsAnswer (IsKind types.Global text) None
global_absent text none = λ what is. let shown = global_shown text what is in none shown.2.global shown.2.field

pub global_no_list : (text global : List ℕ) → IsOnly (HasField text (codes "global")) global → IsAnswer (HasStreamBlobs global) None → IsAnswer (IsKind types.Global text) None
global_no_list text global field none = λ what is.
    let shown = global_shown text what is in
    none shown.1 (subst (λ (g : List ℕ). HasStreamBlobs g shown.1) (field.only shown.2.global shown.2.field) shown.2.streams)

pub global_uncut : (text global : List ℕ) → IsOnly (HasField text (codes "global")) global → ((members : List Member) → ¬ AreMembers line_depth global members) → IsAnswer (IsKind types.Global text) None
global_uncut text global field none = global_no_list text global field (λ parts has. none has.field.members has.field.object)

-- what a state is of
stream_shown : (text : List ℕ) (what : StateKind) → IsKind types.Stream text what → (part : StreamBlob) × IsStreamState text part × (what ≡ kind.Stream part.id part.blob)
stream_shown text (kind.Stream id blob) is = (stream_blob id blob, is, refl)
stream_shown text _ is = absurd is

pub stream_kind_answer : (text : List ℕ) (found : Option StreamBlob) → IsAnswer (IsStreamState text) found → IsAnswer (IsKind types.Stream text) (option_map (λ part. kind.Stream part.id part.blob) found)
stream_kind_answer text = wrapped (λ part. kind.Stream part.id part.blob) (IsStreamState text) (IsKind types.Stream text) (λ part is. is) (stream_shown text)

legacy_shown : (text : List ℕ) (what : StateKind) → IsKind types.Legacy text what → what ≡ kind.Legacy
legacy_shown text kind.Legacy is = refl
legacy_shown text _ is = absurd is

pub legacy_answer : (text : List ℕ) → IsOnly (IsKind types.Legacy text) kind.Legacy
legacy_answer text = record { is = tt; only = legacy_shown text }

-- a state
abbrev pub state_msg : List ℕ → StateKind → Option ℕ → State
state_msg object what source_count = record { object = object; kind = what; source_count = source_count }

pub state_answer : (text : List ℕ) (members : List Member) (type : StateType) (what : StateKind) (count : Option ℕ) → IsOneLine text → AreMembers state_depth text members → IsOnly (HasStateType text) type → IsOnly (IsKind type text) what → IsOnly (HasStats text) count → IsOnly (IsState text) (state_msg text what count)
state_answer text members type what count line nests typed kind_is count_is = record {
  is = record { object = refl; line = line; nests = record { members = members; object = nests }; type = type; typed = typed.is; kind = kind_is.is; count = count_is.is };
  only = λ other is. same other is.object (kind_is.only other.kind (subst (λ (t : StateType). IsKind t text other.kind) (typed.only is.type is.typed) is.kind)) (count_is.only other.source_count is.count);
}
  where
    same : (other : State) → other.object ≡ text → other.kind ≡ what → other.source_count ≡ count → other ≡ state_msg text what count
    same other e f g = ap (λ (o : List ℕ). state_msg o other.kind other.source_count) e ∙ (ap (λ (k : StateKind). state_msg text k other.source_count) f ∙ ap (λ (n : Option ℕ). state_msg text what n) g)

pub state_uncut : (text : List ℕ) → ((members : List Member) → ¬ AreMembers state_depth text members) → IsAnswer (IsState text) None
state_uncut text none = λ other is. none is.nests.members is.nests.object

pub state_untyped : (text : List ℕ) → IsAnswer (HasStateType text) None → IsAnswer (IsState text) None
state_untyped text none = λ other is. none is.type is.typed

pub state_no_kind : (text : List ℕ) (type : StateType) → IsOnly (HasStateType text) type → IsAnswer (IsKind type text) None → IsAnswer (IsState text) None
state_no_kind text type typed none = λ other is. none other.kind (subst (λ (t : StateType). IsKind t text other.kind) (typed.only is.type is.typed) is.kind)

pub state_no_count : (text : List ℕ) → IsAnswer (HasStats text) None → IsAnswer (IsState text) None
state_no_count text none = λ other is. none other.source_count is.count
