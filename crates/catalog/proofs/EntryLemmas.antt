-- What the members of an entry say, from each of them.
use Rattle.std.proofs.Common.{◌≡◌, ◌≢◌, ◌↔◌, ℕ, List, [], Option, None, refl, sym, ◌∙◌, ap, subst, arith, ◌<◌, ◌≤◌, length, codes, Bool, true, false, IsTrue, unwrap_or}
use Rattle.std.specs.List.{AllZip}
use Rattle.std.specs.Str.{bytes_eq}
use Rattle.std.proofs.lemmas.Slice.Eq.{bytes_eq-Decides}
use Rattle.json_scalar.specs.Text.{IsString}
use Rattle.json_span.specs.Members.{AreMembers, IsSomeObject, text_at}
use Rattle.json_span.specs.declared.Member.{Member}
use Rattle.json_span.specs.declared.Span.{Span}
use Rattle.json_span.specs.Elements.{AreElements}
use Rattle.json_fields.specs.Answer.{IsAnswer, IsOnly}
use Rattle.json_fields.specs.Fields.{HasField, HasOptional, HasText, HasOptionalText, line_depth}
use Rattle.json_fields.specs.Parts.{HasOptionalCount, IsCutList}
use Rattle.json_fields.proofs.AnswerLemmas.{at, true_false}
use Rattle.basics.specs.declared.stream.StreamId.{StreamId}
use Rattle.basics.specs.declared.limits.TheConstants.{LONGEST_NAME}
use Rattle.catalog.specs.declared.entry.Entry.{Entry}
use Rattle.catalog.specs.declared.entry.Ids.{Ids}
use Rattle.catalog.specs.declared.entry.StreamPart.{StreamPart}
use Rattle.catalog.specs.Entry.{PathNames, IsPath, IsKeyPath, IsKey, HasOptionalList, IsOptionalShortName, HasStreamId, HasSchema, IsStream, HasStream, HasIds, IsEntry}
use Rattle.catalog.proofs.ListLemmas.{list_answer, no_list}

-- the names of a path, and the paths of a key
abbrev pub IsNameAt : List ℕ → Span → List ℕ → Type 0
IsNameAt text span name = IsString (text_at text span) name

abbrev pub IsPathAt : List ℕ → Span → PathNames → Type 0
IsPathAt text span path = IsKeyPath (text_at text span) path

pub path_answer : (text : List ℕ) (spans : List Span) (found : Option PathNames) → IsCutList text spans → IsAnswer (AllZip (IsNameAt text) spans) found → IsAnswer (IsPath text) found
path_answer text spans found cut answer = list_answer text (IsNameAt text) (IsPath text) (λ ss names e n. record { spans = ss; elements = e; names = n }) (λ path is. (is.spans, is.elements, is.names)) spans found cut answer

pub no_path : (text : List ℕ) → ((spans : List Span) → ¬ AreElements line_depth text spans) → IsAnswer (IsPath text) None
no_path text none = no_list text (IsPath text) (λ path is. (is.spans, is.elements)) none

pub key_answer : (text : List ℕ) (spans : List Span) (found : Option (List PathNames)) → IsCutList text spans → IsAnswer (AllZip (IsPathAt text) spans) found → IsAnswer (IsKey text) found
key_answer text spans found cut answer = list_answer text (IsPathAt text) (IsKey text) (λ ss paths e p. record { spans = ss; elements = e; paths = p }) (λ key is. (is.spans, is.elements, is.paths)) spans found cut answer

pub no_key : (text : List ℕ) → ((spans : List Span) → ¬ AreElements line_depth text spans) → IsAnswer (IsKey text) None
no_key text none = no_list text (IsKey text) (λ key is. (is.spans, is.elements)) none

-- a path of a key
pub key_path_named : (text : List ℕ) (path : PathNames) → IsOnly (IsPath text) path → path ≢ [] → IsOnly (IsKeyPath text) path
key_path_named text path only named = record { is = record { is = only.is; named = named }; only = λ other is. only.only other is.is }

pub key_path_empty : (text : List ℕ) (path : PathNames) → IsOnly (IsPath text) path → path ≡ [] → IsAnswer (IsKeyPath text) None
key_path_empty text path only empty = λ other is. is.named (only.only other is.is ∙ empty)

pub key_path_none : (text : List ℕ) → IsAnswer (IsPath text) None → IsAnswer (IsKeyPath text) None
key_path_none text none = λ other is. none other is.is

-- the stream's name and namespace
abbrev pub stream_id : List ℕ → Option (List ℕ) → StreamId
stream_id name namespace = record { name = name; namespace = namespace }

pub has_id : (stream name : List ℕ) (namespace : Option (List ℕ)) → IsOnly (HasText stream (codes "name")) name → IsOnly (HasOptionalText stream (codes "namespace")) namespace → length name ≤ LONGEST_NAME → IsOptionalShortName namespace → IsOnly (HasStreamId stream) (stream_id name namespace)
has_id stream name namespace named spaced short also = record {
  is = record { name = named.is; name_fits = short; namespace = spaced.is; namespace_fits = also };
  only = λ other is. ap (λ (n : List ℕ). stream_id n other.namespace) (named.only other.name is.name) ∙ ap (λ (s : Option (List ℕ)). stream_id name s) (spaced.only other.namespace is.namespace);
}

pub no_name : (stream : List ℕ) → IsAnswer (HasText stream (codes "name")) None → IsAnswer (HasStreamId stream) None
no_name stream none = λ id is. none id.name is.name

pub no_namespace : (stream : List ℕ) → IsAnswer (HasOptionalText stream (codes "namespace")) None → IsAnswer (HasStreamId stream) None
no_namespace stream none = λ id is. none id.namespace is.namespace

pub long_name : (stream name : List ℕ) → IsOnly (HasText stream (codes "name")) name → LONGEST_NAME < length name → IsAnswer (HasStreamId stream) None
long_name stream name named long = λ id is.
    let fits : length name ≤ LONGEST_NAME = subst (λ (n : List ℕ). length n ≤ LONGEST_NAME) (named.only id.name is.name) is.name_fits in
    omega arith

pub long_namespace : (stream : List ℕ) (namespace : Option (List ℕ)) → IsOnly (HasOptionalText stream (codes "namespace")) namespace → ¬ IsOptionalShortName namespace → IsAnswer (HasStreamId stream) None
long_namespace stream namespace spaced long = λ id is. long (subst IsOptionalShortName (spaced.only id.namespace is.namespace) is.namespace_fits)

-- the schema
pub has_schema : (stream schema : List ℕ) (held : Option (List ℕ)) → IsOnly (HasOptional stream (codes "json_schema")) held → schema ≡ unwrap_or held (codes "{}") → IsOnly (HasSchema stream) schema
has_schema stream schema held optional is = record {
  is = record { held = held; optional = optional.is; is = is };
  only = λ other has. has.is ∙ (ap (λ (h : Option (List ℕ)). unwrap_or h (codes "{}")) (optional.only has.held has.optional) ∙ sym is);
}

-- whether it is resumable
pub resumable_told : (stream held : List ℕ) (is : Bool) → IsOnly (HasField stream (codes "is_resumable")) held → is ≡ bytes_eq held (codes "true") → IsTrue is ↔ HasField stream (codes "is_resumable") (codes "true")
resumable_told stream held is field e = (
  λ told. subst (λ (h : List ℕ). HasField stream (codes "is_resumable") h) ((bytes_eq-Decides held (codes "true")).0 (sym e ∙ told)) field.is,
  λ has. e ∙ (bytes_eq-Decides held (codes "true")).1 (sym (field.only (codes "true") has)),
)

pub resumable_absent : (stream : List ℕ) → IsAnswer (HasField stream (codes "is_resumable")) None → IsTrue false ↔ HasField stream (codes "is_resumable") (codes "true")
resumable_absent stream none = (λ told. absurd (true_false (sym told)), λ has. absurd (none (codes "true") has))

-- of two tests of one fact
same_test : (a b : Bool) (P : Type 0) → IsTrue a ↔ P → IsTrue b ↔ P → a ≡ b
same_test true true P f g = refl
same_test true false P f g = sym (g.1 (f.0 refl))
same_test false true P f g = f.1 (g.0 refl)
same_test false false P f g = refl

-- an entry's stream
abbrev pub stream_part : StreamId → PathNames → List PathNames → Bool → List ℕ → StreamPart
stream_part id cursor key resumable schema = record { id = id; cursor = cursor; key = key; resumable = resumable; schema = schema }

pub stream_answer : (stream : List ℕ) (id : StreamId) (cursor : PathNames) (key : List PathNames) (resumable : Bool) (schema : List ℕ) → IsOnly (HasStreamId stream) id → IsOnly (HasOptionalList IsPath stream (codes "default_cursor_field")) cursor → IsOnly (HasOptionalList IsKey stream (codes "source_defined_primary_key")) key → IsTrue resumable ↔ HasField stream (codes "is_resumable") (codes "true") → IsOnly (HasSchema stream) schema → IsOnly (IsStream stream) (stream_part id cursor key resumable schema)
stream_answer stream id cursor key resumable schema i c k r s = record {
  is = record { id = i.is; cursor = c.is; key = k.is; resumable = r; schema = s.is };
  only = λ other is.
      ap (λ (x : StreamId). stream_part x other.cursor other.key other.resumable other.schema) (i.only other.id is.id)
      ∙ (ap (λ (x : PathNames). stream_part id x other.key other.resumable other.schema) (c.only other.cursor is.cursor)
      ∙ (ap (λ (x : List PathNames). stream_part id cursor x other.resumable other.schema) (k.only other.key is.key)
      ∙ (ap (λ (x : Bool). stream_part id cursor key x other.schema) (same_test other.resumable resumable (HasField stream (codes "is_resumable") (codes "true")) is.resumable r)
      ∙ ap (λ (x : List ℕ). stream_part id cursor key resumable x) (s.only other.schema is.schema))));
}

-- a stream that is no object has no members to say anything
pub stream_uncut : (stream : List ℕ) → ¬ IsSomeObject stream → IsAnswer (IsStream stream) None
stream_uncut stream none = λ part is.
    let object = is.id.name.field.object in
    none (record { deep = object.deep; members = is.id.name.field.members; object = object.object })

-- the member `stream`, by what it holds
pub stream_held : (text held : List ℕ) (found : Option StreamPart) → IsOnly (HasField text (codes "stream")) held → IsAnswer (IsStream held) found → IsAnswer (HasStream text) found
stream_held text held found = at (HasField text (codes "stream")) IsStream (HasStream text) (λ h part field is. record { held = h; field = field; is = is }) (λ part has. (has.held, has.field, has.is)) held found

pub stream_absent : (text : List ℕ) → IsAnswer (HasField text (codes "stream")) None → IsAnswer (HasStream text) None
stream_absent text none = λ part has. none has.held has.field

pub stream_unnamed : (stream : List ℕ) → IsAnswer (HasStreamId stream) None → IsAnswer (IsStream stream) None
stream_unnamed stream none = λ part is. none part.id is.id

pub stream_no_cursor : (stream : List ℕ) → IsAnswer (HasOptionalList IsPath stream (codes "default_cursor_field")) None → IsAnswer (IsStream stream) None
stream_no_cursor stream none = λ part is. none part.cursor is.cursor

pub stream_no_key : (stream : List ℕ) → IsAnswer (HasOptionalList IsKey stream (codes "source_defined_primary_key")) None → IsAnswer (IsStream stream) None
stream_no_key stream none = λ part is. none part.key is.key

-- the ids
abbrev pub ids_with : Option ℕ → Option ℕ → Option ℕ → Ids
ids_with generation minimum sync_id = record { generation = generation; minimum = minimum; sync_id = sync_id }

pub ids_answer : (text : List ℕ) (generation minimum sync_id : Option ℕ) → IsOnly (HasOptionalCount text (codes "generation_id")) generation → IsOnly (HasOptionalCount text (codes "minimum_generation_id")) minimum → IsOnly (HasOptionalCount text (codes "sync_id")) sync_id → IsOnly (HasIds text) (ids_with generation minimum sync_id)
ids_answer text generation minimum sync_id g m s = record {
  is = record { generation = g.is; minimum = m.is; sync_id = s.is };
  only = λ other is.
      ap (λ (x : Option ℕ). ids_with x other.minimum other.sync_id) (g.only other.generation is.generation)
      ∙ (ap (λ (x : Option ℕ). ids_with generation x other.sync_id) (m.only other.minimum is.minimum)
      ∙ ap (λ (x : Option ℕ). ids_with generation minimum x) (s.only other.sync_id is.sync_id));
}

pub no_generation : (text : List ℕ) → IsAnswer (HasOptionalCount text (codes "generation_id")) None → IsAnswer (HasIds text) None
no_generation text none = λ ids is. none ids.generation is.generation

pub no_minimum : (text : List ℕ) → IsAnswer (HasOptionalCount text (codes "minimum_generation_id")) None → IsAnswer (HasIds text) None
no_minimum text none = λ ids is. none ids.minimum is.minimum

pub no_sync_id : (text : List ℕ) → IsAnswer (HasOptionalCount text (codes "sync_id")) None → IsAnswer (HasIds text) None
no_sync_id text none = λ ids is. none ids.sync_id is.sync_id

-- an entry
abbrev pub entry_with : StreamPart → List ℕ → List ℕ → PathNames → List PathNames → Ids → Entry
entry_with stream sync dest cursor key ids = record { stream = stream; sync = sync; dest = dest; cursor = cursor; key = key; ids = ids }

pub entry_answer : (text : List ℕ) (stream : StreamPart) (sync dest : List ℕ) (cursor : PathNames) (key : List PathNames) (ids : Ids) → IsOnly (HasStream text) stream → IsOnly (HasText text (codes "sync_mode")) sync → IsOnly (HasText text (codes "destination_sync_mode")) dest → IsOnly (HasOptionalList IsPath text (codes "cursor_field")) cursor → IsOnly (HasOptionalList IsKey text (codes "primary_key")) key → IsOnly (HasIds text) ids → IsOnly (IsEntry text) (entry_with stream sync dest cursor key ids)
entry_answer text stream sync dest cursor key ids st sy de c k i = record {
  is = record { stream = st.is; sync = sy.is; dest = de.is; cursor = c.is; key = k.is; ids = i.is };
  only = λ other is.
      ap (λ (x : StreamPart). entry_with x other.sync other.dest other.cursor other.key other.ids) (st.only other.stream is.stream)
      ∙ (ap (λ (x : List ℕ). entry_with stream x other.dest other.cursor other.key other.ids) (sy.only other.sync is.sync)
      ∙ (ap (λ (x : List ℕ). entry_with stream sync x other.cursor other.key other.ids) (de.only other.dest is.dest)
      ∙ (ap (λ (x : PathNames). entry_with stream sync dest x other.key other.ids) (c.only other.cursor is.cursor)
      ∙ (ap (λ (x : List PathNames). entry_with stream sync dest cursor x other.ids) (k.only other.key is.key)
      ∙ ap (λ (x : Ids). entry_with stream sync dest cursor key x) (i.only other.ids is.ids)))));
}

pub entry_uncut : (text : List ℕ) → ((members : List Member) → ¬ AreMembers line_depth text members) → IsAnswer (IsEntry text) None
entry_uncut text none = λ entry is. none is.stream.field.members is.stream.field.object

pub entry_no_stream : (text : List ℕ) → IsAnswer (HasStream text) None → IsAnswer (IsEntry text) None
entry_no_stream text none = λ entry is. none entry.stream is.stream

pub entry_no_sync : (text : List ℕ) → IsAnswer (HasText text (codes "sync_mode")) None → IsAnswer (IsEntry text) None
entry_no_sync text none = λ entry is. none entry.sync is.sync

pub entry_no_dest : (text : List ℕ) → IsAnswer (HasText text (codes "destination_sync_mode")) None → IsAnswer (IsEntry text) None
entry_no_dest text none = λ entry is. none entry.dest is.dest

pub entry_no_cursor : (text : List ℕ) → IsAnswer (HasOptionalList IsPath text (codes "cursor_field")) None → IsAnswer (IsEntry text) None
entry_no_cursor text none = λ entry is. none entry.cursor is.cursor

pub entry_no_key : (text : List ℕ) → IsAnswer (HasOptionalList IsKey text (codes "primary_key")) None → IsAnswer (IsEntry text) None
entry_no_key text none = λ entry is. none entry.key is.key

pub entry_no_ids : (text : List ℕ) → IsAnswer (HasIds text) None → IsAnswer (IsEntry text) None
entry_no_ids text none = λ entry is. none entry.ids is.ids
