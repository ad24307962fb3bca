-- What a text says is one thing: its members, its elements, and all that is read of them.
use Rattle.std.proofs.Common.{◌≡◌, inl, inr, ℕ, List, [], ◌∷◌, Option, None, Some, refl, sym, ◌∙◌, ap, subst, ◌≤◌, ◌<◌, codes, Result, Ok, Err, length, ◌++◌, arith}
use Rattle.std.specs.List.{AllZip}
use Rattle.std.specs.Result.{MatchResult}
use Rattle.json_scalar.specs.Text.{IsString}
use Rattle.json_scalar.proofs.Contents.{one_meaning}
use Rattle.json_scalar.proofs.Values.{one_whole}
use Rattle.json_span.specs.Machine.{read_whole}
use Rattle.json_span.specs.Members.{AreMembers, text_at}
use Rattle.json_span.specs.Elements.{AreElements}
use Rattle.json_span.specs.declared.Member.{Member}
use Rattle.json_span.specs.declared.Span.{Span}
use Rattle.json_span.specs.declared.phase.Frame.TheVariants as frame
use Rattle.json_span.proofs.Theorems.{sound}
use Rattle.json_span.proofs.ArrayTheorems.{finds_only_array}
use Rattle.json_fields.specs.Answer.{IsOnly}
use Rattle.json_fields.specs.Fields.{HasField, HasOptional, HasText, HasOptionalText, IsOptionalText, Holds, line_depth, present}
use Rattle.json_fields.specs.Parts.{HasOptionalCount, IsOptionalCount}
use Rattle.json_fields.proofs.FieldLemmas.{Holds-only}
use Rattle.basics.specs.declared.limits.TheConstants.{MOST_STREAMS}
use Rattle.basics.specs.declared.stream.StreamId.{StreamId}
use Rattle.outside.specs.declared.faults.CatalogFault.{CatalogFault}
use Rattle.outside.specs.declared.faults.CatalogFault.TheVariants as fault
use Rattle.catalog.specs.declared.stream.ConfStream.{ConfStream}
use Rattle.catalog.specs.declared.entry.Entry.{Entry}
use Rattle.catalog.specs.declared.entry.Ids.{Ids}
use Rattle.catalog.specs.declared.entry.StreamPart.{StreamPart}
use Rattle.catalog.specs.Checks.{judged}
use Rattle.catalog.specs.Entry.{PathNames, IsPath, IsKeyPath, IsKey, HasOptionalList, IsOptionalList, HasStreamId, HasSchema, IsStream, HasIds, IsEntry}
use Rattle.catalog.specs.Reading.{Reading, ReadsAs, ReadsEntries, ReadsEntry, ReadsList, HasStreams, ids_of}
use Rattle.catalog.proofs.EntryLemmas.{stream_answer, stream_held, ids_answer, entry_answer, has_id, has_schema}

pub one_members : (limit : ℕ) (text : List ℕ) (members others : List Member) → AreMembers limit text members → AreMembers limit text others → others ≡ members
one_members limit text members others a b = sym (sound text b.deep others b.object).places ∙ (sound text a.deep members a.object).places

pub one_elements : (text : List ℕ) (spans others : List Span) → AreElements line_depth text spans → AreElements line_depth text others → others ≡ spans
one_elements text spans others a b =
    let deepest = (read_whole frame.Array text).deepest in
    let most : deepest ≤ deepest = omega arith in
    let only = finds_only_array text (read_whole frame.Array text) refl deepest most in
    (only b.deep others b.array).1 ∙ sym (only a.deep spans a.array).1

Some-injective : {A : Type 0} (a b : A) → Some a ≡ Some b → a ≡ b
Some-injective a b e = cc

pub one_field : (text name held other : List ℕ) → HasField text name held → HasField text name other → other ≡ held
one_field text name held other a b = Some-injective other held (Holds-only text name a.members (Some other) (Some held) (subst (λ (ms : List Member). Holds text name ms (Some other)) (one_members line_depth text a.members b.members a.object b.object) b.holds) a.holds)

one_optional : (text name : List ℕ) (found other : Option (List ℕ)) → HasOptional text name found → HasOptional text name other → other ≡ found
one_optional text name found other a b =
    b.is ∙ (ap present (Holds-only text name a.members b.held a.held (subst (λ (ms : List Member). Holds text name ms b.held) (one_members line_depth text a.members b.members a.object b.object) b.holds) a.holds) ∙ sym a.is)

one_text : (text name meaning other : List ℕ) → HasText text name meaning → HasText text name other → other ≡ meaning
one_text text name meaning other a b = one_meaning a.held other meaning (subst (λ (h : List ℕ). IsString h other) (one_field text name a.held b.held a.field b.field) b.string) a.string

optional_texts : (held : Option (List ℕ)) (meaning other : Option (List ℕ)) → IsOptionalText held meaning → IsOptionalText held other → other ≡ meaning
optional_texts None meaning other a b = b ∙ sym a
optional_texts (Some held) None other a b = absurd a
optional_texts (Some held) (Some meaning) None a b = absurd b
optional_texts (Some held) (Some meaning) (Some other) a b = ap (λ (t : List ℕ). Some t) (one_meaning held other meaning b a)

one_optional_text : (text name : List ℕ) (meaning other : Option (List ℕ)) → HasOptionalText text name meaning → HasOptionalText text name other → other ≡ meaning
one_optional_text text name meaning other a b = optional_texts a.held meaning other a.string (subst (λ (h : Option (List ℕ)). IsOptionalText h other) (one_optional text name a.held b.held a.optional b.optional) b.string)

optional_counts : (held : Option (List ℕ)) (count other : Option ℕ) → IsOptionalCount held count → IsOptionalCount held other → other ≡ count
optional_counts None count other a b = b ∙ sym a
optional_counts (Some held) None other a b = absurd a
optional_counts (Some held) (Some count) None a b = absurd b
optional_counts (Some held) (Some count) (Some other) a b = ap (λ (n : ℕ). Some n) (one_whole held other count b.whole a.whole)

one_optional_count : (text name : List ℕ) (count other : Option ℕ) → HasOptionalCount text name count → HasOptionalCount text name other → other ≡ count
one_optional_count text name count other a b = optional_counts a.held count other a.is (subst (λ (h : Option (List ℕ)). IsOptionalCount h other) (one_optional text name a.held b.held a.optional b.optional) b.is)

pub all_one : {A B : Type 0} (R : A → B → Type 0) → ((x : A) (y z : B) → R x y → R x z → z ≡ y) → (xs : List A) (ys zs : List B) → AllZip R xs ys → AllZip R xs zs → zs ≡ ys
all_one R one [] [] [] a b = refl
all_one R one [] [] (z ∷ zs) a b = absurd b
all_one R one [] (y ∷ ys) zs a b = absurd a
all_one R one (x ∷ xs) [] zs a b = absurd a
all_one R one (x ∷ xs) (y ∷ ys) [] a b = absurd b
all_one {A} {B} R one (x ∷ xs) (y ∷ ys) (z ∷ zs) a b = ap (λ (v : B). v ∷ zs) (one x y z a.0 b.0) ∙ ap (λ (vs : List B). y ∷ vs) (all_one R one xs ys zs a.1 b.1)

one_path : (text : List ℕ) (path other : PathNames) → IsPath text path → IsPath text other → other ≡ path
one_path text path other a b =
    all_one (λ span name. IsString (text_at text span) name) (λ span y z p q. one_meaning (text_at text span) z y q p) a.spans path other a.names
    (subst (λ (ss : List Span). AllZip (λ span name. IsString (text_at text span) name) ss other) (one_elements text a.spans b.spans a.elements b.elements) b.names)

one_key : (text : List ℕ) (key other : List PathNames) → IsKey text key → IsKey text other → other ≡ key
one_key text key other a b =
    all_one (λ span path. IsKeyPath (text_at text span) path) (λ span y z p q. one_path (text_at text span) y z p.is q.is) a.spans key other a.paths
    (subst (λ (ss : List Span). AllZip (λ span path. IsKeyPath (text_at text span) path) ss other) (one_elements text a.spans b.spans a.elements b.elements) b.paths)

optional_lists : {B : Type 0} (Form : List ℕ → List B → Type 0) → ((text : List ℕ) (ys zs : List B) → Form text ys → Form text zs → zs ≡ ys) → (held : Option (List ℕ)) (ys zs : List B) → IsOptionalList Form held ys → IsOptionalList Form held zs → zs ≡ ys
optional_lists Form one None ys zs a b = b ∙ sym a
optional_lists Form one (Some held) ys zs a b = one held ys zs a b

one_optional_list : {B : Type 0} (Form : List ℕ → List B → Type 0) → ((text : List ℕ) (ys zs : List B) → Form text ys → Form text zs → zs ≡ ys) → (text name : List ℕ) (ys zs : List B) → HasOptionalList Form text name ys → HasOptionalList Form text name zs → zs ≡ ys
one_optional_list Form one text name ys zs a b = optional_lists Form one a.held ys zs a.list (subst (λ (h : Option (List ℕ)). IsOptionalList Form h zs) (one_optional text name a.held b.held a.optional b.optional) b.list)

-- each is the only one
only : {A : Type 0} (P : A → Type 0) → ((x y : A) → P x → P y → y ≡ x) → (x : A) → P x → IsOnly P x
only P one x p = record { is = p; only = λ y q. one x y p q }

only_id : (stream : List ℕ) (id : StreamId) → HasStreamId stream id → IsOnly (HasStreamId stream) id
only_id stream id h = has_id stream id.name id.namespace (only (HasText stream (codes "name")) (λ x y p q. one_text stream (codes "name") x y p q) id.name h.name) (only (HasOptionalText stream (codes "namespace")) (λ x y p q. one_optional_text stream (codes "namespace") x y p q) id.namespace h.namespace) h.name_fits h.namespace_fits

only_schema : (stream schema : List ℕ) → HasSchema stream schema → IsOnly (HasSchema stream) schema
only_schema stream schema h = has_schema stream schema h.held (only (HasOptional stream (codes "json_schema")) (λ x y p q. one_optional stream (codes "json_schema") x y p q) h.held h.optional) h.is

only_path : (text name : List ℕ) (path : PathNames) → HasOptionalList IsPath text name path → IsOnly (HasOptionalList IsPath text name) path
only_path text name path h = only (HasOptionalList IsPath text name) (λ x y p q. one_optional_list IsPath one_path text name x y p q) path h

only_key : (text name : List ℕ) (key : List PathNames) → HasOptionalList IsKey text name key → IsOnly (HasOptionalList IsKey text name) key
only_key text name key h = only (HasOptionalList IsKey text name) (λ x y p q. one_optional_list IsKey one_key text name x y p q) key h

only_count : (text name : List ℕ) (count : Option ℕ) → HasOptionalCount text name count → IsOnly (HasOptionalCount text name) count
only_count text name count h = only (HasOptionalCount text name) (λ x y p q. one_optional_count text name x y p q) count h

only_stream : (stream : List ℕ) (part : StreamPart) → IsStream stream part → IsOnly (IsStream stream) part
only_stream stream part h = stream_answer stream part.id part.cursor part.key part.resumable part.schema (only_id stream part.id h.id) (only_path stream (codes "default_cursor_field") part.cursor h.cursor) (only_key stream (codes "source_defined_primary_key") part.key h.key) h.resumable (only_schema stream part.schema h.schema)

only_ids : (text : List ℕ) (ids : Ids) → HasIds text ids → IsOnly (HasIds text) ids
only_ids text ids h = ids_answer text ids.generation ids.minimum ids.sync_id (only_count text (codes "generation_id") ids.generation h.generation) (only_count text (codes "minimum_generation_id") ids.minimum h.minimum) (only_count text (codes "sync_id") ids.sync_id h.sync_id)

pub only_entry : (text : List ℕ) (entry : Entry) → IsEntry text entry → IsOnly (IsEntry text) entry
only_entry text entry h =
    entry_answer text entry.stream entry.sync entry.dest entry.cursor entry.key entry.ids
    (stream_held text h.stream.held (Some entry.stream) (only (HasField text (codes "stream")) (λ x y p q. one_field text (codes "stream") x y p q) h.stream.held h.stream.field) (only_stream h.stream.held entry.stream h.stream.is))
    (only (HasText text (codes "sync_mode")) (λ x y p q. one_text text (codes "sync_mode") x y p q) entry.sync h.sync)
    (only (HasText text (codes "destination_sync_mode")) (λ x y p q. one_text text (codes "destination_sync_mode") x y p q) entry.dest h.dest)
    (only_path text (codes "cursor_field") entry.cursor h.cursor)
    (only_key text (codes "primary_key") entry.key h.key)
    (only_ids text entry.ids h.ids)

-- ---- readings

one_reads_entry : (before : List ConfStream) (text : List ℕ) (a b : Result ConfStream CatalogFault) → ReadsEntry before text a → ReadsEntry before text b → b ≡ a
one_reads_entry before text a b (inl p) (inl q) = q.1 ∙ sym p.1
one_reads_entry before text a b (inl p) (inr q) = absurd (p.0 q.0 q.1)
one_reads_entry before text a b (inr p) (inl q) = absurd (q.0 p.0 p.1)
one_reads_entry before text a b (inr p) (inr q) = q.2 ∙ (ap (λ (e : Entry). judged (ids_of before) (length before) text e) ((only_entry text p.0 p.1).only q.0 q.1) ∙ sym p.2)

one_reads_entries : (list : List ℕ) (before : List ConfStream) (spans : List Span) (a b : Reading) → ReadsEntries list before spans a → ReadsEntries list before spans b → b ≡ a
one_reads_entries list before [] a b p q = q ∙ sym p
one_reads_entries list before (span ∷ spans) a b p q = go (λ stream x y. one_reads_entries list (before ++ stream ∷ []) spans a b x y) p.0 p.2 (subst (λ (f : Result ConfStream CatalogFault). MatchResult f (λ stream. ReadsEntries list (before ++ stream ∷ []) spans b) (λ first. b ≡ Err first)) (one_reads_entry before (text_at list span) p.0 q.0 p.1 q.1) q.2)
  where
    go : ((stream : ConfStream) → ReadsEntries list (before ++ stream ∷ []) spans a → ReadsEntries list (before ++ stream ∷ []) spans b → b ≡ a) → (found : Result ConfStream CatalogFault) → MatchResult found (λ stream. ReadsEntries list (before ++ stream ∷ []) spans a) (λ first. a ≡ Err first) → MatchResult found (λ stream. ReadsEntries list (before ++ stream ∷ []) spans b) (λ first. b ≡ Err first) → b ≡ a
    go rest (Ok stream) x y = rest stream x y
    go rest (Err first) x y = y ∙ sym x

one_reads_list : (list : List ℕ) (spans : List Span) (a b : Reading) → ReadsList list spans a → ReadsList list spans b → b ≡ a
one_reads_list list spans a b (inl p) (inl q) = q.1 ∙ sym p.1
one_reads_list list spans a b (inl p) (inr q) = absurd (let x = p.0 in let y = q.0 in omega arith)
one_reads_list list spans a b (inr p) (inl q) = absurd (let x = p.0 in let y = q.0 in omega arith)
one_reads_list list spans a b (inr p) (inr q) = one_reads_entries list [] spans a b p.1 q.1

-- A text has one reading.
pub one_reading : (text : List ℕ) (a b : Reading) → ReadsAs text a → ReadsAs text b → b ≡ a
one_reading text a b (inl p) (inl q) = q.1 ∙ sym p.1
one_reading text a b (inl p) (inr q) = absurd (p.0 q.0 q.1 q.2)
one_reading text a b (inr p) (inl q) = absurd (q.0 p.0 p.1 p.2)
one_reading text a b (inr p) (inr q) =
    let same = one_field text (codes "streams") p.0 q.0 p.2.field q.2.field in
    let elements = subst (λ (l : List ℕ). AreElements line_depth l q.1) same q.2.elements in
    let spans = one_elements p.0 p.1 q.1 p.2.elements elements in
    one_reads_list p.0 p.1 a b p.3 (subst (λ (ss : List Span). ReadsList p.0 ss b) spans (subst (λ (l : List ℕ). ReadsList l q.1 b) same q.3))

pub only_reading : (text : List ℕ) (reading : Reading) → ReadsAs text reading → IsOnly (ReadsAs text) reading
only_reading text reading h = record { is = h; only = λ other o. one_reading text reading other h o }

-- ---- what is read of a text that is no catalog, and of one that is

pub no_catalog : (text : List ℕ) → ((list : List ℕ) (spans : List Span) → ¬ HasStreams text list spans) → IsOnly (ReadsAs text) (Err fault.NotJson)
no_catalog text none = only_reading text (Err fault.NotJson) (inl (none, refl))

pub no_array : (text held : List ℕ) → HasField text (codes "streams") held → ((spans : List Span) → ¬ AreElements line_depth held spans) → IsOnly (ReadsAs text) (Err fault.NotJson)
no_array text held field none = no_catalog text (λ list spans has. none spans (subst (λ (l : List ℕ). AreElements line_depth l spans) (one_field text (codes "streams") held list field has.field) has.elements))

pub too_many : (text list : List ℕ) (spans : List Span) → HasStreams text list spans → MOST_STREAMS < length spans → IsOnly (ReadsAs text) (Err fault.TooMany)
too_many text list spans has more = only_reading text (Err fault.TooMany) (inr (list, spans, has, inl (more, refl)))

pub entries_read : (text list : List ℕ) (spans : List Span) (reading : Reading) → HasStreams text list spans → length spans ≤ MOST_STREAMS → ReadsEntries list [] spans reading → IsOnly (ReadsAs text) reading
entries_read text list spans reading has few reads = only_reading text reading (inr (list, spans, has, inr (few, reads)))
