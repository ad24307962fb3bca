-- What the texts of a configured catalog and of saved states begin a source with, or the first check that they fail: the
-- catalog; that the source knows each stream's name; the states; that they are states of streams; and what each stream's blob
-- says.
use Rattle.std.specs.Prelude.{◌≡◌, ◌⊎◌, ℕ, zero, suc, ◌+◌, List, [], ◌∷◌, Option, None, Some, Result, Ok, Err, MatchResult, Bool, true, false, if◌then◌else◌}
use Rattle.std.specs.List.{AllZip}
use Rattle.stream_index.specs.Same.{is_same_stream}
use Rattle.basics.specs.declared.stream.StreamId.{StreamId}
use Rattle.outside.specs.Status.{catalog_status, state_status}
use Rattle.outside.specs.declared.status.Status.{Status}
use Rattle.outside.specs.declared.status.Status.TheVariants as status
use Rattle.outside.specs.declared.faults.CatalogFault.{CatalogFault}
use Rattle.outside.specs.declared.faults.CatalogFault.TheVariants as catalog
use Rattle.outside.specs.declared.faults.StateFault.{StateFault}
use Rattle.outside.specs.declared.faults.StateFault.TheVariants as state
use Rattle.airbyte_message.specs.State.{State}
use Rattle.airbyte_message.specs.declared.message.StateKind.{StateKind}
use Rattle.airbyte_message.specs.declared.message.StateKind.TheVariants as kind
use Rattle.catalog.specs.declared.stream.ConfStream.{ConfStream}
use Rattle.catalog.specs.Reading.{ReadsAs}
use Rattle.state_kinds.specs.Store.{is_global_kind}
use Rattle.state_kinds.specs.StateLists.{ReadsStates, has_kind}

-- a stream with a namespace is never named
abbrev pub knows_name : (List ℕ → Bool) → Option (List ℕ) → List ℕ → Bool
knows_name is_known None name = is_known name
knows_name is_known (Some namespace) name = false

abbrev pub knows_stream : (List ℕ → Bool) → StreamId → Bool
knows_stream is_known id = knows_name is_known id.namespace id.name

-- the first stream that the source does not know, where the first has this number
abbrev pub first_unknown : (List ℕ → Bool) → ℕ → List ConfStream → Option ℕ
first_unknown is_known number [] = None
first_unknown is_known number (stream ∷ streams) =
    if knows_stream is_known stream.id then first_unknown is_known (number + 1) streams else Some number

-- what a state says of a stream, of which this was known
abbrev pub told_blob : StreamId → StateKind → Option (List ℕ) → Option (List ℕ)
told_blob id (kind.Stream other blob) before = if is_same_stream id other then blob else before
told_blob id (kind.Global shared streams) before = before
told_blob id kind.Legacy before = before

-- The blob of a stream behind states of which the last of the stream counts, where this was known before. A list of states
-- that reads without fault has at most one of a stream.
abbrev pub blob_after : StreamId → Option (List ℕ) → List State → Option (List ℕ)
blob_after id before [] = before
blob_after id before (state ∷ states) = blob_after id (told_blob id state.kind before) states

abbrev pub blob_in : List State → StreamId → Option (List ℕ)
blob_in states id = blob_after id None states

-- where each stream starts, by its blob
abbrev pub AreStarts : {Start : Type 0} → (ConfStream → Option (List ℕ) → Start → Type 0) → List State → List ConfStream → List Start → Type 0
AreStarts Starts states streams starts = AllZip (λ stream start. Starts stream (blob_in states stream.id) start) streams starts

-- what a source is begun with: the streams, and where each starts
abbrev pub Begun : Type 0 → Type 0
Begun Start = Result (List ConfStream × List Start) Status

-- each stream starts where its blob says, or a blob is of another form
abbrev pub BeginsStreams : {Start : Type 0} → (ConfStream → Option (List ℕ) → Start → Type 0) → List State → List ConfStream → Begun Start → Type 0
BeginsStreams {Start} Starts states streams answer =
    (((starts : List Start) → ¬ AreStarts Starts states streams starts) × (answer ≡ Err (status.BadState state.Blob)))
    ⊎ ((starts : List Start) × AreStarts Starts states streams starts × (answer ≡ Ok (streams, starts)))

-- a state of all streams is not one of a source of single streams
abbrev pub BeginsUnless : {Start : Type 0} → Bool → (Begun Start → Type 0) → Begun Start → Type 0
BeginsUnless true Begins answer = answer ≡ Err (status.BadState state.Blob)
BeginsUnless false Begins answer = Begins answer

abbrev pub BeginsStates : {Start : Type 0} → (ConfStream → Option (List ℕ) → Start → Type 0) → List ℕ → List ConfStream → Begun Start → Type 0
BeginsStates Starts text streams answer =
    (reading : Result (List State) StateFault) × ReadsStates text reading
    × MatchResult reading (λ states. BeginsUnless (has_kind is_global_kind states) (BeginsStreams Starts states streams) answer) (λ fault. answer ≡ Err (state_status fault))

-- a stream of a name that the source does not know is missing
abbrev pub BeginsKnown : {Start : Type 0} → Option ℕ → (Begun Start → Type 0) → Begun Start → Type 0
BeginsKnown (Some number) Begins answer = answer ≡ Err (status.BadCatalog (catalog.Missing number))
BeginsKnown None Begins answer = Begins answer

abbrev pub BeginsAs : {Start : Type 0} → (ConfStream → Option (List ℕ) → Start → Type 0) → (List ℕ → Bool) → List ℕ → List ℕ → Begun Start → Type 0
BeginsAs Starts is_known text states answer =
    (reading : Result (List ConfStream) CatalogFault) × ReadsAs text reading
    × MatchResult reading (λ streams. BeginsKnown (first_unknown is_known 0 streams) (BeginsStates Starts states streams) answer) (λ fault. answer ≡ Err (catalog_status fault))

-- a status that tells of a text, or of want of memory
abbrev pub is_of_text : Status → Bool
is_of_text (status.BadCatalog fault) = true
is_of_text (status.BadState fault) = true
is_of_text status.NoMemory = true
is_of_text other = false

-- For private clauses: what a state says of each stream, of which these were known.
abbrev pub told_blobs : StateKind → List ConfStream → List (Option (List ℕ)) → List (Option (List ℕ))
told_blobs kind [] blobs = blobs
told_blobs kind (stream ∷ streams) [] = []
told_blobs kind (stream ∷ streams) (blob ∷ blobs) = told_blob stream.id kind blob ∷ told_blobs kind streams blobs

-- For private clauses: no blob for so many streams.
abbrev pub no_blobs : ℕ → List (Option (List ℕ))
no_blobs zero = []
no_blobs (suc count) = None ∷ no_blobs count
