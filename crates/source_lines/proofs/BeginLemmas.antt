-- What a source is begun with, check by check.
use Rattle.std.proofs.Common.{◌≡◌, ◌≢◌, ◌∙◌, inl, inr, ℕ, zero, suc, ◌+◌, ◌<◌, List, [], ◌∷◌, ◌++◌, map, length, drop, Option, None, Some, Result, Ok, Err, MatchResult, IfErr, IsErrAnd, Bool, option_map, true, false, cond, refl, sym, ap, subst, arith, slice_get, slice_set}
use Rattle.std.proofs.lemmas.Bool.{cases_Bool}
use Rattle.std.proofs.lemmas.List.{drop_more}
use Rattle.std.proofs.lemmas.Option.{slice_get_within, get_or_from_slice_get}
use Rattle.basics.specs.declared.stream.StreamId.{StreamId}
use Rattle.stream_index.specs.Same.{is_same_stream}
use Rattle.stream_index.proofs.IndexLemmas.{Decides-stream}
use Rattle.json_fields.specs.Answer.{IsOnly}
use Rattle.airbyte_message.specs.State.{State}
use Rattle.airbyte_message.specs.declared.message.StateKind.{StateKind}
use Rattle.airbyte_message.specs.declared.message.StateKind.TheVariants as kind
use Rattle.catalog.specs.declared.stream.ConfStream.{ConfStream}
use Rattle.catalog.specs.Reading.{ids_of}
use Rattle.outside.specs.declared.status.Status.{Status}
use Rattle.outside.specs.declared.status.Status.TheVariants as status
use Rattle.outside.specs.Status.{catalog_status, state_status}
use Rattle.outside.specs.declared.faults.CatalogFault.{CatalogFault}
use Rattle.outside.specs.declared.faults.StateFault.{StateFault}
use Rattle.catalog.specs.Reading.{ReadsAs}
use Rattle.state_kinds.specs.Store.{is_global_kind}
use Rattle.state_kinds.specs.StateLists.{ReadsStates, has_kind}
use Rattle.outside.specs.declared.faults.CatalogFault.TheVariants as catalog
use Rattle.outside.specs.declared.faults.StateFault.TheVariants as state
use Rattle.source_lines.specs.Begins.{AreStarts, Begun, BeginsAs, BeginsKnown, BeginsStates, BeginsStreams, BeginsUnless, blob_after, blob_in, first_unknown, knows_stream, no_blobs, told_blob, told_blobs}

pub none_behind : (count : ℕ) → no_blobs count ++ None ∷ [] ≡ no_blobs (count + 1)
none_behind zero = refl
none_behind (suc count) =
    let more : suc (count + 1) ≡ suc count + 1 = omega arith in
    ap (λ (blobs : List (Option (List ℕ))). None ∷ blobs) (none_behind count) ∙ ap no_blobs more

-- no state of one stream says nothing
pub told_none : (held : StateKind) (streams : List ConfStream) (blobs : List (Option (List ℕ))) → length blobs ≡ length streams
    → ((id : StreamId) (blob : Option (List ℕ)) → ¬ (held ≡ kind.Stream id blob)) → blobs ≡ told_blobs held streams blobs
told_none held [] blobs same none = refl
told_none held (stream ∷ streams) [] same none = refl
told_none (kind.Stream id blob) (stream ∷ streams) (before ∷ blobs) same none = absurd (none id blob refl)
told_none (kind.Global shared each) (stream ∷ streams) (before ∷ blobs) same none =
    ap (λ (others : List (Option (List ℕ))). before ∷ others) (told_none (kind.Global shared each) streams blobs (omega (arith, same)) none)
told_none kind.Legacy (stream ∷ streams) (before ∷ blobs) same none =
    ap (λ (others : List (Option (List ℕ))). before ∷ others) (told_none kind.Legacy streams blobs (omega (arith, same)) none)

differs : (a b : StreamId) → ¬ (a ≡ b) → is_same_stream a b ≡ false
differs a b other = elim (cases_Bool (is_same_stream a b)) [ inl met ↦ absurd (other ((Decides-stream a b).0 met)) | inr unmet ↦ unmet ]

some_of : (id other : StreamId) → id ≡ other → Some id ≡ Some other
some_of id other same = ap (λ (s : StreamId). Some s) same

-- nor does one of a stream that is not there
pub told_absent : (id : StreamId) (blob : Option (List ℕ)) (streams : List ConfStream) (blobs : List (Option (List ℕ)))
    → ((place : ℕ) → ¬ (slice_get (ids_of streams) place ≡ Some id)) → blobs ≡ told_blobs (kind.Stream id blob) streams blobs
told_absent id blob [] blobs none = refl
told_absent id blob (stream ∷ streams) [] none = refl
told_absent id blob (stream ∷ streams) (before ∷ blobs) none =
    let unmet = differs stream.id id (λ same. none 0 (some_of stream.id id same)) in
    ap (λ (b : Bool). cond b blob before ∷ blobs) (sym unmet)
    ∙ ap (λ (others : List (Option (List ℕ))). cond (is_same_stream stream.id id) blob before ∷ others) (told_absent id blob streams blobs (λ place is. none (suc place) is))

-- one of a stream says so of that alone
pub told_set : (id : StreamId) (blob : Option (List ℕ)) (streams : List ConfStream) (blobs : List (Option (List ℕ))) (number : ℕ) → length blobs ≡ length streams
    → slice_get (ids_of streams) number ≡ Some id → ((place : ℕ) → slice_get (ids_of streams) place ≡ Some id → place ≡ number)
    → slice_set blobs number blob ≡ told_blobs (kind.Stream id blob) streams blobs
told_set id blob [] blobs number same is only = cc
told_set id blob (stream ∷ streams) [] number same is only = absurd (omega (arith, same))
told_set id blob (stream ∷ streams) (before ∷ blobs) zero same is only =
    let met : is_same_stream stream.id id ≡ true = (Decides-stream stream.id id).1 (some_is stream.id id is) in
    ap (λ (b : Bool). cond b blob before ∷ blobs) (sym met)
    ∙ ap (λ (others : List (Option (List ℕ))). cond (is_same_stream stream.id id) blob before ∷ others) (told_absent id blob streams blobs (λ place is. not_behind place (only (suc place) is)))
  where
    some_is : (a b : StreamId) → Some a ≡ Some b → a ≡ b
    some_is a b e = cc

    not_behind : (place : ℕ) → ¬ (suc place ≡ 0)
    not_behind place e = omega (arith, e)
told_set id blob (stream ∷ streams) (before ∷ blobs) (suc number) same is only =
    let unmet = differs stream.id id (λ first. not_first (only 0 (some_of stream.id id first))) in
    ap (λ (b : Bool). cond b blob before ∷ slice_set blobs number blob) (sym unmet)
    ∙ ap (λ (others : List (Option (List ℕ))). cond (is_same_stream stream.id id) blob before ∷ others)
    (told_set id blob streams blobs number (omega (arith, same)) is (λ place at. less place (only (suc place) at)))
  where
    not_first : ¬ (0 ≡ suc number)
    not_first e = omega (arith, e)

    less : (place : ℕ) → suc place ≡ suc number → place ≡ number
    less place e = omega (arith, e)

-- ---- all states

abbrev pub blobs_behind : List State → List ConfStream → List (Option (List ℕ))
blobs_behind states streams = map (λ stream. blob_after stream.id None states) streams

pub blobs_first : (streams : List ConfStream) → no_blobs (length streams) ≡ blobs_behind [] streams
blobs_first [] = refl
blobs_first (stream ∷ streams) = ap (λ (blobs : List (Option (List ℕ))). None ∷ blobs) (blobs_first streams)

pub length-blobs : (states : List State) (streams : List ConfStream) → length (blobs_behind states streams) ≡ length streams
length-blobs states [] = refl
length-blobs states (stream ∷ streams) = ap (λ (n : ℕ). suc n) (length-blobs states streams)

after_more : (id : StreamId) (before : Option (List ℕ)) (states : List State) (state : State) → blob_after id before (states ++ state ∷ []) ≡ told_blob id state.kind (blob_after id before states)
after_more id before [] state = refl
after_more id before (first ∷ states) state = after_more id (told_blob id first.kind before) states state

pub blobs_more : (states : List State) (state : State) (streams : List ConfStream) → told_blobs state.kind streams (blobs_behind states streams) ≡ blobs_behind (states ++ state ∷ []) streams
blobs_more states state [] = refl
blobs_more states state (stream ∷ streams) =
    ap (λ (blob : Option (List ℕ)). blob ∷ told_blobs state.kind streams (blobs_behind states streams)) (sym (after_more stream.id None states state))
    ∙ ap (λ (blobs : List (Option (List ℕ))). blob_after stream.id None (states ++ state ∷ []) ∷ blobs) (blobs_more states state streams)

-- ---- streams that a source knows

pub left_with : {A : Type 0} (items : List A) (place : ℕ) (item : A) → slice_get items place ≡ Some item → drop place items ≡ item ∷ drop (place + 1) items
left_with {A} items place item found =
    drop_more items place item (slice_get_within items place item found) ∙ ap (λ (x : A). x ∷ drop (place + 1) items) (get_or_from_slice_get items place item item found)

cons_unknown : (is_known : List ℕ → Bool) (number : ℕ) (stream : ConfStream) (streams : List ConfStream) (known : Bool) → knows_stream is_known stream.id ≡ known
    → first_unknown is_known number (stream ∷ streams) ≡ cond known (first_unknown is_known (number + 1) streams) (Some number)
cons_unknown is_known number stream streams known is = ap (λ (b : Bool). cond b (first_unknown is_known (number + 1) streams) (Some number)) is

pub unknown_at : (is_known : List ℕ → Bool) (streams : List ConfStream) (number : ℕ) (stream : ConfStream) (known : Bool) → slice_get streams number ≡ Some stream → knows_stream is_known stream.id ≡ known
    → first_unknown is_known number (drop number streams) ≡ cond known (first_unknown is_known (number + 1) (drop (number + 1) streams)) (Some number)
unknown_at is_known streams number stream known at is =
    ap (first_unknown is_known number) (left_with streams number stream at) ∙ cons_unknown is_known number stream (drop (number + 1) streams) known is

pub place_within : (streams : List ConfStream) (number : ℕ) (id : StreamId) (size : ℕ) → size ≡ length streams → slice_get (ids_of streams) number ≡ Some id → number < size
place_within streams number id size same at =
    let within = slice_get_within (ids_of streams) number id at in
    omega (arith, within, same, length_ids streams)
  where
    length_ids : (streams : List ConfStream) → length (ids_of streams) ≡ length streams
    length_ids [] = refl
    length_ids (stream ∷ streams) = ap (λ (n : ℕ). suc n) (length_ids streams)

-- ---- where streams start

pub blob_at : (states : List State) (streams : List ConfStream) (blobs : List (Option (List ℕ))) (number : ℕ) (stream : ConfStream) (blob : Option (List ℕ)) → blobs ≡ blobs_behind states streams
    → slice_get streams number ≡ Some stream → slice_get blobs number ≡ Some blob → blob ≡ blob_in states stream.id
blob_at states streams blobs number stream blob are at found =
    same blob (blob_in states stream.id) (sym found ∙ ap (λ (held : List (Option (List ℕ))). slice_get held number) are ∙ mapped states streams number stream at)
  where
    same : (a b : Option (List ℕ)) → Some a ≡ Some b → a ≡ b
    same a b e = cc

    mapped : (states : List State) (streams : List ConfStream) (number : ℕ) (stream : ConfStream) → slice_get streams number ≡ Some stream → slice_get (blobs_behind states streams) number ≡ Some (blob_in states stream.id)
    mapped states [] number stream at = cc
    mapped states (first ∷ streams) zero stream at = ap (λ (s : Option ConfStream). option_map (λ (c : ConfStream). blob_in states c.id) s) at
    mapped states (first ∷ streams) (suc number) stream at = mapped states streams number stream at

-- ---- the checks, one behind the other

-- what was read, and what the next check says of it
pub step_on : {V W E : Type 0} (Reads : Result V E → Type 0) (Next : V → Result W Status → Type 0) (told : E → Status) (value : V) (answer : Result W Status) → IsOnly Reads (Ok value) → IsOnly (Next value) answer
    → IsOnly (λ a. (reading : Result V E) × Reads reading × MatchResult reading (λ v. Next v a) (λ e. a ≡ Err (told e))) answer
step_on {V} {W} {E} Reads Next told value answer reads next = record {
  is = (Ok value, reads.is, next.is);
  only = λ other is. next.only other (subst (λ (r : Result V E). MatchResult r (λ v. Next v other) (λ e. other ≡ Err (told e))) (reads.only is.0 is.1) is.2);
}

pub step_refused : {V W E : Type 0} (Reads : Result V E → Type 0) (Next : V → Result W Status → Type 0) (told : E → Status) (fault : E) → IsOnly Reads (Err fault)
    → IsOnly (λ a. (reading : Result V E) × Reads reading × MatchResult reading (λ v. Next v a) (λ e. a ≡ Err (told e))) (Err (told fault))
step_refused {V} {W} {E} Reads Next told fault reads = record {
  is = (Err fault, reads.is, refl);
  only = λ other is. subst (λ (r : Result V E). MatchResult r (λ v. Next v other) (λ e. other ≡ Err (told e))) (reads.only is.0 is.1) is.2;
}

only_is : {A : Type 0} (value : A) → IsOnly (λ a. a ≡ value) value
only_is value = record { is = refl; only = λ other is. is }

pub known_step : {Start : Type 0} (unknown : Option ℕ) (Begins : Begun Start → Type 0) (answer : Begun Start) → unknown ≡ None → IsOnly Begins answer → IsOnly (BeginsKnown unknown Begins) answer
known_step {Start} unknown Begins answer none begins = subst (λ (u : Option ℕ). IsOnly (BeginsKnown u Begins) answer) (sym none) begins

pub unknown_step : {Start : Type 0} (unknown : Option ℕ) (Begins : Begun Start → Type 0) (number : ℕ) → unknown ≡ Some number → IsOnly (BeginsKnown unknown Begins) (Err (status.BadCatalog (catalog.Missing number)))
unknown_step {Start} unknown Begins number is = subst (λ (u : Option ℕ). IsOnly (BeginsKnown u Begins) (Err (status.BadCatalog (catalog.Missing number)))) (sym is) (only_is (Err (status.BadCatalog (catalog.Missing number))))

pub single_step : {Start : Type 0} (is_global : Bool) (Begins : Begun Start → Type 0) (answer : Begun Start) → is_global ≡ false → IsOnly Begins answer → IsOnly (BeginsUnless is_global Begins) answer
single_step {Start} is_global Begins answer single begins = subst (λ (b : Bool). IsOnly (BeginsUnless b Begins) answer) (sym single) begins

pub global_step : {Start : Type 0} (is_global : Bool) (Begins : Begun Start → Type 0) → is_global ≡ true → IsOnly (BeginsUnless is_global Begins) (Err (status.BadState state.Blob))
global_step {Start} is_global Begins global = subst (λ (b : Bool). IsOnly (BeginsUnless b Begins) (Err (status.BadState state.Blob))) (sym global) (only_is (Err (status.BadState state.Blob)))

pub starts_step : {Start : Type 0} (Starts : ConfStream → Option (List ℕ) → Start → Type 0) (states : List State) (streams : List ConfStream) (starts : List Start) → IsOnly (AreStarts Starts states streams) starts
    → IsOnly (BeginsStreams Starts states streams) (Ok (streams, starts))
starts_step {Start} Starts states streams starts are = record {
  is = inr (starts, are.is, refl);
  only = λ other is. elim is [
    | inl none ↦ absurd (none.0 starts are.is)
    | inr some ↦ some.2 ∙ ap (λ (found : List Start). Ok (streams, found)) (are.only some.0 some.1)
  ];
}

pub blob_step : {Start : Type 0} (Starts : ConfStream → Option (List ℕ) → Start → Type 0) (states : List State) (streams : List ConfStream) → ((starts : List Start) → ¬ AreStarts Starts states streams starts)
    → IsOnly (BeginsStreams Starts states streams) (Err (status.BadState state.Blob))
blob_step {Start} Starts states streams none = record {
  is = inl (none, refl);
  only = λ other is. elim is [ inl refused ↦ refused.1 | inr some ↦ absurd (none some.0 some.1) ];
}

-- ---- all of them

pub no_catalog : {Start : Type 0} (Starts : ConfStream → Option (List ℕ) → Start → Type 0) (is_known : List ℕ → Bool) (text states : List ℕ) (fault : CatalogFault) → IsOnly (ReadsAs text) (Err fault)
    → IsOnly (BeginsAs Starts is_known text states) (Err (catalog_status fault))
no_catalog Starts is_known text states fault reads =
    step_refused (ReadsAs text) (λ streams answer. BeginsKnown (first_unknown is_known 0 streams) (BeginsStates Starts states streams) answer) catalog_status fault reads

pub in_catalog : {Start : Type 0} (Starts : ConfStream → Option (List ℕ) → Start → Type 0) (is_known : List ℕ → Bool) (text states : List ℕ) (streams : List ConfStream) (answer : Begun Start) → IsOnly (ReadsAs text) (Ok streams)
    → IsOnly (BeginsKnown (first_unknown is_known 0 streams) (BeginsStates Starts states streams)) answer → IsOnly (BeginsAs Starts is_known text states) answer
in_catalog Starts is_known text states streams answer reads next =
    step_on (ReadsAs text) (λ found told. BeginsKnown (first_unknown is_known 0 found) (BeginsStates Starts states found) told) catalog_status streams answer reads next

pub no_states : {Start : Type 0} (Starts : ConfStream → Option (List ℕ) → Start → Type 0) (text : List ℕ) (streams : List ConfStream) (fault : StateFault) → IsOnly (ReadsStates text) (Err fault)
    → IsOnly (BeginsStates Starts text streams) (Err (state_status fault))
no_states Starts text streams fault reads =
    step_refused (ReadsStates text) (λ states answer. BeginsUnless (has_kind is_global_kind states) (BeginsStreams Starts states streams) answer) state_status fault reads

pub in_states : {Start : Type 0} (Starts : ConfStream → Option (List ℕ) → Start → Type 0) (text : List ℕ) (streams : List ConfStream) (states : List State) (answer : Begun Start) → IsOnly (ReadsStates text) (Ok states)
    → IsOnly (BeginsUnless (has_kind is_global_kind states) (BeginsStreams Starts states streams)) answer → IsOnly (BeginsStates Starts text streams) answer
in_states Starts text streams states answer reads next =
    step_on (ReadsStates text) (λ found told. BeginsUnless (has_kind is_global_kind found) (BeginsStreams Starts found streams) told) state_status states answer reads next

-- a fault as a status, where it is not want of memory
pub fault_told : {A E : Type 0} (result : Result A Status) (told : E → Status) (fault none : E) (P : Status → Type 0) → IsErrAnd result (λ why. why ≡ told fault) → told none ≡ status.NoMemory
    → (fault ≢ none → P (told fault)) → IfErr result (λ why. why ≢ status.NoMemory → P why)
fault_told (Ok value) told fault none P is memory next = absurd is
fault_told {A} {E} (Err why) told fault none P is memory next = λ other. subst P (sym is) (next (λ same. other (is ∙ (ap told same ∙ memory))))

-- ---- what the checks say of the streams

starts_all : {Start : Type 0} (Starts : ConfStream → Option (List ℕ) → Start → Type 0) (states : List State) (streams : List ConfStream) (starts : List Start) → AreStarts Starts states streams starts → length starts ≡ length streams
starts_all Starts states [] [] are = refl
starts_all Starts states [] (start ∷ starts) are = absurd are
starts_all Starts states (stream ∷ streams) [] are = absurd are
starts_all Starts states (stream ∷ streams) (start ∷ starts) are = ap (λ (n : ℕ). suc n) (starts_all Starts states streams starts are.1)

ok_is : {A : Type 0} (a b : A) → ◌≡◌ {A = Result A Status} (Ok a) (Ok b) → a ≡ b
ok_is a b e = cc

ok_err : {A : Type 0} (a : A) (why : Status) → ¬ (Ok a ≡ Err why)
ok_err a why e = cc

streams_start : {Start : Type 0} (Starts : ConfStream → Option (List ℕ) → Start → Type 0) (states : List State) (streams found : List ConfStream) (starts : List Start) → BeginsStreams Starts states streams (Ok (found, starts)) → length starts ≡ length found
streams_start {Start} Starts states streams found starts is = elim is [
  | inl refused ↦ absurd (ok_err (found, starts) (status.BadState state.Blob) refused.1)
  | inr some ↦ (
      let same : (found, starts) ≡ (streams, some.0) = ok_is (found, starts) (streams, some.0) some.2 in
      ap (λ (p : List ConfStream × List Start). length p.1) same ∙ (starts_all Starts states streams some.0 some.1 ∙ ap (λ (p : List ConfStream × List Start). length p.0) (sym same)))
]

unless_start : {Start : Type 0} (Starts : ConfStream → Option (List ℕ) → Start → Type 0) (is_global : Bool) (states : List State) (streams found : List ConfStream) (starts : List Start) → BeginsUnless is_global (BeginsStreams Starts states streams) (Ok (found, starts)) → length starts ≡ length found
unless_start Starts true states streams found starts is = absurd (ok_err (found, starts) (status.BadState state.Blob) is)
unless_start Starts false states streams found starts is = streams_start Starts states streams found starts is

states_start : {Start : Type 0} (Starts : ConfStream → Option (List ℕ) → Start → Type 0) (text : List ℕ) (streams found : List ConfStream) (starts : List Start) (reading : Result (List State) StateFault)
    → MatchResult reading (λ states. BeginsUnless (has_kind is_global_kind states) (BeginsStreams Starts states streams) (Ok (found, starts))) (λ fault. ◌≡◌ {A = Begun Start} (Ok (found, starts)) (Err (state_status fault))) → length starts ≡ length found
states_start Starts text streams found starts (Ok states) is = unless_start Starts (has_kind is_global_kind states) states streams found starts is
states_start Starts text streams found starts (Err fault) is = absurd (ok_err (found, starts) (state_status fault) is)

known_start : {Start : Type 0} (Starts : ConfStream → Option (List ℕ) → Start → Type 0) (unknown : Option ℕ) (text : List ℕ) (streams found : List ConfStream) (starts : List Start) → BeginsKnown unknown (BeginsStates Starts text streams) (Ok (found, starts)) → length starts ≡ length found
known_start Starts (Some number) text streams found starts is = absurd (ok_err (found, starts) (status.BadCatalog (catalog.Missing number)) is)
known_start Starts None text streams found starts is = states_start Starts text streams found starts is.0 is.2

reading_start : {Start : Type 0} (Starts : ConfStream → Option (List ℕ) → Start → Type 0) (is_known : List ℕ → Bool) (states : List ℕ) (found : List ConfStream) (starts : List Start) (reading : Result (List ConfStream) CatalogFault)
    → MatchResult reading (λ streams. BeginsKnown (first_unknown is_known 0 streams) (BeginsStates Starts states streams) (Ok (found, starts))) (λ fault. ◌≡◌ {A = Begun Start} (Ok (found, starts)) (Err (catalog_status fault))) → length starts ≡ length found
reading_start Starts is_known states found starts (Ok streams) is = known_start Starts (first_unknown is_known 0 streams) states streams found starts is
reading_start Starts is_known states found starts (Err fault) is = absurd (ok_err (found, starts) (catalog_status fault) is)

-- each stream that a source is begun with has a start
pub each_starts : {Start : Type 0} (Starts : ConfStream → Option (List ℕ) → Start → Type 0) (is_known : List ℕ → Bool) (text states : List ℕ) (streams : List ConfStream) (starts : List Start) → BeginsAs Starts is_known text states (Ok (streams, starts)) → length starts ≡ length streams
each_starts Starts is_known text states streams starts is = reading_start Starts is_known states streams starts is.0 is.2
