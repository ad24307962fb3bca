-- The saved set can be written, so the store's text reads as it.
use Rattle.std.proofs.Common.{arith, ◌≡◌, ◌⊎◌, inl, inr, ℕ, ◌≤◌, List, [], ◌∷◌, ◌++◌, Bool, true, false, cond, Option, None, Some, refl, sym, ◌∙◌, ap, subst, ltb-false}
use Rattle.std.specs.Prelude.{map, filter_map, nat_lt, option_map, unwrap_or, Ok}
use Rattle.std.specs.List.{AllByRecursion}
use Rattle.std.proofs.lemmas.List.{append-nil}
use Rattle.json_fields.specs.Answer.{IsAnswer, IsOnly}
use Rattle.basics.specs.declared.limits.TheConstants.{GREATEST_GENERATION}
use Rattle.basics.specs.declared.stream.StreamId.{StreamId}
use Rattle.stream_index.specs.Distinct.{AreDistinct}
use Rattle.outside.specs.Event.{given_in, stored}
use Rattle.outside.specs.declared.event.Event.{Event}
use Rattle.outside.specs.declared.event.Event.TheVariants.{Opened, Took, TookEnd, Committed, Emitted, Merged, Shown, Started, ReadLine, ReadEnd, Given, Closed, Got, GotEnd, Saved, Ended}
use Rattle.airbyte_message.specs.Messages.{IsMessage}
use Rattle.airbyte_message.specs.State.{State}
use Rattle.airbyte_message.specs.declared.message.Message.{Message}
use Rattle.airbyte_message.specs.declared.message.Message.TheVariants as message
use Rattle.message_writer.specs.Forms.{HasNames, HasForms}
use Rattle.message_writer.proofs.FormLemmas.{read_has_forms}
use Rattle.catalog.specs.Configured.{IsWithinLimit}
use Rattle.catalog.specs.Reading.{ids_of}
use Rattle.catalog.specs.declared.stream.ConfStream.{ConfStream}
use Rattle.catalog.specs.declared.stream.Gen.{Gen}
use Rattle.generation_rules.specs.Generations.{larger_of, next_of, within}
use Rattle.dedup_merge.proofs.SameRowLemmas.{Has}
use Rattle.load_rules.specs.Lines.{Reading, ReadsEvent, ReadsText, IsReading, lines_read, state_in}
use Rattle.load_rules.specs.Taken.{LaneState}
use Rattle.load_rules.specs.Attempts.{gives}
use Rattle.state_kinds.specs.Saved.{Saved as Set, nothing_saved}
use Rattle.state_kinds.specs.Changes.{given_of}
use Rattle.state_kinds.specs.Store.{ReadsStore}
use Rattle.state_kinds.specs.Writable.{IsWritable, IsWritableGiven, IsWritableState}
use Rattle.state_kinds.proofs.BackLemmas.{sets_back}
use Rattle.state_kinds.proofs.StayLemmas.{pair_ids, sets_stay}
use Rattle.sync_rules.specs.Generations.{Begins, gen_of, gens_of, last_generation, restarted, restarts}
use Rattle.sync_rules.specs.Sync.{Running, Sync, no_sync, Takes, and_event, got, saved}
use Rattle.sync_rules.specs.Steps.{Step, InAttempt, Gets, Saves, Puts}
use Rattle.sync_rules.specs.SafeSync.{Asked, Goes, IsAsked}
use Rattle.sync_rules.specs.Laws.{AreOrderly, IsStoreOf, ReadsSaved, SavedReadsBack}
use Rattle.sync_rules.proofs.Giving.{gives-one}
use Rattle.sync_rules.proofs.KindLemmas.{all_more, found_state, some_is, some_none}
use Rattle.sync_rules.proofs.StoreLemmas.{store_holds}
use Rattle.sync_rules.proofs.Takings.{one_gen, taken_in}

-- ---- the generations that an attempt gives

next_within : (number next : ℕ) → within number ≡ Some next → next ≤ GREATEST_GENERATION
next_within number next is = at (nat_lt GREATEST_GENERATION number) refl is
  where
    at : (b : Bool) → nat_lt GREATEST_GENERATION number ≡ b → cond b None (Some number) ≡ Some next → next ≤ GREATEST_GENERATION
    at true above it = absurd (some_none (sym it))
    at false above it = subst (λ (n : ℕ). n ≤ GREATEST_GENERATION) (some_is it) (ltb-false GREATEST_GENERATION number above)

restarted_within : (next : Option ℕ) (gen : Gen) → ((number : ℕ) → next ≡ Some number → number ≤ GREATEST_GENERATION) → option_map restarted next ≡ Some gen → gen.generation ≤ GREATEST_GENERATION
restarted_within None gen each is = absurd (some_none (sym is))
restarted_within (Some number) gen each is = subst (λ (it : Gen). it.generation ≤ GREATEST_GENERATION) (some_is is) (each number refl)

told_within : (generation : Option ℕ) → IsWithinLimit generation → unwrap_or generation 0 ≤ GREATEST_GENERATION
told_within None limit = omega arith
told_within (Some generation) limit = limit

gen_within : (set : Set) (stream : ConfStream) (gen : Gen) → IsWithinLimit stream.generation → gen_of set stream ≡ Some gen → gen.generation ≤ GREATEST_GENERATION
gen_within set stream gen limit is = at (restarts stream) is
  where
    at : (b : Bool) → cond b (option_map restarted (next_of stream.generation (last_generation set stream.id))) (Some (record { generation = unwrap_or stream.generation 0; minimum = stream.minimum })) ≡ Some gen → gen.generation ≤ GREATEST_GENERATION
    at true it = restarted_within (next_of stream.generation (last_generation set stream.id)) gen (λ number so. next_within (larger_of stream.generation (last_generation set stream.id)) number so) it
    at false it = subst (λ (own : Gen). own.generation ≤ GREATEST_GENERATION) (some_is it) (told_within stream.generation limit)

given_ids : (set : Set) (streams : List ConfStream) (gens : List Gen) → gens_of set streams ≡ Some gens → pair_ids (given_of streams gens) ≡ ids_of streams
given_ids set [] gens are = ap (λ (list : List Gen). pair_ids (given_of [] list)) (sym (some_is are))
given_ids set (stream ∷ streams) gens are =
    let found = one_gen set stream streams gens are in
    ap (λ (list : List Gen). pair_ids (given_of (stream ∷ streams) list)) found.is ∙ ap (λ ids. stream.id ∷ ids) (given_ids set streams found.rest found.rest_are)

given_well : (set : Set) (streams : List ConfStream) (gens : List Gen) → AllByRecursion HasNames (ids_of streams) → AllByRecursion (λ stream. IsWithinLimit stream.generation) streams → gens_of set streams ≡ Some gens → AllByRecursion IsWritableGiven (given_of streams gens)
given_well set [] gens names limits are = subst (λ (list : List Gen). AllByRecursion IsWritableGiven (given_of [] list)) (some_is are) tt
given_well set (stream ∷ streams) gens names limits are =
    let found = one_gen set stream streams gens are in
    subst (λ (list : List Gen). AllByRecursion IsWritableGiven (given_of (stream ∷ streams) list)) (sym found.is) (
      record { name = names.0.name; namespace = names.0.namespace; generation = gen_within set stream found.gen limits.0 found.gen_is },
      given_well set streams found.rest names.1 limits.1 found.rest_are,
    )

begins_writable : (streams : List ConfStream) (set : Set) (gens : List Gen) (now : Set) → AreOrderly streams → Begins streams set gens now → IsWritable set → IsWritable now
begins_writable streams set gens now orderly begins writable =
    subst IsWritable (sym begins.is) (sets_stay.begins (given_of streams gens) set (subst (λ (ids : List StreamId). AreDistinct ids) (sym (given_ids set streams gens begins.gens_are)) orderly.distinct) (given_well set streams gens orderly.names orderly.generations begins.gens_are) writable)

-- ---- a given line that is a state

abbrev pub AreRead : Reading → Option Running → Type 0
AreRead read None = Unit {0}
AreRead read (Some own) = AllByRecursion (ReadsText read) (gives own.events)

state_right : (read : Reading) (text : List ℕ) (state : State) (found : Option Message) → read text ≡ found → ReadsText read text → state_in found ≡ Some state → IsWritableState state
state_right read text state None at right is = absurd (some_none (sym is))
state_right read text state (Some (message.Rec content)) at right is = absurd (some_none (sym is))
state_right read text state (Some (message.Log content)) at right is = absurd (some_none (sym is))
state_right read text state (Some (message.Spec content)) at right is = absurd (some_none (sym is))
state_right read text state (Some (message.Connection content)) at right is = absurd (some_none (sym is))
state_right read text state (Some (message.Catalog content)) at right is = absurd (some_none (sym is))
state_right read text state (Some (message.Trace content)) at right is = absurd (some_none (sym is))
state_right read text state (Some (message.Control content)) at right is = absurd (some_none (sym is))
state_right read text state (Some (message.State own)) at right is =
    let only : IsAnswer (IsMessage text) (Some (message.State own)) = subst (λ it. IsAnswer (IsMessage text) it) at right in
    let forms : HasForms (message.State own) = read_has_forms text (message.State own) only.is in
    subst IsWritableState (some_is is) (record { value = forms.value; is = forms.state })

given_right : (read : Reading) (state : State) (list : List (List ℕ)) → AllByRecursion (ReadsText read) list → Has (Some state) (map found_state (lines_read read list)) → IsWritableState state
given_right read state [] right has = absurd has
given_right read state (text ∷ list) right (inl is) = state_right read text state (read text) refl right.0 is
given_right read state (text ∷ list) right (inr has) = given_right read state list right.1 has

-- ---- what holds along a sync

pub record IsSound (read : Reading) (sync : Sync) : Type 0 where
  pub writable : IsWritable sync.set
  pub given : AreRead read sync.attempt
  pub owed : (state : LaneState) → sync.owed ≡ Some state → IsWritableState state.state

none_owed : (owed : Option LaneState) → owed ≡ None → (state : LaneState) → owed ≡ Some state → IsWritableState state.state
none_owed owed none state is = absurd (some_none (sym is ∙ none))

sound_at : (read : Reading) (x y : Sync) → y ≡ x → IsSound read x → IsSound read y
sound_at read x y same sound = subst (IsSound read) (sym same) sound

read_same : (read : Reading) (event : Event) (own : Option Running) → filter_map given_in (event ∷ []) ≡ [] → AreRead read own → AreRead read (option_map (and_event event) own)
read_same read event None none right = tt
read_same read event (Some own) none right = subst (AllByRecursion (ReadsText read)) (sym (gives-one own.events event ∙ (ap (λ more. gives own.events ++ more) none ∙ append-nil (gives own.events)))) right

read_given : (read : Reading) (text : List ℕ) (own : Option Running) → ReadsText read text → AreRead read own → AreRead read (option_map (and_event (Given text)) own)
read_given read text None one_is right = tt
read_given read text (Some own) one_is right = subst (AllByRecursion (ReadsText read)) (sym (gives-one own.events (Given text))) (all_more (ReadsText read) (gives own.events) text right one_is)

sound_own : (read : Reading) (event : Event) (sync now : Sync) → filter_map given_in (event ∷ []) ≡ [] → now ≡ (record sync { attempt = option_map (and_event event) sync.attempt }) → IsSound read sync → IsSound read now
sound_own read event sync now none same sound = sound_at read (record sync { attempt = option_map (and_event event) sync.attempt }) now same (record { writable = sound.writable; given = read_same read event sync.attempt none sound.given; owed = sound.owed })

sound_got : (read : Reading) (sync : Sync) (text : List ℕ) (now : Sync) (own : Option Running) → own ≡ sync.attempt → AreRead read own → InAttempt own (Gets read sync text now) → IsSound read sync → IsSound read now
sound_got read sync text now None at right gets sound = absurd gets
sound_got read sync text now (Some own) at right gets sound = sound_at read (got text gets.1.owed sync) now gets.1.is (record {
  writable = sound.writable;
  given = read_same read (Got text) sync.attempt refl sound.given;
  owed = λ state is. owed_is gets.1.owed gets.1.takes state is;
})
  where
    owed_is : (owed : Option LaneState) → Takes read own.events text owed → (state : LaneState) → owed ≡ Some state → IsWritableState state.state
    owed_is None takes state is = absurd (some_none (sym is))
    owed_is (Some taken) takes state is = subst (λ (it : LaneState). IsWritableState it.state) (some_is is) (given_right read taken.state (gives own.events) right (taken_in read own.events takes.0 taken takes.2))

sound_saved : (streams : List ConfStream) (read : Reading) (P : LaneState → Type 0) (sync : Sync) (text : List ℕ) (now : Sync) → AreOrderly streams → Saves streams read P sync text now → IsSound read sync → IsSound read now
sound_saved streams read P sync text now orderly saves sound = sound_at read (saved text saves.set sync) now saves.is (record {
  writable = by saves.by;
  given = read_same read (Saved text) sync.attempt refl sound.given;
  owed = none_owed None refl;
})
  where
    by : ((gens : List Gen) × Begins streams sync.set gens saves.set) ⊎ Puts streams read P sync saves.set → IsWritable saves.set
    by (inl begins) = begins_writable streams sync.set begins.0 saves.set orderly begins.1 sound.writable
    by (inr puts) = sets_stay.puts puts.state.state sync.set saves.set (sound.owed puts.state puts.owed) sound.writable puts.put

sound_step : (streams : List ConfStream) (read : Reading) (P : LaneState → Type 0) (sync : Sync) (event : Event) (now : Sync) → AreOrderly streams → ReadsEvent read event → Step streams read P sync event now → IsSound read sync → IsSound read now
sound_step streams read P sync (Opened x y z) now orderly right step sound = sound_at read sync now step sound
sound_step streams read P sync (Took x) now orderly right step sound = sound_at read sync now step sound
sound_step streams read P sync TookEnd now orderly right step sound = sound_at read sync now step sound
sound_step streams read P sync (Committed x y) now orderly right step sound = sound_at read sync now step sound
sound_step streams read P sync (Emitted x) now orderly right step sound = sound_at read sync now step sound
sound_step streams read P sync (Merged x y z) now orderly right step sound = sound_at read sync now step sound
sound_step streams read P sync (Shown x y z) now orderly right step sound = sound_at read sync now step sound
sound_step streams read P sync (Started x) now orderly right step sound = sound_at read (record { set = sync.set; previous = sync.previous; is_begun = false; owed = None; attempt = Some (record { start = sync.set; events = [] }) }) now step.1 (record { writable = sound.writable; given = tt; owed = none_owed None refl })
sound_step streams read P sync (ReadLine x) now orderly right step sound = sound_own read (ReadLine x) sync now refl step.1 sound
sound_step streams read P sync ReadEnd now orderly right step sound = sound_own read ReadEnd sync now refl step.1 sound
sound_step streams read P sync (Given x) now orderly right step sound = sound_at read (record sync { attempt = option_map (and_event (Given x)) sync.attempt }) now step.1 (record { writable = sound.writable; given = read_given read x sync.attempt right sound.given; owed = sound.owed })
sound_step streams read P sync Closed now orderly right step sound = sound_own read Closed sync now refl step.1 sound
sound_step streams read P sync (Got x) now orderly right step sound = sound_got read sync x now sync.attempt refl sound.given step sound
sound_step streams read P sync GotEnd now orderly right step sound = sound_own read GotEnd sync now refl step.1 sound
sound_step streams read P sync (Saved x) now orderly right step sound = sound_saved streams read P sync x now orderly step sound
sound_step streams read P sync (Ended x) now orderly right step sound = sound_own read (Ended x) sync now refl step.1 sound

sound_along : (streams : List ConfStream) (read : Reading) (asked : Asked) (before events : List Event) (sync now : Sync) → AreOrderly streams → IsReading read events → Goes streams read asked before sync events now → IsSound read sync → IsSound read now
sound_along streams read asked before [] sync now orderly right goes sound = sound_at read sync now goes sound
sound_along streams read asked before (event ∷ events) sync now orderly right (middle, step, rest) sound =
    sound_along streams read asked (before ++ event ∷ []) events middle now orderly right.1 rest (sound_step streams read (IsAsked streams asked before) sync event middle orderly right.0 step sound)

nothing_read : IsOnly (ReadsStore []) (Ok nothing_saved)
nothing_read = record { is = refl; only = λ other so. so }

reads_saved : (text : List ℕ) (set : Set) → IsWritable set → IsStoreOf text set → ReadsSaved text set
reads_saved text set writable (inl none) = record { writable = writable; reads = subst (λ own. IsOnly (ReadsStore own) (Ok set)) (sym none.0) (subst (λ it. IsOnly (ReadsStore []) (Ok it)) (sym none.1) nothing_read) }
reads_saved text set writable (inr is) = record { writable = writable; reads = subst (λ own. IsOnly (ReadsStore own) (Ok set)) (sym is) (sets_back set writable) }

pub saved_reads_back : SavedReadsBack
saved_reads_back streams read asked trace now right orderly leads =
    let sound = sound_along streams read asked [] trace no_sync now orderly right leads (record { writable = sets_stay.nothing; given = tt; owed = none_owed None refl }) in
    reads_saved (stored trace) now.set sound.writable (store_holds streams read asked trace now leads)
