-- The generations that an attempt gives: those of its catalog's text, those of its load, and those that its sets hold.
use Rattle.std.proofs.Common.{arith, ◌≡◌, inl, inr, ℕ, ◌≤◌, eqb-true, List, [], ◌∷◌, ◌++◌, map, find, Option, None, Some, Bool, true, false, cond, refl, sym, ◌∙◌, ap, subst, ltb-false}
use Rattle.std.specs.Prelude.{filter, not, nat_lt, option_map, is_some, unwrap_or, Result, Ok, Err, ◌==◌, ◌||◌}
use Rattle.std.specs.List.{AllByRecursion, list_any, zip}
use Rattle.std.proofs.lemmas.Bool.{false≢true}
use Rattle.std.proofs.lemmas.List.Elements.{All-from_recursion, recursion_from_All}
use Rattle.basics.specs.declared.limits.TheConstants.{GREATEST_GENERATION}
use Rattle.basics.specs.declared.stream.StreamId.{StreamId}
use Rattle.stream_index.specs.Same.{is_same_stream}
use Rattle.stream_index.proofs.IndexLemmas.{Decides-stream}
use Rattle.outside.specs.declared.event.Event.{Event}
use Rattle.outside.specs.declared.event.StreamPlan.{StreamPlan}
use Rattle.outside.specs.declared.faults.CatalogFault.{CatalogFault}
use Rattle.catalog.specs.Configured.{AreConfigured, IsConfigured, IsWithinLimit}
use Rattle.catalog.specs.Reading.{ids_of}
use Rattle.catalog.specs.Written.{IsCatalogText, IsFit, with_gen, with_gens}
use Rattle.catalog.specs.declared.stream.ConfStream.{ConfStream}
use Rattle.catalog.specs.declared.stream.Gen.{Gen}
use Rattle.catalog.proofs.CatalogBack.{catalogs_read_back}
use Rattle.generation_rules.specs.Generations.{larger_of, next_of, within}
use Rattle.dedup_merge.proofs.SameRowLemmas.{Has, has_from}
use Rattle.load_rules.specs.Marks.{marks_of}
use Rattle.load_rules.specs.Attempts.{Attempt}
use Rattle.load_rules.specs.Engine.{HasGeneration, GenerationsFit, OpensByCatalog}
use Rattle.airbyte_message.specs.State.{State}
use Rattle.airbyte_message.specs.declared.message.StateKind.{StateKind}
use Rattle.airbyte_message.specs.declared.message.StateKind.TheVariants as kind
use Rattle.outside.specs.declared.faults.StateFault.TheVariants as fault
use Rattle.state_kinds.specs.declared.entry.SavedEntry.{SavedEntry}
use Rattle.state_kinds.specs.Saved.{Saved as Set, entry_of, entry_ids, has_states, has_stream}
use Rattle.state_kinds.specs.Store.{repeats_stream}
use Rattle.state_kinds.specs.Changes.{Given, given_of, generation_of, renewed_to, renewed, new_entry, added, begun, with_state, put_kind, put_into}
use Rattle.state_kinds.proofs.OnceLemmas.{distinct_once}
use Rattle.sync_rules.specs.Generations.{Begins, Held, gen_of, gens_of, generations_in, last_generation, restarted, restarts}
use Rattle.sync_rules.proofs.KindLemmas.{by_bool, has_map, or_left, some_is, some_none}
use Rattle.sync_rules.proofs.Takings.{one_gen}
use Rattle.replay_rules.proofs.Sets.{done, refused, err_ok, ok_is as set_is}

-- ---- which generations are given

next_within : (number next : ℕ) → within number ≡ Some next → next ≤ GREATEST_GENERATION
next_within number next is = at (nat_lt GREATEST_GENERATION number) refl is
  where
    at : (b : Bool) → nat_lt GREATEST_GENERATION number ≡ b → cond b None (Some number) ≡ Some next → next ≤ GREATEST_GENERATION
    at true above it = absurd (some_none (sym it))
    at false above it = subst (λ (n : ℕ). n ≤ GREATEST_GENERATION) (some_is it) (ltb-false GREATEST_GENERATION number above)

restarted_fit : (next : Option ℕ) (gen : Gen) → ((number : ℕ) → next ≡ Some number → number ≤ GREATEST_GENERATION) → option_map restarted next ≡ Some gen → IsFit gen
restarted_fit None gen each is = absurd (some_none (sym is))
restarted_fit (Some number) gen each is = subst IsFit (some_is is) (record { within = each number refl; minimum = omega arith })

told_within : (generation : Option ℕ) → IsWithinLimit generation → unwrap_or generation 0 ≤ GREATEST_GENERATION
told_within None limit = omega arith
told_within (Some generation) limit = limit

gen_fit : (set : Set) (stream : ConfStream) (gen : Gen) → IsConfigured stream → gen_of set stream ≡ Some gen → IsFit gen
gen_fit set stream gen configured is = at (restarts stream) is
  where
    at : (b : Bool) → cond b (option_map restarted (next_of stream.generation (last_generation set stream.id))) (Some (record { generation = unwrap_or stream.generation 0; minimum = stream.minimum })) ≡ Some gen → IsFit gen
    at true it = restarted_fit (next_of stream.generation (last_generation set stream.id)) gen (λ number so. next_within (larger_of stream.generation (last_generation set stream.id)) number so) it
    at false it = subst IsFit (some_is it) (record { within = told_within stream.generation configured.generation; minimum = configured.minimum })

gens_fit : (set : Set) (streams : List ConfStream) (gens : List Gen) → AllByRecursion IsConfigured streams → gens_of set streams ≡ Some gens → AllByRecursion IsFit gens
gens_fit set [] gens configured is = subst (AllByRecursion IsFit) (some_is is) tt
gens_fit set (stream ∷ streams) gens configured is =
    let found = one_gen set stream streams gens is in
    subst (AllByRecursion IsFit) (sym found.is) (gen_fit set stream found.gen configured.0 found.gen_is, gens_fit set streams found.rest configured.1 found.rest_are)

-- ---- what the catalog's text gives

zip_left : {A B : Type 0} (xs : List A) (ys : List B) (p : A × B) → Has p (zip xs ys) → Has p.0 xs
zip_left [] ys p has = absurd has
zip_left (x ∷ xs) [] p has = absurd has
zip_left {A} {B} (x ∷ xs) (y ∷ ys) p (inl is) = inl (ap (λ (q : A × B). q.0) is)
zip_left (x ∷ xs) (y ∷ ys) p (inr has) = inr (zip_left xs ys p has)

zip_right : {A B : Type 0} (xs : List A) (ys : List B) (p : A × B) → Has p (zip xs ys) → Has p.1 ys
zip_right [] ys p has = absurd has
zip_right (x ∷ xs) [] p has = absurd has
zip_right {A} {B} (x ∷ xs) (y ∷ ys) p (inl is) = inl (ap (λ (q : A × B). q.1) is)
zip_right (x ∷ xs) (y ∷ ys) p (inr has) = inr (zip_right xs ys p has)

all_in : {A : Type 0} (P : A → Type 0) (xs : List A) (x : A) → AllByRecursion P xs → Has x xs → P x
all_in P [] x each has = absurd has
all_in P (y ∷ xs) x each (inl is) = subst P is each.0
all_in P (y ∷ xs) x each (inr has) = all_in P xs x each.1 has

-- a stream and its generations, as a load's plan has them
pub record IsGivenTo (streams : List ConfStream) (gens : List Gen) (plan : StreamPlan) : Type 0 where
  pub pair : ConfStream × Gen
  pub among : Has pair (zip streams gens)
  pub same : pair.0.id ≡ plan.id
  pub generation : plan.generation ≡ pair.1.generation
  pub minimum : plan.minimum ≡ pair.1.minimum

ok_reading : Result (List ConfStream) CatalogFault → List ConfStream → List ConfStream
ok_reading (Ok streams) other = streams
ok_reading (Err fault) other = other

abbrev read_as : List ConfStream → Result (List ConfStream) CatalogFault
read_as streams = Ok streams

given_to : (streams : List ConfStream) (gens : List Gen) (entries : List (List ℕ)) (before : List Event) (plan : StreamPlan) → GenerationsFit before (with_gens streams gens entries) plan → IsGivenTo streams gens plan
given_to streams gens entries before plan fits =
    let found = has_map (λ p. with_gen p.0 p.1) fits.stream (zip (zip streams gens) entries) (has_from (with_gens streams gens entries) fits.stream fits.among) in
    at found.0 found.1 found.2
  where
    at : (p : (ConfStream × Gen) × List ℕ) → Has p (zip (zip streams gens) entries) → with_gen p.0 p.1 ≡ fits.stream → IsGivenTo streams gens plan
    at p has is =
        let has_is : HasGeneration (marks_of before plan.id) (with_gen p.0 p.1) plan (Some p.0.1.generation) = subst (λ (it : ConfStream). HasGeneration (marks_of before plan.id) it plan it.generation) (sym is) fits.has in
        record {
          pair = p.0;
          among = zip_left (zip streams gens) entries p has;
          same = ap (λ (it : ConfStream). it.id) is ∙ fits.same;
          generation = has_is.0;
          minimum = has_is.1;
        }

all_given : (streams : List ConfStream) (gens : List Gen) (entries : List (List ℕ)) (before : List Event) (plans : List StreamPlan) → AllByRecursion (GenerationsFit before (with_gens streams gens entries)) plans → AllByRecursion (IsGivenTo streams gens) plans
all_given streams gens entries before [] fits = tt
all_given streams gens entries before (plan ∷ plans) fits = (given_to streams gens entries before plan fits.0, all_given streams gens entries before plans fits.1)

ok_is : (streams other : List ConfStream) → read_as streams ≡ read_as other → streams ≡ other
unfolding ok_reading
ok_is streams other e = ap (λ reading. ok_reading reading streams) e

-- the load of an attempt has the generations that the attempt was started with
pub load_given : (streams : List ConfStream) (set : Set) (gens : List Gen) (attempt : Attempt) (before : List Event) (plans : List StreamPlan) → AreConfigured streams → gens_of set streams ≡ Some gens → IsCatalogText streams gens attempt.plan.catalog
    → OpensByCatalog attempt before plans → AllByRecursion (IsGivenTo streams gens) plans
load_given streams set gens attempt before plans configured gens_are text opens =
    let fit = All-from_recursion IsFit gens (gens_fit set streams gens (recursion_from_All IsConfigured streams configured.each) gens_are) in
    let only = catalogs_read_back streams gens attempt.plan.catalog configured text fit in
    let same : opens.catalog ≡ with_gens streams gens text.entries = ok_is opens.catalog (with_gens streams gens text.entries) (only.only (read_as opens.catalog) opens.reads) in
    all_given streams gens text.entries before plans (subst (λ catalog. AllByRecursion (GenerationsFit before catalog) plans) same opens.generations)

pub given_fit : (streams : List ConfStream) (set : Set) (gens : List Gen) (plan : StreamPlan) → AreConfigured streams → gens_of set streams ≡ Some gens → IsGivenTo streams gens plan → plan.minimum ≤ plan.generation
given_fit streams set gens plan configured gens_are is =
    let fit = all_in IsFit gens is.pair.1 (gens_fit set streams gens (recursion_from_All IsConfigured streams configured.each) gens_are) (zip_right streams gens is.pair is.among) in
    let low = fit.minimum in
    let a = is.generation in
    let b = is.minimum in
    omega (arith, low, a, b)

-- ---- what a beginning gives

any_has : (id : StreamId) (ids : List StreamId) (other : StreamId) → Has other ids → is_same_stream id other ≡ true → list_any (is_same_stream id) ids ≡ true
any_has id [] other has is = absurd has
any_has id (first ∷ ids) other (inl same) is = or_left (is_same_stream id first) (list_any (is_same_stream id) ids) (ap (is_same_stream id) same ∙ is)
any_has id (first ∷ ids) other (inr has) is = at (is_same_stream id first) (any_has id ids other has is)
  where
    at : (b : Bool) → list_any (is_same_stream id) ids ≡ true → (b || list_any (is_same_stream id) ids) ≡ true
    at true rest = refl
    at false rest = rest

has_id : (streams : List ConfStream) (stream : ConfStream) → Has stream streams → Has stream.id (ids_of streams)
has_id [] stream has = absurd has
has_id (first ∷ streams) stream (inl is) = inl (ap (λ (it : ConfStream). it.id) is)
has_id (first ∷ streams) stream (inr has) = inr (has_id streams stream has)

first_apart : (a b : Bool) → (a || b) ≡ false → a ≡ false
first_apart true b is = is
first_apart false b is = refl

rest_apart : (a b : Bool) → (a || b) ≡ false → b ≡ false
rest_apart true b is = absurd (false≢true (sym is))
rest_apart false b is = is

same_turned : (a b : StreamId) → is_same_stream a b ≡ true → is_same_stream b a ≡ true
same_turned a b is = (Decides-stream b a).1 (sym ((Decides-stream a b).0 is))

given_is : (streams : List ConfStream) (gens : List Gen) (pair : ConfStream × Gen) → repeats_stream (ids_of streams) ≡ false → Has pair (zip streams gens) → generation_of (given_of streams gens) pair.0.id ≡ Some pair.1.generation
given_is [] gens pair once has = absurd has
given_is (stream ∷ streams) [] pair once has = absurd has
given_is (stream ∷ streams) (gen ∷ gens) pair once (inl is) =
    let own : is_same_stream pair.0.id stream.id ≡ true = (Decides-stream pair.0.id stream.id).1 (ap (λ (p : ConfStream × Gen). p.0.id) (sym is)) in
    rw own (ap (λ (p : ConfStream × Gen). Some p.1.generation) is)
given_is (stream ∷ streams) (gen ∷ gens) pair once (inr has) =
    let apart = first_apart (list_any (is_same_stream stream.id) (ids_of streams)) (repeats_stream (ids_of streams)) once in
    let rest = given_is streams gens pair (rest_apart (list_any (is_same_stream stream.id) (ids_of streams)) (repeats_stream (ids_of streams)) once) has in
    by_bool (is_same_stream pair.0.id stream.id)
    (λ is. absurd (false≢true (sym apart ∙ any_has stream.id (ids_of streams) pair.0.id (has_id streams pair.0 (zip_left streams gens pair has)) (same_turned pair.0.id stream.id is))))
    (λ is. rw is rest)

-- of an entry, its generation
abbrev pub generation_in : Option SavedEntry → Option ℕ
generation_in found = option_map (λ entry. entry.generation) found

renewed_generation : (entry : SavedEntry) (generation : ℕ) → (renewed_to entry (Some generation)).generation ≡ generation
renewed_generation entry generation = at (entry.generation == generation) refl
  where
    at : (b : Bool) → (entry.generation == generation) ≡ b → (cond b entry (record entry { generation = generation; state = None })).generation ≡ generation
    at true is = eqb-true entry.generation generation is
    at false is = refl

renewed_same_id : (entry : SavedEntry) (given : Option ℕ) → (renewed_to entry given).id ≡ entry.id
renewed_same_id entry None = refl
renewed_same_id entry (Some generation) = at (entry.generation == generation)
  where
    at : (b : Bool) → (cond b entry (record entry { generation = generation; state = None })).id ≡ entry.id
    at true = refl
    at false = refl

-- behind entries that have not the stream
new_generation : (id : StreamId) (test : StreamId × ℕ → Bool) (given : Given) (generation : ℕ) → ((pair : StreamId × ℕ) → is_same_stream id pair.0 ≡ true → test pair ≡ true) → generation_of given id ≡ Some generation → generation_in (entry_of (map new_entry (filter test given)) id) ≡ Some generation
new_generation id test [] generation passes is = absurd (some_none (sym is))
new_generation id test (pair ∷ given) generation passes is = at (is_same_stream id pair.0) (test pair) refl refl is (new_generation id test given generation passes)
  where
    at : (a b : Bool) → is_same_stream id pair.0 ≡ a → test pair ≡ b → option_map (λ (p : StreamId × ℕ). p.1) (cond a (Some pair) (find (λ (p : StreamId × ℕ). is_same_stream id p.0) given)) ≡ Some generation → (generation_of given id ≡ Some generation → generation_in (entry_of (map new_entry (filter test given)) id) ≡ Some generation) → generation_in (entry_of (map new_entry (cond b (pair ∷ filter test given) (filter test given))) id) ≡ Some generation
    at true true own kept found deeper = rw own found
    at true false own kept found deeper = absurd (false≢true (sym kept ∙ passes pair own))
    at false true own kept found deeper = rw own (deeper found)
    at false false own kept found deeper = deeper found

begun_in : (given : Given) (id : StreamId) (generation : ℕ) (entries more : List SavedEntry) → generation_of given id ≡ Some generation → (has_stream (entry_ids entries) id ≡ false → generation_in (entry_of more id) ≡ Some generation) → generation_in (entry_of (map (renewed given) entries ++ more) id) ≡ Some generation
begun_in given id generation [] more is new = new refl
begun_in given id generation (entry ∷ entries) more is new = at (is_same_stream id entry.id) refl new (λ fresh. begun_in given id generation entries more is fresh)
  where
    own : is_same_stream id (renewed given entry).id ≡ is_same_stream id entry.id
    own = ap (is_same_stream id) (renewed_same_id entry (generation_of given entry.id))

    at : (b : Bool) → is_same_stream id entry.id ≡ b → ((b || has_stream (entry_ids entries) id) ≡ false → generation_in (entry_of more id) ≡ Some generation) → ((has_stream (entry_ids entries) id ≡ false → generation_in (entry_of more id) ≡ Some generation) → generation_in (entry_of (map (renewed given) entries ++ more) id) ≡ Some generation) → generation_in (cond (is_same_stream id (renewed given entry).id) (Some (renewed given entry)) (entry_of (map (renewed given) entries ++ more) id)) ≡ Some generation
    at true found new deeper =
        let same : entry.id ≡ id = sym ((Decides-stream id entry.id).0 found) in
        rw (own, found) (ap (λ given. Some (renewed_to entry given).generation) (ap (generation_of given) same ∙ is) ∙ ap (λ n. Some n) (renewed_generation entry generation))
    at false found new deeper = rw (own, found) (deeper new)

not_among : (id other : StreamId) (ids : List StreamId) → has_stream ids id ≡ false → is_same_stream id other ≡ true → has_stream ids other ≡ false
not_among id other ids none is = subst (λ it. has_stream ids it ≡ false) ((Decides-stream id other).0 is) none

pub begun_generation : (given : Given) (set : Set) (id : StreamId) (generation : ℕ) → generation_of given id ≡ Some generation → last_generation (begun given set) id ≡ Some generation
begun_generation given set id generation is = begun_in given id generation set.entries (added given (entry_ids set.entries)) is
    (λ none. new_generation id (λ pair. not (has_stream (entry_ids set.entries) pair.0)) given generation (λ pair own. ap not (not_among id pair.0 (entry_ids set.entries) none own)) is)

-- an attempt's set has the generation that the load's plan has
pub held_generation : (streams : List ConfStream) (set now : Set) (gens : List Gen) (plan : StreamPlan) → AreConfigured streams → Begins streams set gens now → IsGivenTo streams gens plan → last_generation now plan.id ≡ Some plan.generation
held_generation streams set now gens plan configured begins is =
    subst (λ it. last_generation it plan.id ≡ Some plan.generation) (sym begins.is)
    (begun_generation (given_of streams gens) set plan.id plan.generation
    (subst (λ id. generation_of (given_of streams gens) id ≡ Some plan.generation) is.same (given_is streams gens is.pair (distinct_once (ids_of streams) configured.distinct) is.among ∙ ap (λ n. Some n) (sym is.generation))))

-- ---- sets with the same generations

abbrev held_of : List SavedEntry → List Held
held_of entries = map (λ entry. record { id = entry.id; generation = entry.generation }) entries

generation_held : List Held → StreamId → Option ℕ
generation_held list id = option_map (λ held. held.generation) (find (λ held. is_same_stream id held.id) list)

held_entries : (entries : List SavedEntry) (id : StreamId) → generation_in (entry_of entries id) ≡ generation_held (held_of entries) id
unfolding generation_held
held_entries [] id = refl
held_entries (entry ∷ entries) id = at (is_same_stream id entry.id) (held_entries entries id)
  where
    at : (b : Bool) → generation_in (entry_of entries id) ≡ option_map (λ held. held.generation) (find (λ held. is_same_stream id held.id) (held_of entries)) → generation_in (cond b (Some entry) (entry_of entries id)) ≡ option_map (λ held. held.generation) (cond b (Some (record { id = entry.id; generation = entry.generation })) (find (λ held. is_same_stream id held.id) (held_of entries)))
    at true rest = refl
    at false rest = rest

pub same_generations : (set other : Set) (id : StreamId) → generations_in set ≡ generations_in other → last_generation set id ≡ last_generation other id
same_generations set other id same = held_entries set.entries id ∙ (ap (λ list. generation_held list id) same ∙ sym (held_entries other.entries id))

abbrev held_one : SavedEntry → Held
held_one entry = record { id = entry.id; generation = entry.generation }

stated_held : (id : StreamId) (object : List ℕ) (entries : List SavedEntry) → held_of (map (with_state id object) entries) ≡ held_of entries
stated_held id object [] = refl
stated_held id object (entry ∷ entries) = at (is_same_stream id entry.id) (stated_held id object entries)
  where
    at : (b : Bool) → held_of (map (with_state id object) entries) ≡ held_of entries → held_one (cond b (record entry { state = Some object }) entry) ∷ held_of (map (with_state id object) entries) ≡ held_one entry ∷ held_of entries
    at true rest = ap (λ list. held_one entry ∷ list) rest
    at false rest = ap (λ list. held_one entry ∷ list) rest

put_generations_kind : (own : StateKind) (object : List ℕ) (set now : Set) → put_kind own object set ≡ done now → generations_in now ≡ generations_in set
put_generations_kind (kind.Stream id blob) object set now put = at (is_some set.global) put
  where
    changed : Set
    changed = record set { entries = map (with_state id object) set.entries }

    known : (b : Bool) → cond b (done changed) (refused fault.Unknown) ≡ done now → generations_in now ≡ generations_in set
    known true is = subst (λ (it : Set). generations_in it ≡ generations_in set) (set_is changed now is) (stated_held id object set.entries)
    known false is = absurd (err_ok fault.Unknown now is)

    at : (b : Bool) → cond b (refused fault.Mixed) (cond (has_stream (entry_ids set.entries) id) (done changed) (refused fault.Unknown)) ≡ done now → generations_in now ≡ generations_in set
    at true is = absurd (err_ok fault.Mixed now is)
    at false is = known (has_stream (entry_ids set.entries) id) is
put_generations_kind (kind.Global shared parts) object set now put = at (has_states set.entries) put
  where
    changed : Set
    changed = record set { global = Some object }

    at : (b : Bool) → cond b (refused fault.Mixed) (done changed) ≡ done now → generations_in now ≡ generations_in set
    at true is = absurd (err_ok fault.Mixed now is)
    at false is = subst (λ (it : Set). generations_in it ≡ generations_in set) (set_is changed now is) refl
put_generations_kind kind.Legacy object set now put = absurd (err_ok fault.Legacy now put)

-- a state that is put changes no generation
pub put_generations : (state : State) (set now : Set) → put_into state set ≡ done now → generations_in now ≡ generations_in set
put_generations state set now put = put_generations_kind state.kind state.object set now put
