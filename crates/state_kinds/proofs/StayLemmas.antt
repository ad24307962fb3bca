-- A set that can be written stays so.
use Rattle.std.proofs.Common.{◌≡◌, ℕ, zero, suc, List, [], ◌∷◌, ◌++◌, Option, None, Some, Result, Ok, Err, Bool, true, false, cond, ◌||◌, refl, sym, ◌∙◌, ap, subst, arith, ◌≤◌, ◌==◌, map, filter, find, not, slice_get, is_some, option_map, append_assoc, append-nil}
use Rattle.std.specs.List.{AllByRecursion, list_any}
use Rattle.basics.specs.declared.limits.TheConstants.{GREATEST_GENERATION}
use Rattle.basics.specs.declared.stream.StreamId.{StreamId}
use Rattle.stream_index.specs.Distinct.{AreDistinct}
use Rattle.stream_index.specs.Same.{is_same_stream}
use Rattle.stream_index.proofs.DistinctLemmas.{distinct_more}
use Rattle.stream_index.proofs.IndexLemmas.{Decides-stream, list_any-at}
use Rattle.outside.specs.declared.faults.StateFault.{StateFault}
use Rattle.outside.specs.declared.faults.StateFault.TheVariants as fault
use Rattle.airbyte_message.specs.Lanes.{Lane, all, lane_of, one}
use Rattle.airbyte_message.specs.State.{State}
use Rattle.airbyte_message.specs.States.{IsState}
use Rattle.airbyte_message.specs.declared.message.StateKind.{StateKind}
use Rattle.airbyte_message.specs.declared.message.StateKind.TheVariants as kind
use Rattle.state_kinds.specs.declared.entry.SavedEntry.{SavedEntry}
use Rattle.state_kinds.specs.Saved.{Saved, IsSaved, entry_ids, has_states, has_stream, nothing_saved}
use Rattle.state_kinds.specs.Changes.{Given, added, begun, generation_of, is_changed, new_entry, put_global, put_into, put_kind, put_stream, renewed, renewed_to, with_state}
use Rattle.state_kinds.specs.Writable.{AreWritable, IsObjectOfLane, IsOptionalObject, IsWritable, IsWritableEntry, IsWritableGiven, IsWritableState, SetsStayWritable}
use Rattle.state_kinds.proofs.FindLemmas.{None-is_Some, absent_append, by_cases, one_value}
use Rattle.state_kinds.proofs.BeginLemmas.{global_kept, ids_append, new_stateless, renewed_ids, renewed_stateless}
use Rattle.state_kinds.proofs.PutLemmas.{stated, stated_ids}

-- ---- streams stand once

tail_distinct : (id : StreamId) (ids : List StreamId) → AreDistinct (id ∷ ids) → AreDistinct ids
tail_distinct id ids d = λ i j x p q. let e : suc i ≡ suc j = d (suc i) (suc j) x p q in omega arith

head_absent : (id : StreamId) (ids : List StreamId) → AreDistinct (id ∷ ids) → (p : ℕ) → ¬ (slice_get ids p ≡ Some id)
head_absent id ids d = λ p there. let e : suc p ≡ 0 = d (suc p) 0 id there refl in absurd (omega arith)

abbrev pub pair_ids : Given → List StreamId
pair_ids given = map (λ pair. pair.0) given

abbrev pub Absent : List StreamId → StreamId → Type 0
Absent ids id = (p : ℕ) → ¬ (slice_get ids p ≡ Some id)

-- those that are not among the first do not stand in the list so far
abbrev pub AreFresh : List StreamId → List StreamId → Given → Type 0
AreFresh base now given = AllByRecursion (λ pair. has_stream base pair.0 ≡ false → Absent now pair.0) given

absent_one : (id other : StreamId) → ¬ (Some other ≡ Some id) → Absent (id ∷ []) other
absent_one id other differs = λ p at. by_place p at
  where
    by_place : (p : ℕ) → ¬ (slice_get (id ∷ []) p ≡ Some other)
    by_place zero at = differs (sym at)
    by_place (suc p) at = None-is_Some other at

fresher : (base now : List StreamId) (id : StreamId) (given : Given) → AreFresh base now given → Absent (pair_ids given) id → AreFresh base (now ++ id ∷ []) given
fresher base now id [] fresh none = tt
fresher base now id (pair ∷ given) fresh none = (
  λ new. absent_append now (id ∷ []) pair.0 (fresh.0 new) (absent_one id pair.0 (none 0)),
  fresher base now id given fresh.1 (λ p there. none (suc p) there),
)

grown : (base now : List StreamId) (given : Given) → AreDistinct now → AreDistinct (pair_ids given) → AreFresh base now given → AreDistinct (now ++ entry_ids (map new_entry (filter (λ pair. not (has_stream base pair.0)) given)))
grown base now [] distinct once fresh = subst (λ (ids : List StreamId). AreDistinct ids) (sym (append-nil now)) distinct
grown base now (pair ∷ given) distinct once fresh = by_cases (has_stream base pair.0)
    (λ e. subst (λ (b : Bool). AreDistinct (now ++ entry_ids (map new_entry (cond (not b) (pair ∷ filter (λ it. not (has_stream base it.0)) given) (filter (λ it. not (has_stream base it.0)) given))))) (sym e)
    (grown base now given distinct (tail_distinct pair.0 (pair_ids given) once) fresh.1))
    (λ e. subst (λ (b : Bool). AreDistinct (now ++ entry_ids (map new_entry (cond (not b) (pair ∷ filter (λ it. not (has_stream base it.0)) given) (filter (λ it. not (has_stream base it.0)) given))))) (sym e)
    (subst (λ (ids : List StreamId). AreDistinct ids) (append_assoc now (pair.0 ∷ []) (entry_ids (map new_entry (filter (λ it. not (has_stream base it.0)) given))))
    (grown base (now ++ pair.0 ∷ []) given (distinct_more now pair.0 distinct (fresh.0 e)) (tail_distinct pair.0 (pair_ids given) once)
    (fresher base now pair.0 given fresh.1 (head_absent pair.0 (pair_ids given) once)))))

absent_of : (ids : List StreamId) (id : StreamId) → has_stream ids id ≡ false → Absent ids id
absent_of ids id none = λ p at. let h : true ≡ false = sym (list_any-at (is_same_stream id) ids p id at ((Decides-stream id id).1 refl)) ∙ none in cc

all_fresh : (base : List StreamId) (given : Given) → AreFresh base base given
all_fresh base [] = tt
all_fresh base (pair ∷ given) = (absent_of base pair.0, all_fresh base given)

begun_ids : (given : Given) (set : Saved) → AreDistinct (pair_ids given) → AreDistinct (entry_ids set.entries) → AreDistinct (entry_ids (begun given set).entries)
begun_ids given set once distinct =
    let base = entry_ids set.entries in
    subst (λ (ids : List StreamId). AreDistinct ids)
    (sym (ids_append (map (renewed given) set.entries) (added given base) ∙ ap (λ (ids : List StreamId). ids ++ entry_ids (added given base)) (renewed_ids given set.entries)))
    (grown base base given distinct once (all_fresh base given))

-- ---- states are of one kind

states_none : (front back : List SavedEntry) → has_states front ≡ false → has_states back ≡ false → has_states (front ++ back) ≡ false
states_none [] back none rest = rest
states_none (entry ∷ front) back none rest = at (is_some entry.state) none (λ e. states_none front back e rest)
  where
    at : (b : Bool) → (b || has_states front) ≡ false → (has_states front ≡ false → has_states (front ++ back) ≡ false) → (b || has_states (front ++ back)) ≡ false
    at true e onward = e
    at false e onward = onward e

begun_one_kind : (given : Given) (set : Saved) → IsSaved set → is_some (begun given set).global ≡ true → has_states (begun given set).entries ≡ false
begun_one_kind given set saved some =
    states_none (map (renewed given) set.entries) (added given (entry_ids set.entries))
    (renewed_stateless given set.entries (saved.one_kind (global_kept (list_any (is_changed set.entries) given) set.global some)))
    (new_stateless (filter (λ pair. not (has_stream (entry_ids set.entries) pair.0)) given))

-- ---- each entry can be written

abbrev pub IsWithin : Option ℕ → Type 0
IsWithin None = Unit {0}
IsWithin (Some generation) = generation ≤ GREATEST_GENERATION

found_within : (given : Given) (id : StreamId) → AllByRecursion IsWritableGiven given → IsWithin (generation_of given id)
found_within [] id well = tt
found_within (pair ∷ given) id well = at (is_same_stream id pair.0) (found_within given id well.1)
  where
    at : (b : Bool) → IsWithin (generation_of given id) → IsWithin (option_map (λ it. it.1) (cond b (Some pair) (find (λ it. is_same_stream id it.0) given)))
    at true rest = well.0.generation
    at false rest = rest

renewed_well : (entry : SavedEntry) (generation : Option ℕ) → IsWithin generation → IsWritableEntry entry → IsWritableEntry (renewed_to entry generation)
renewed_well entry None within well = well
renewed_well entry (Some generation) within well = at (entry.generation == generation)
  where
    at : (b : Bool) → IsWritableEntry (cond b entry (record entry { generation = generation; state = None }))
    at true = well
    at false = record { name = well.name; namespace = well.namespace; generation = within; state = tt }

all_renewed : (given : Given) (entries : List SavedEntry) → AllByRecursion IsWritableGiven given → AreWritable entries → AreWritable (map (renewed given) entries)
all_renewed given [] within well = tt
all_renewed given (entry ∷ entries) within well = (renewed_well entry (generation_of given entry.id) (found_within given entry.id within) well.0, all_renewed given entries within well.1)

all_new : (base : List StreamId) (given : Given) → AllByRecursion IsWritableGiven given → AreWritable (map new_entry (filter (λ pair. not (has_stream base pair.0)) given))
all_new base [] within = tt
all_new base (pair ∷ given) within = at (not (has_stream base pair.0)) (all_new base given within.1)
  where
    at : (b : Bool) → AreWritable (map new_entry (filter (λ it. not (has_stream base it.0)) given)) → AreWritable (map new_entry (cond b (pair ∷ filter (λ it. not (has_stream base it.0)) given) (filter (λ it. not (has_stream base it.0)) given)))
    at true rest = (record { name = within.0.name; namespace = within.0.namespace; generation = within.0.generation; state = tt }, rest)
    at false rest = rest

both_well : (front back : List SavedEntry) → AreWritable front → AreWritable back → AreWritable (front ++ back)
both_well [] back well rest = rest
both_well (entry ∷ front) back well rest = (well.0, both_well front back well.1 rest)

global_well : (b : Bool) (held : Option (List ℕ)) → IsOptionalObject all held → IsOptionalObject all (cond b None held)
global_well true held well = tt
global_well false held well = well

begins_well : (given : Given) (set : Saved) → AreDistinct (pair_ids given) → AllByRecursion IsWritableGiven given → IsWritable set → IsWritable (begun given set)
begins_well given set once within well = record {
  saved = record { distinct = begun_ids given set once well.saved.distinct; one_kind = begun_one_kind given set well.saved };
  entries = both_well (map (renewed given) set.entries) (added given (entry_ids set.entries)) (all_renewed given set.entries within well.entries) (all_new (entry_ids set.entries) given within);
  global = global_well (list_any (is_changed set.entries) given) set.global well.global;
}

-- ---- a state that is put

stated_well : (id : StreamId) (object : List ℕ) (entry : SavedEntry) → IsObjectOfLane (one id) object → IsWritableEntry entry → IsWritableEntry (with_state id object entry)
stated_well id object entry is well = by_cases (is_same_stream id entry.id) same other
  where
    same : is_same_stream id entry.id ≡ true → IsWritableEntry (cond (is_same_stream id entry.id) (stated entry object) entry)
    same e = subst (λ (b : Bool). IsWritableEntry (cond b (stated entry object) entry)) (sym e)
        (record { name = well.name; namespace = well.namespace; generation = well.generation; state = subst (λ (own : StreamId). IsObjectOfLane (one own) object) ((Decides-stream id entry.id).0 e) is })

    other : is_same_stream id entry.id ≡ false → IsWritableEntry (cond (is_same_stream id entry.id) (stated entry object) entry)
    other e = subst (λ (b : Bool). IsWritableEntry (cond b (stated entry object) entry)) (sym e) well

all_stated : (id : StreamId) (object : List ℕ) (entries : List SavedEntry) → IsObjectOfLane (one id) object → AreWritable entries → AreWritable (map (with_state id object) entries)
all_stated id object [] is well = tt
all_stated id object (entry ∷ entries) is well = (stated_well id object entry is well.0, all_stated id object entries is well.1)

none_ok : {A E : Type 0} {e : E} {a : A} → Err e ≡ Ok a → ⊥
none_ok h = cc

abbrev pub ok_set : Saved → Result Saved StateFault
ok_set set = Ok set

one_ok : {a b : Saved} → ok_set a ≡ ok_set b → a ≡ b
one_ok h = cc

none_some : (held : Option (List ℕ)) → is_some held ≡ false → (is_some held ≡ true → ⊥)
none_some held none some = let h : true ≡ false = sym some ∙ none in cc

abbrev pub stated_set : StreamId → List ℕ → Saved → Saved
stated_set id object set = record set { entries = map (with_state id object) set.entries }

puts_stream : (id : StreamId) (object : List ℕ) (set now : Saved) → IsObjectOfLane (one id) object → IsWritable set → put_stream id object set ≡ Ok now → IsWritable now
puts_stream id object set now is well put = by_cases (is_some set.global) mixed alone
  where
    mixed : is_some set.global ≡ true → IsWritable now
    mixed e = absurd (none_ok (sym (ap (λ (b : Bool). cond b (Err fault.Mixed) (cond (has_stream (entry_ids set.entries) id) (Ok (stated_set id object set)) (Err fault.Unknown))) e) ∙ put))

    made : is_some set.global ≡ false → IsWritable (stated_set id object set)
    made none = record {
      saved = record {
        distinct = subst (λ (ids : List StreamId). AreDistinct ids) (sym (stated_ids id object set.entries)) well.saved.distinct;
        one_kind = λ some. absurd (none_some set.global none some);
      };
      entries = all_stated id object set.entries is well.entries;
      global = well.global;
    }

    known : is_some set.global ≡ false → cond (has_stream (entry_ids set.entries) id) (Ok (stated_set id object set)) (Err fault.Unknown) ≡ Ok now → IsWritable now
    known none e = by_cases (has_stream (entry_ids set.entries) id)
        (λ has. subst IsWritable (one_ok (sym (ap (λ (b : Bool). cond b (Ok (stated_set id object set)) (Err fault.Unknown)) has) ∙ e)) (made none))
        (λ lacks. absurd (none_ok (sym (ap (λ (b : Bool). cond b (Ok (stated_set id object set)) (Err fault.Unknown)) lacks) ∙ e)))

    alone : is_some set.global ≡ false → IsWritable now
    alone e = known e (sym (ap (λ (b : Bool). cond b (Err fault.Mixed) (cond (has_stream (entry_ids set.entries) id) (Ok (stated_set id object set)) (Err fault.Unknown))) e) ∙ put)

puts_global : (object : List ℕ) (set now : Saved) → IsObjectOfLane all object → IsWritable set → put_global object set ≡ Ok now → IsWritable now
puts_global object set now is well put = by_cases (has_states set.entries)
    (λ e. absurd (none_ok (sym (ap (λ (b : Bool). cond b (Err fault.Mixed) (Ok (record set { global = Some object }))) e) ∙ put)))
    (λ e. subst IsWritable (one_ok (sym (ap (λ (b : Bool). cond b (Err fault.Mixed) (Ok (record set { global = Some object }))) e) ∙ put))
    (record { saved = record { distinct = well.saved.distinct; one_kind = λ some. e }; entries = well.entries; global = is }))

puts_kind : (state : State) (own : StateKind) (set now : Saved) → state.kind ≡ own → IsWritableState state → IsWritable set → put_kind own state.object set ≡ Ok now → IsWritable now
puts_kind state (kind.Stream id blob) set now at right well put =
    puts_stream id state.object set now (record { value = right.value; state = state; is = right.is; of = ap lane_of at }) well put
puts_kind state (kind.Global shared streams) set now at right well put =
    puts_global state.object set now (record { value = right.value; state = state; is = right.is; of = ap lane_of at }) well put
puts_kind state kind.Legacy set now at right well put = absurd (none_ok put)

nothing_distinct : AreDistinct {A = StreamId} []
nothing_distinct i j id p q = absurd (None-is_Some id p)

pub sets_stay : SetsStayWritable
sets_stay = record {
  nothing = record { saved = record { distinct = nothing_distinct; one_kind = λ some. refl }; entries = tt; global = tt };
  begins = begins_well;
  puts = λ state set now right well put. puts_kind state state.kind set now refl right well put;
}
