-- What the beginning of an attempt, and a state that is put, do to the states of a set.
use Rattle.std.proofs.Common.{◌≡◌, ◌⊎◌, inl, inr, ℕ, List, [], ◌∷◌, ◌++◌, map, Option, None, Some, Bool, true, false, cond, refl, sym, ◌∙◌, ap, subst}
use Rattle.std.specs.Prelude.{filter, not, option_and_then, is_some, Result, Ok, Err, ◌==◌}
use Rattle.std.specs.List.{list_any}
use Rattle.std.proofs.lemmas.Bool.{false≢true}
use Rattle.basics.specs.declared.stream.StreamId.{StreamId}
use Rattle.stream_index.specs.Same.{is_same_stream}
use Rattle.stream_index.proofs.IndexLemmas.{Decides-stream}
use Rattle.airbyte_message.specs.Lanes.{Lane, one, all, lane_of}
use Rattle.airbyte_message.specs.State.{State}
use Rattle.airbyte_message.specs.declared.message.StateKind.{StateKind}
use Rattle.airbyte_message.specs.declared.message.StateKind.TheVariants as kind
use Rattle.outside.specs.declared.faults.StateFault.{StateFault}
use Rattle.outside.specs.declared.faults.StateFault.TheVariants as fault
use Rattle.state_kinds.specs.declared.entry.SavedEntry.{SavedEntry}
use Rattle.state_kinds.specs.Saved.{Saved, entry_of, state_of, entry_ids, has_states, has_stream}
use Rattle.state_kinds.specs.Changes.{Given, renewed_to, renewed, new_entry, added, is_changed, begun, generation_of, with_state, put_kind, put_into}
use Rattle.sync_rules.proofs.KindLemmas.{by_bool}
use Rattle.replay_rules.specs.Sources.{held_in}

-- of an entry, its state
abbrev pub state_in_entry : Option SavedEntry → Option (List ℕ)
state_in_entry found = option_and_then (λ entry. entry.state) found

-- the same, or nothing
abbrev pub IsSameOrNone : Option (List ℕ) → Option (List ℕ) → Type 0
IsSameOrNone before now = (now ≡ None) ⊎ (now ≡ before)

renewed_state : (entry : SavedEntry) (given : Option ℕ) → IsSameOrNone entry.state (renewed_to entry given).state
renewed_state entry None = inr refl
renewed_state entry (Some generation) = at (entry.generation == generation)
  where
    at : (b : Bool) → IsSameOrNone entry.state (cond b entry (record entry { generation = generation; state = None })).state
    at true = inr refl
    at false = inl refl

renewed_id : (entry : SavedEntry) (given : Option ℕ) → (renewed_to entry given).id ≡ entry.id
renewed_id entry None = refl
renewed_id entry (Some generation) = at (entry.generation == generation)
  where
    at : (b : Bool) → (cond b entry (record entry { generation = generation; state = None })).id ≡ entry.id
    at true = refl
    at false = refl

new_states : (id : StreamId) (pairs : Given) → state_in_entry (entry_of (map new_entry pairs) id) ≡ None
new_states id [] = refl
new_states id (pair ∷ pairs) = at (is_same_stream id pair.0) (new_states id pairs)
  where
    at : (b : Bool) → state_in_entry (entry_of (map new_entry pairs) id) ≡ None → state_in_entry (cond b (Some (new_entry pair)) (entry_of (map new_entry pairs) id)) ≡ None
    at true rest = refl
    at false rest = rest

begun_entries : (given : Given) (id : StreamId) (entries more : List SavedEntry) → state_in_entry (entry_of more id) ≡ None → IsSameOrNone (state_of entries id) (state_of (map (renewed given) entries ++ more) id)
begun_entries given id [] more none = inl none
begun_entries given id (entry ∷ entries) more none = at (is_same_stream id entry.id) refl (begun_entries given id entries more none)
  where
    own : is_same_stream id (renewed given entry).id ≡ is_same_stream id entry.id
    own = ap (is_same_stream id) (renewed_id entry (generation_of given entry.id))

    at : (b : Bool) → is_same_stream id entry.id ≡ b → IsSameOrNone (state_of entries id) (state_of (map (renewed given) entries ++ more) id) → IsSameOrNone (state_of (entry ∷ entries) id) (state_of (map (renewed given) (entry ∷ entries) ++ more) id)
    at true is rest = rw (own, is) (renewed_state entry (generation_of given entry.id))
    at false is rest = rw (own, is) rest

-- a beginning leaves a lane its state, or none
pub begun_held : (given : Given) (set : Saved) (lane : Lane) → IsSameOrNone (held_in set lane) (held_in (begun given set) lane)
begun_held given set (one id) = begun_entries given id set.entries (added given (entry_ids set.entries)) (new_states id (filter (λ pair. not (has_stream (entry_ids set.entries) pair.0)) given))
begun_held given set all = at (list_any (is_changed set.entries) given)
  where
    at : (b : Bool) → IsSameOrNone set.global (cond b None set.global)
    at true = inl refl
    at false = inr refl

-- ---- a state is put

stated_id : (id : StreamId) (object : List ℕ) (entry : SavedEntry) → (with_state id object entry).id ≡ entry.id
stated_id id object entry = at (is_same_stream id entry.id)
  where
    at : (b : Bool) → (cond b (record entry { state = Some object }) entry).id ≡ entry.id
    at true = refl
    at false = refl

-- of another stream the state stays; of this one it is the object, or stays
abbrev pub IsPutFor : StreamId → List ℕ → StreamId → Option (List ℕ) → Option (List ℕ) → Type 0
IsPutFor id object other before now = (now ≡ before) ⊎ ((other ≡ id) × (now ≡ Some object))

stated_state : (id : StreamId) (object : List ℕ) (other : StreamId) (entry : SavedEntry) → is_same_stream other entry.id ≡ true → IsPutFor id object other entry.state (with_state id object entry).state
stated_state id object other entry own = by_bool (is_same_stream id entry.id) (λ is. rw is (inr ((Decides-stream other entry.id).0 own ∙ sym ((Decides-stream id entry.id).0 is), refl))) (λ is. rw is (inl refl))

stated : (id : StreamId) (object : List ℕ) (other : StreamId) (entries : List SavedEntry) → IsPutFor id object other (state_of entries other) (state_of (map (with_state id object) entries) other)
stated id object other [] = inl refl
stated id object other (entry ∷ entries) = at (is_same_stream other entry.id) refl (stated id object other entries)
  where
    own : is_same_stream other (with_state id object entry).id ≡ is_same_stream other entry.id
    own = ap (is_same_stream other) (stated_id id object entry)

    at : (b : Bool) → is_same_stream other entry.id ≡ b → IsPutFor id object other (state_of entries other) (state_of (map (with_state id object) entries) other) → IsPutFor id object other (state_of (entry ∷ entries) other) (state_of (map (with_state id object) (entry ∷ entries)) other)
    at true is rest = rw (own, is) (stated_state id object other entry is)
    at false is rest = rw (own, is) rest

abbrev pub done : Saved → Result Saved StateFault
done set = Ok set

abbrev pub refused : StateFault → Result Saved StateFault
refused why = Err why

abbrev set_or : Saved → Result Saved StateFault → Saved
set_or set (Ok put) = put
set_or set (Err why) = set

abbrev is_done : Result Saved StateFault → Bool
is_done (Ok put) = true
is_done (Err why) = false

pub ok_is : (set other : Saved) → done set ≡ done other → set ≡ other
ok_is set other e = ap (set_or set) e

pub err_ok : (why : StateFault) (set : Saved) → refused why ≡ done set → ⊥
err_ok why set e = false≢true (ap is_done e)

-- a lane's state stays, or it is the lane of the state that is put, and has that
pub record PutHeld (state : State) (set now : Saved) (lane : Lane) : Type 0 where
  pub is : (held_in now lane ≡ held_in set lane) ⊎ ((lane_of state.kind ≡ Some lane) × (held_in now lane ≡ Some state.object))

put_held_kind : (own : StateKind) (object : List ℕ) (set now : Saved) (lane : Lane) → put_kind own object set ≡ Ok now → (held_in now lane ≡ held_in set lane) ⊎ ((lane_of own ≡ Some lane) × (held_in now lane ≡ Some object))
put_held_kind (kind.Stream id blob) object set now lane put = at (is_some set.global) put
  where
    changed : Saved
    changed = record set { entries = map (with_state id object) set.entries }

    of_lane : (lane : Lane) → (held_in changed lane ≡ held_in set lane) ⊎ ((Some (one id) ≡ Some lane) × (held_in changed lane ≡ Some object))
    of_lane all = inl refl
    of_lane (one other) = on (stated id object other set.entries)
      where
        on : IsPutFor id object other (state_of set.entries other) (state_of (map (with_state id object) set.entries) other) → (held_in changed (one other) ≡ held_in set (one other)) ⊎ ((Some (one id) ≡ Some (one other)) × (held_in changed (one other) ≡ Some object))
        on (inl stays) = inl stays
        on (inr new) = inr (ap (λ (it : StreamId). Some (one it)) (sym new.0), new.1)

    known : (b : Bool) → cond b (done changed) (refused fault.Unknown) ≡ done now → (held_in now lane ≡ held_in set lane) ⊎ ((Some (one id) ≡ Some lane) × (held_in now lane ≡ Some object))
    known true is = subst (λ (it : Saved). (held_in it lane ≡ held_in set lane) ⊎ ((Some (one id) ≡ Some lane) × (held_in it lane ≡ Some object))) (ok_is changed now is) (of_lane lane)
    known false is = absurd (err_ok fault.Unknown now is)

    at : (b : Bool) → cond b (refused fault.Mixed) (cond (has_stream (entry_ids set.entries) id) (done changed) (refused fault.Unknown)) ≡ done now → (held_in now lane ≡ held_in set lane) ⊎ ((Some (one id) ≡ Some lane) × (held_in now lane ≡ Some object))
    at true is = absurd (err_ok fault.Mixed now is)
    at false is = known (has_stream (entry_ids set.entries) id) is
put_held_kind (kind.Global shared parts) object set now lane put = at (has_states set.entries) put
  where
    changed : Saved
    changed = record set { global = Some object }

    of_lane : (lane : Lane) → (held_in changed lane ≡ held_in set lane) ⊎ ((Some all ≡ Some lane) × (held_in changed lane ≡ Some object))
    of_lane all = inr (refl, refl)
    of_lane (one other) = inl refl

    at : (b : Bool) → cond b (refused fault.Mixed) (done changed) ≡ done now → (held_in now lane ≡ held_in set lane) ⊎ ((Some all ≡ Some lane) × (held_in now lane ≡ Some object))
    at true is = absurd (err_ok fault.Mixed now is)
    at false is = subst (λ (it : Saved). (held_in it lane ≡ held_in set lane) ⊎ ((Some all ≡ Some lane) × (held_in it lane ≡ Some object))) (ok_is changed now is) (of_lane lane)
put_held_kind kind.Legacy object set now lane put = absurd (err_ok fault.Legacy now put)

pub put_held : (state : State) (set now : Saved) (lane : Lane) → put_into state set ≡ Ok now → PutHeld state set now lane
put_held state set now lane put = record { is = put_held_kind state.kind state.object set now lane put }
