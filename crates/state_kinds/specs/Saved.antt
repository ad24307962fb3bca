-- A set of saved states as contracts see it: the streams in the order in which they first came, each with its generation and
-- perhaps its state, and perhaps a state of all streams. A state is the text of its object.
use Rattle.std.specs.Prelude.{◌≡◌, ℕ, List, [], map, find, Option, None, Bool, true, false, is_some, option_and_then}
use Rattle.std.specs.List.{list_any}
use Rattle.stream_index.specs.Same.{is_same_stream}
use Rattle.stream_index.specs.Distinct.{AreDistinct}
use Rattle.basics.specs.declared.stream.StreamId.{StreamId}
use Rattle.state_kinds.specs.declared.entry.SavedEntry.{SavedEntry}

pub record Saved : Type 0 where
  pub entries : List SavedEntry
  pub global : Option (List ℕ)

abbrev pub nothing_saved : Saved
nothing_saved = record { entries = []; global = None }

-- the ids of entries, in order
abbrev pub entry_ids : List SavedEntry → List StreamId
entry_ids entries = map (λ entry. entry.id) entries

-- whether a stream is among these
abbrev pub has_stream : List StreamId → StreamId → Bool
has_stream ids id = list_any (is_same_stream id) ids

-- the entry of a stream
abbrev pub entry_of : List SavedEntry → StreamId → Option SavedEntry
entry_of entries id = find (λ entry. is_same_stream id entry.id) entries

-- the state of a stream
abbrev pub state_of : List SavedEntry → StreamId → Option (List ℕ)
state_of entries id = option_and_then (λ entry. entry.state) (entry_of entries id)

-- whether a stream has a state
abbrev pub has_states : List SavedEntry → Bool
has_states entries = list_any (λ entry. is_some entry.state) entries

-- What every set keeps: each stream stands once, and states are of one kind.
pub record IsSaved (set : Saved) : Type 0 where
  pub distinct : AreDistinct (entry_ids set.entries)
  pub one_kind : is_some set.global ≡ true → has_states set.entries ≡ false

-- For private clauses: the index that has the streams of entries, each once.
pub record IsIndexOf (entries : List SavedEntry) (index : List StreamId) : Type 0 where
  pub ids : index ≡ entry_ids entries
  pub distinct : AreDistinct (entry_ids entries)

-- For private clauses: a set, the index that has its streams, and whether one of them has a state.
pub record IsKept (set : Saved) (index : List StreamId) (is_by_stream : Bool) : Type 0 where
  pub ids : index ≡ entry_ids set.entries
  pub by_stream : is_by_stream ≡ has_states set.entries
  pub saved : IsSaved set
