-- Streams of bytes in memory: what they hold, and what a call does to it.
use Rattle.std.specs.Prelude.{◌≡◌, ℕ, ◌+◌, ◌-◌, ◌^◌, min, List, [], ◌++◌, length, take, drop}
use Rattle.outside_mem.specs.Calls.{Calls, call_made, first_calls}

-- what contracts see of a source
pub record SourceState : Type 0 where
  -- the bytes that are still to come
  pub left : List ℕ
  pub calls : Calls
  pub faults : ℕ

abbrev pub first_source : List ℕ → List ℕ → SourceState
first_source bytes fails = record { left = bytes; calls = first_calls fails; faults = 0 }

-- a count one higher; it stands still at its type's end
abbrev pub one_more : ℕ → ℕ
one_more count = min (count + 1) (2 ^ 64 - 1)

abbrev pub source_called : SourceState → SourceState
source_called source = record source { calls = call_made source.calls }

-- A read that succeeds gives all that is left, or as much as the room takes.
pub record GivesBytes (old : SourceState) (room now : List ℕ) (new : SourceState) (count : ℕ) : Type 0 where
  pub most : count ≡ min (length room) (length old.left)
  pub filled : now ≡ take count old.left ++ drop count room
  pub state : new ≡ record (source_called old) { left = drop count old.left }

abbrev pub source_failed : SourceState → SourceState
source_failed source = record (source_called source) { faults = one_more source.faults }

-- what contracts see of a sink
pub record SinkState : Type 0 where
  -- the bytes that were taken, in order
  pub bytes : List ℕ
  pub calls : Calls
  pub faults : ℕ

abbrev pub first_sink : List ℕ → SinkState
first_sink fails = record { bytes = []; calls = first_calls fails; faults = 0 }

abbrev pub sink_called : SinkState → SinkState
sink_called sink = record sink { calls = call_made sink.calls }

-- A write that succeeds takes the whole piece.
pub record TakesPiece (old : SinkState) (piece : List ℕ) (new : SinkState) (count : ℕ) : Type 0 where
  pub whole : count ≡ length piece
  pub state : new ≡ record (sink_called old) { bytes = old.bytes ++ piece }

abbrev pub sink_failed : SinkState → SinkState
sink_failed sink = record (sink_called sink) { faults = one_more sink.faults }
