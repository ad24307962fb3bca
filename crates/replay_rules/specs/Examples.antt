-- Attempts of sources that were worked by hand: which read on where they were started, and which do not.
use Rattle.std.specs.Prelude.{◌≡◌, ℕ, List, [], ◌∷◌, ◌++◌, ◌==◌, if◌then◌else◌, true, false, Option, None, Some}
use Rattle.basics.specs.declared.stream.StreamId.{StreamId}
use Rattle.outside.specs.declared.event.Event.{Event}
use Rattle.outside.specs.declared.event.Event.TheVariants as event
use Rattle.outside.specs.declared.event.Exit.TheVariants.{Code}
use Rattle.airbyte_message.specs.Lanes.{Lane, one, all}
use Rattle.airbyte_message.specs.declared.message.Message.{Message}
use Rattle.airbyte_message.specs.declared.message.Message.TheVariants as message
use Rattle.airbyte_message.specs.declared.message.StateKind.{StateKind}
use Rattle.airbyte_message.specs.declared.message.StateKind.TheVariants as kind
use Rattle.airbyte_message.specs.declared.message.TraceMsg.TheVariants as trace
use Rattle.airbyte_message.specs.declared.stream_status.StreamStatus.TheVariants.{Complete}
use Rattle.catalog.specs.declared.modes.DestMode.TheVariants.{AppendDedup}
use Rattle.catalog.specs.declared.stream.ConfStream.{ConfStream}
use Rattle.load_rules.specs.Examples.{a, b, configured}
use Rattle.load_rules.specs.Lines.{Reading}
use Rattle.state_kinds.specs.Saved.{Saved, nothing_saved}
use Rattle.state_kinds.specs.Changes.{begun}
use Rattle.sync_rules.specs.Examples.{held_a, held_all}
use Rattle.replay_rules.specs.Sources.{Body, Source, start_of}
use Rattle.replay_rules.specs.Replayed.{IsReplayedFrom}
use Rattle.replay_rules.specs.Sound.{BeginsUnopened, IsSound}
use Rattle.replay_rules.specs.Whole.{IsWhole}

-- What a text of one byte is: 1 and 2 records of `a` with this byte as data, 3 a state of `a`, 4 that `a` is complete, 5 a state of `a`,
-- 6 a state of all streams, 7 a record of `b`, 8 a state of all streams.
abbrev pub record_told : StreamId → ℕ → Option Message
record_told id byte = Some (message.Rec (record { id = id; body = byte ∷ []; emitted_at = 1; meta = None }))

abbrev pub state_told : StateKind → ℕ → Option Message
state_told own byte = Some (message.State (record { object = byte ∷ []; kind = own; source_count = None }))

abbrev pub told : ℕ → Option Message
told byte =
    if byte == 1 then record_told a 1
    else (if byte == 2 then record_told a 2
    else (if byte == 3 then state_told (kind.Stream a None) 3
    else (if byte == 4 then Some (message.Trace (trace.Status a Complete None))
    else (if byte == 5 then state_told (kind.Stream a None) 5
    else (if byte == 6 then state_told (kind.Global None []) 6
    else (if byte == 7 then record_told b 7
    else (if byte == 8 then state_told (kind.Global None []) 8 else None)))))))

abbrev pub tell : Reading
tell [] = None
tell (byte ∷ rest) = told byte

abbrev pub body : StreamId → ℕ → Body
body id byte = record { id = id; body = byte ∷ [] }

-- two bodies of `a`, the state 3 behind the first and the state 5 behind the second
abbrev pub list_of_a : Lane → List Body
list_of_a (one id) = body a 1 ∷ body a 2 ∷ []
list_of_a all = []

abbrev pub place_in_a : List ℕ → ℕ
place_in_a [] = 0
place_in_a (byte ∷ rest) = if byte == 3 then 1 else (if byte == 5 then 2 else 0)

abbrev pub source_a : Source
source_a = record { is_global = false; list = list_of_a; place = place_in_a }

-- bodies of `a`, `b` and `a`, the state 6 behind the second and the state 8 behind the last
abbrev pub list_of_both : Lane → List Body
list_of_both (one id) = []
list_of_both all = body a 1 ∷ body b 7 ∷ body a 2 ∷ []

abbrev pub place_in_both : List ℕ → ℕ
place_in_both [] = 0
place_in_both (byte ∷ rest) = if byte == 6 then 2 else (if byte == 8 then 3 else 0)

abbrev pub source_both : Source
source_both = record { is_global = true; list = list_of_both; place = place_in_both }

abbrev pub source_none : Source
source_none = record { is_global = false; list = λ lane. []; place = λ object. 0 }

abbrev pub lines : List ℕ → List Event
lines [] = []
lines (byte ∷ bytes) = event.ReadLine (byte ∷ []) ∷ lines bytes

abbrev pub ended : Option ℕ → List Event
ended None = event.ReadEnd ∷ event.Ended (record { source = None; dest = None }) ∷ []
ended (Some code) = event.ReadEnd ∷ event.Ended (record { source = Some (Code code); dest = None }) ∷ []

-- an attempt of `a` alone, or of both, that was started with this set and has done this
abbrev pub ReadsA : Saved → List Event → Type 0
ReadsA set events = IsReplayedFrom (a ∷ []) tell source_a set events

abbrev pub ReadsBoth : Saved → List Event → Type 0
ReadsBoth set events = IsReplayedFrom (a ∷ b ∷ []) tell source_both set events

abbrev pub dedup_a : ConfStream
dedup_a = record (configured a) { dest = AppendDedup }

pub record ReplaysAsWorked : Type 0 where
  -- where an attempt starts: at the first body, behind the saved state, and at the first body again where a beginning has dropped the state
  pub first : start_of source_a nothing_saved a ≡ 0
  pub behind : start_of source_a (held_a 0 (Some (3 ∷ []))) a ≡ 1
  pub dropped : start_of source_a (begun ((a, 1) ∷ []) (held_a 0 (Some (3 ∷ [])))) a ≡ 0
  pub kept : start_of source_a (begun ((a, 0) ∷ []) (held_a 0 (Some (3 ∷ [])))) a ≡ 1
  pub for_all : start_of source_both (held_all (6 ∷ [])) b ≡ 2
  -- a first attempt that dies behind its first state, and a second that goes on from there to the end
  pub dies : ReadsA (held_a 0 None) (lines (1 ∷ 3 ∷ []) ++ ended None)
  pub goes_on : ReadsA (held_a 0 (Some (3 ∷ []))) (lines (2 ∷ 5 ∷ 4 ∷ []) ++ ended (Some 0))
  -- a stream that restarts reads all of it in each attempt
  pub restarts : ReadsA (held_a 1 None) (lines (1 ∷ 3 ∷ 2 ∷ 5 ∷ 4 ∷ []) ++ ended (Some 0))
  -- a state may come later than its place, a record being given again behind it, but not before its place
  pub later : ReadsA (held_a 0 None) (lines (1 ∷ 2 ∷ 3 ∷ []))
  pub too_early : ¬ ReadsA (held_a 0 None) (lines (1 ∷ 5 ∷ []))
  -- a body is left out; or the last, where the source says that all was read; it may be left out where the source was cut off
  pub skips : ¬ ReadsA (held_a 0 None) (lines (2 ∷ []))
  pub starts_again : ¬ ReadsA (held_a 0 (Some (3 ∷ []))) (lines (1 ∷ []))
  pub lacks : ¬ ReadsA (held_a 0 None) (lines (1 ∷ 3 ∷ 4 ∷ []) ++ ended (Some 0))
  pub cut_off : ReadsA (held_a 0 None) (lines (1 ∷ 3 ∷ 4 ∷ []) ++ ended (Some 1))
  -- a state of all streams is none of this source
  pub other_kind : ¬ ReadsA (held_a 0 None) (lines (6 ∷ []))
  -- a source with states of all streams: it stops behind the first state, and goes on from there
  pub stops : ReadsBoth nothing_saved (lines (1 ∷ 7 ∷ 6 ∷ []) ++ ended None)
  pub goes_on_for_all : ReadsBoth (held_all (6 ∷ [])) (lines (2 ∷ 8 ∷ []) ++ ended (Some 0))
  pub in_order : ¬ ReadsBoth nothing_saved (lines (7 ∷ 1 ∷ []))
  -- nothing has happened; a store that did something before the first attempt
  pub empty : (source : Source) → IsSound (dedup_a ∷ []) tell source []
  pub opened : ¬ BeginsUnopened (event.Opened 1 1 [] ∷ [])
  -- of a source that has nothing, nothing is seen
  pub none_seen : IsWhole source_none dedup_a []
