-- What a line of a source breaches, behind those that were read before it in its attempt.
use Rattle.std.specs.Prelude.{◌≡◌, ℕ, List, [], ◌==◌, length, nat_lt, Bool, false, ◌||◌, is_some, if◌then◌else◌, Option, None, Some}
use Rattle.std.specs.List.{list_any}
use Rattle.basics.specs.declared.limits.TheConstants.{LONGEST_LINE}
use Rattle.basics.specs.declared.stream.StreamId.{StreamId}
use Rattle.outside.specs.declared.faults.Breach.{Breach}
use Rattle.outside.specs.declared.faults.Breach.TheVariants as breach
use Rattle.airbyte_message.specs.Lanes.{one, all}
use Rattle.airbyte_message.specs.State.{State}
use Rattle.airbyte_message.specs.declared.message.Message.{Message}
use Rattle.airbyte_message.specs.declared.message.Message.TheVariants as message
use Rattle.airbyte_message.specs.declared.message.StateKind.{StateKind}
use Rattle.airbyte_message.specs.declared.message.StateKind.TheVariants as kind
use Rattle.load_rules.specs.Prefixes.{EachFits}
use Rattle.load_rules.specs.Lines.{Line, state_in, is_known}
use Rattle.load_rules.specs.Taken.{since}
use Rattle.state_kinds.specs.Saved.{Saved, has_states}
use Rattle.state_kinds.specs.Store.{is_stream_kind, is_global_kind}

abbrev pub is_state : (StateKind → Bool) → Option State → Bool
is_state test None = false
is_state test (Some state) = test state.kind

-- the saved set has a state of a stream, or one of these lines is one; and the same of a state of all streams
abbrev pub has_stream_state : Saved → List Line → Bool
has_stream_state set lines = has_states set.entries || list_any (λ line. is_state is_stream_kind (state_in line.found)) lines

abbrev pub has_global_state : Saved → List Line → Bool
has_global_state set lines = is_some set.global || list_any (λ line. is_state is_global_kind (state_in line.found)) lines

-- the count that a state tells, where it tells one, is the number of the covered records behind the lane's state before it
abbrev pub miscount : Option ℕ → ℕ → Option Breach
miscount None counted = None
miscount (Some said) counted = if said == counted then None else Some (breach.Miscount said counted)

-- A state without a kind; one of the other kind than the saved set's states or an earlier one; one of a stream that is not
-- configured; one with a wrong count: the first of these.
abbrev pub breach_of_state : List StreamId → Saved → List Line → Option ℕ → StateKind → Option Breach
breach_of_state ids set before count kind.Legacy = Some breach.Legacy
breach_of_state ids set before count (kind.Stream id blob) =
    if has_global_state set before then Some breach.Mixed
    else (if is_known ids id then miscount count (since (one id) before) else Some breach.UnknownStream)
breach_of_state ids set before count (kind.Global shared streams) =
    if has_stream_state set before then Some breach.Mixed else miscount count (since all before)

-- A record of a stream that is not configured is a breach; a status of one is none.
abbrev pub breach_of_message : List StreamId → Saved → List Line → Option Message → Option Breach
breach_of_message ids set before (Some (message.Rec content)) = if is_known ids content.id then None else Some breach.UnknownStream
breach_of_message ids set before (Some (message.State state)) = breach_of_state ids set before state.source_count state.kind
breach_of_message ids set before found = None

-- The attempt was started with this set, and these lines were read before. A line above the length limit is one whatever it says.
abbrev pub breach_of : List StreamId → Saved → List Line → Line → Option Breach
breach_of ids set before line = if nat_lt LONGEST_LINE (length line.text) then Some breach.TooLong else breach_of_message ids set before line.found

-- none of the lines is a breach
abbrev pub AreUnbroken : List StreamId → Saved → List Line → Type 0
AreUnbroken ids set lines = EachFits (λ before line. breach_of ids set before line ≡ None) [] lines
