-- What a gate has in its keeping, and which state may go.
use Rattle.std.specs.Prelude.{◌≡◌, ℕ, ◌+◌, ◌==◌, List, [], ◌∷◌, ◌++◌, filter, find, if◌then◌else◌, Bool, true, false, ◌&&◌, not, nat_lt, All, Contains, Option, Some, option_map, slice_index, slice_set, replicate}
use Rattle.std.specs.List.{list_any}
use Rattle.state_gate.specs.Counts.{taken_from, without_own, without_all}
use Rattle.state_gate.specs.declared.pending.Lane.{Lane}
use Rattle.state_gate.specs.declared.pending.Lane.TheVariants.{Stream, Global}
use Rattle.state_gate.specs.declared.pending.Pending.{Pending}
use Rattle.state_gate.specs.declared.pending.Accepted.{Accepted}
use Rattle.state_gate.specs.declared.pending.Waiting.{Waiting}

pub record Content : Type 0 where
  -- the records that were accepted and are not committed, in order
  pub uncommitted : List Accepted
  -- the states that were accepted and not taken out, in order
  pub waiting : List Waiting
  -- how many records of each stream were accepted since the last state of the stream's lane
  pub since : List ℕ
  -- how many records of all streams were accepted since the last state of the lane of all
  pub since_all : ℕ

-- a state of one stream covers that stream's records, a state of all streams covers all records
abbrev pub covers : Lane → ℕ → Bool
covers Global stream = true
covers (Stream own) stream = own == stream

abbrev pub is_same_lane : Lane → Lane → Bool
is_same_lane Global Global = true
is_same_lane (Stream own) (Stream other) = own == other
is_same_lane _ _ = false

-- whether a state covers a record, and the record was accepted before it
abbrev pub is_before : Waiting → Accepted → Bool
is_before state accepted = nat_lt accepted.seq state.behind && covers state.pending.lane accepted.stream

-- all records that the state covers and that were accepted before it are committed
abbrev pub is_clear : List Accepted → Waiting → Bool
is_clear uncommitted state = not (list_any (is_before state) uncommitted)

-- the state that may go: the first, in order of acceptance, whose records are all committed
abbrev pub head_in : Content → Option Waiting
head_in content = find (is_clear content.uncommitted) content.waiting

abbrev pub head_of : Content → Option Pending
head_of content = option_map (λ state. state.pending) (head_in content)

-- the states without the first that passes
abbrev pub without_first : (Waiting → Bool) → List Waiting → List Waiting
without_first test [] = []
without_first test (state ∷ more) = if test state then more else state ∷ without_first test more

-- what is left when that state is taken out
abbrev pub without_head : Content → Content
without_head content = record content { waiting = without_first (is_clear content.uncommitted) content.waiting }

-- the state is the first of its lane
abbrev pub IsFirstOfLane : List Waiting → Waiting → Type 0
IsFirstOfLane waiting state = find (λ other. is_same_lane other.pending.lane state.pending.lane) waiting ≡ Some state

-- nothing for so many streams
abbrev pub nothing_for : ℕ → Content
nothing_for streams = record { uncommitted = []; waiting = []; since = replicate streams 0; since_all = 0 }

-- with a record behind the others
abbrev pub with_record : Content → ℕ → ℕ → Content
with_record content stream seq = record content {
  uncommitted = content.uncommitted ++ record { seq = seq; stream = stream } ∷ [];
  since = slice_set content.since stream (slice_index content.since stream + 1);
  since_all = content.since_all + 1;
}

-- the number of records since the last state of this lane
abbrev pub count_in : Content → Lane → ℕ
count_in content lane = taken_from content.since content.since_all lane

-- with a state behind the others, from which on the records of its lane are counted anew
abbrev pub with_state : Content → Waiting → Content
with_state content state = record content {
  waiting = content.waiting ++ state ∷ [];
  since = without_own content.since state.pending.lane;
  since_all = without_all content.since_all state.pending.lane;
}

-- the sequence is that of one of these
abbrev pub is_among : List ℕ → Accepted → Bool
is_among seqs accepted = list_any (λ seq. seq == accepted.seq) seqs

-- when these records are committed
abbrev pub with_committed : Content → List ℕ → Content
with_committed content seqs = record content { uncommitted = filter (λ accepted. not (is_among seqs accepted)) content.uncommitted }

abbrev pub AreDistinct : List ℕ → Type 0
AreDistinct [] = Unit {0}
AreDistinct (seq ∷ seqs) = (list_any (λ other. other == seq) seqs ≡ false) × AreDistinct seqs

-- uncommitted records of this stream, each once
pub record AreUncommitted (content : Content) (stream : ℕ) (seqs : List ℕ) : Type 0 where
  pub distinct : AreDistinct seqs
  pub are : All (λ seq. Contains content.uncommitted (record { seq = seq; stream = stream })) seqs
