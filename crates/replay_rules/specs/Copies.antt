-- The copies of a source's bodies that attempts have committed, and which of them comes later.
use Rattle.std.specs.Prelude.{◌≡◌, ◌⊎◌, ℕ, ◌+◌, ◌<◌, List, map, filter, slice_get, Contains, Some}
use Rattle.std.specs.List.{AllByRecursion}
use Rattle.basics.specs.declared.stream.StreamId.{StreamId}
use Rattle.outside.specs.declared.event.Event.{Event}
use Rattle.outside.specs.declared.event.Event.TheVariants as event
use Rattle.outside.specs.declared.event.RawRow.{RawRow}
use Rattle.catalog.specs.Reading.{ids_of}
use Rattle.catalog.specs.declared.stream.ConfStream.{ConfStream}
use Rattle.load_rules.specs.Lines.{Reading}
use Rattle.load_rules.specs.Taken.{Entry, entries, covers}
use Rattle.load_rules.specs.Loads.{Load, loads}
use Rattle.load_rules.specs.Rows.{IsRowOf}
use Rattle.load_rules.specs.Attempts.{Attempt, attempts, passed}
use Rattle.state_kinds.specs.Saved.{Saved}
use Rattle.state_kinds.specs.Texts.{states_text}
use Rattle.state_kinds.specs.Writable.{IsWritable}
use Rattle.replay_rules.specs.Sources.{Body, Source, lane_for, start_of}

-- an attempt, and where it starts in a stream's list
pub record Try : Type 0 where
  pub attempt : Attempt
  pub start : ℕ

-- it starts where the states tell that it was started with
pub record IsTry (ids : List StreamId) (source : Source) (id : StreamId) (one_try : Try) : Type 0 where
  pub set : Saved
  pub writable : IsWritable set
  pub states : one_try.attempt.plan.states ≡ states_text set ids
  pub start : one_try.start ≡ start_of source set id

-- The row stands committed in the attempt, as that of a record that the attempt read, and this is the place of the record in the
-- stream's list: so many of its lane's records were read before it, from the attempt's start on.
pub record IsCopyOf (streams : List ConfStream) (read : Reading) (source : Source) (id : StreamId) (one_try : Try) (place : ℕ) (row : RawRow) : Type 0 where
  pub load : Load
  pub in_attempt : Contains (loads one_try.attempt.events) load
  pub number : ℕ
  pub rows : List RawRow
  pub commit : Contains load.events (event.Committed number rows)
  pub among : Contains rows row
  pub entry : Entry
  pub is : IsRowOf streams load.opening number entry row
  pub before : ℕ
  pub stands : slice_get (filter (λ entry. covers (lane_for source id) entry.content.id) (entries (passed (ids_of streams) read one_try.attempt.events))) before ≡ Some entry
  pub place_is : place ≡ one_try.start + before

pub record IsCopy (streams : List ConfStream) (read : Reading) (source : Source) (id : StreamId) (tries : List Try) (place : ℕ) (row : RawRow) : Type 0 where
  pub one_try : Try
  pub among : Contains tries one_try
  pub copy : IsCopyOf streams read source id one_try place row

-- by load, then by sequence
abbrev pub Follows : RawRow → RawRow → Type 0
Follows row other = (other.load < row.load) ⊎ ((other.load ≡ row.load) × (other.seq < row.seq))

-- A copy of the body at this place that follows every copy of every body before it. (So of two bodies of one key and one cursor a
-- copy of the later one wins over all copies of the earlier.)
pub record IsLatest (streams : List ConfStream) (read : Reading) (source : Source) (id : StreamId) (tries : List Try) (place : ℕ) (row : RawRow) : Type 0 where
  pub copy : IsCopy streams read source id tries place row
  pub follows : (earlier : ℕ) (other : RawRow) → IsCopy streams read source id tries earlier other → earlier < place → Follows row other

-- the attempts of the trace, each with where it starts, and a latest copy for each place before this one
pub record HasLatest (streams : List ConfStream) (read : Reading) (source : Source) (id : StreamId) (trace : List Event) (next : ℕ) : Type 0 where
  pub tries : List Try
  pub are : map (λ one_try. one_try.attempt) tries ≡ attempts trace
  pub each : AllByRecursion (IsTry (ids_of streams) source id) tries
  pub latest : (place : ℕ) → place < next → (row : RawRow) × IsLatest streams read source id tries place row

-- a row of a stream that an attempt has committed is a copy of a body of the stream, which the source's list has at the copy's place
pub record ComesFrom (streams : List ConfStream) (read : Reading) (source : Source) (id : StreamId) (one_try : Try) (row : RawRow) : Type 0 where
  pub place : ℕ
  pub body : Body
  pub listed : slice_get (source.list (lane_for source id)) place ≡ Some body
  pub own : body.id ≡ id
  pub same : row.body ≡ body.body
  pub copy : IsCopyOf streams read source id one_try place row

-- a commit of rows of this stream, by the stream's number
pub record IsCommitOf (streams : List ConfStream) (id : StreamId) (attempt : Attempt) (rows : List RawRow) : Type 0 where
  pub load : Load
  pub in_attempt : Contains (loads attempt.events) load
  pub number : ℕ
  pub commit : Contains load.events (event.Committed number rows)
  pub stream : ConfStream
  pub configured : slice_get streams number ≡ Some stream
  pub of : stream.id ≡ id

-- the attempts of the trace, each with where it starts: every row of the stream that they have committed is a copy
pub record HasCopies (streams : List ConfStream) (read : Reading) (source : Source) (id : StreamId) (trace : List Event) : Type 0 where
  pub tries : List Try
  pub are : map (λ one_try. one_try.attempt) tries ≡ attempts trace
  pub each : AllByRecursion (IsTry (ids_of streams) source id) tries
  pub copies : (one_try : Try) (rows : List RawRow) (row : RawRow) → Contains tries one_try → IsCommitOf streams id one_try.attempt rows → Contains rows row → ComesFrom streams read source id one_try row
