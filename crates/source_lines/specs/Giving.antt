-- What a feed over a source may give: the lines of its streams, one stream behind the other, up to the first that is refused.
use Rattle.std.specs.Prelude.{◌≡◌, ◌⊎◌, ℕ, ◌+◌, List, [], ◌∷◌, drop, Result, Ok, Err}
use Rattle.basics.specs.declared.stream.StreamId.{StreamId}
use Rattle.outside.specs.declared.status.Status.{Status}
use Rattle.outside.specs.declared.status.Status.TheVariants as status
use Rattle.outside.specs.Feed.{Left, anything, behind_line, nothing_left}
use Rattle.catalog.specs.declared.stream.ConfStream.{ConfStream}
use Rattle.source_lines.specs.Sources.{Listed}
use Rattle.source_lines.specs.Streams.{stream_lines}

-- the lines of a stream of these rows
abbrev pub listed_lines : ℕ → StreamId → Listed → List (List ℕ)
listed_lines moment id listed = stream_lines (record { id = id; moment = moment; every = listed.every }) listed.blob listed.rows

-- it has ended so, or nothing is said of it
abbrev pub MayEnd : Status → Left → Type 0
MayEnd why left = (left ≡ anything) ⊎ (left ≡ nothing_left why)

-- these lines one by one, and behind the last of them what may come there; behind each, nothing may be said of what comes
abbrev pub MayGiveLines : List (List ℕ) → (Left → Type 0) → Left → Type 0
MayGiveLines [] Behind left = Behind left
MayGiveLines (line ∷ lines) Behind left = (left ≡ anything) ⊎ ((rest : Left) × (left ≡ behind_line line rest) × MayGiveLines lines Behind rest)

-- A stream and those behind it: nothing is said of it, or it is refused, which ends the lines, or it has rows, and its lines come
-- before the others'.
pub data MayGiveStream (moment : ℕ) (id : StreamId) (Opens : Result Listed Status → Type 0) (Behind : Left → Type 0) (left : Left) : Type 0 where
  Untold : left ≡ anything → MayGiveStream moment id Opens Behind left
  Refused : (why : Status) → Opens (Err why) → left ≡ nothing_left why → MayGiveStream moment id Opens Behind left
  Opened : (listed : Listed) → Opens (Ok listed) → MayGiveLines (listed_lines moment id listed) Behind left → MayGiveStream moment id Opens Behind left

-- the streams that start at these places, the first of them with this number
abbrev pub MayGiveStreams : {Start : Type 0} → (ℕ → ConfStream → Start → Result Listed Status → Type 0) → ℕ → ℕ → List ConfStream → List Start → Left → Type 0
MayGiveStreams Opens moment number [] starts left = MayEnd status.Ok left
MayGiveStreams Opens moment number (stream ∷ streams) [] left = left ≡ anything
MayGiveStreams Opens moment number (stream ∷ streams) (start ∷ starts) left =
    MayGiveStream moment stream.id (Opens number stream start) (MayGiveStreams Opens moment (number + 1) streams starts) left

-- What contracts see of a feed that goes on: the lines of the stream whose turn it is that are to come, the number of the next
-- stream, and all streams, with where each starts.
pub record Round (Start : Type 0) : Type 0 where
  pub lines : List (List ℕ)
  pub next : ℕ
  pub streams : List ConfStream
  pub starts : List Start

-- the lines of the stream whose turn it is, and then those of the streams behind it
abbrev pub MayGiveRound : {Start : Type 0} → (ℕ → ConfStream → Start → Result Listed Status → Type 0) → ℕ → Round Start → Left → Type 0
MayGiveRound Opens moment round left =
    MayGiveLines round.lines (MayGiveStreams Opens moment round.next (drop round.next round.streams) (drop round.next round.starts)) left

-- before the first of these streams
abbrev pub first_round : {Start : Type 0} → List ConfStream → List Start → Round Start
first_round streams starts = record { lines = []; next = 0; streams = streams; starts = starts }
