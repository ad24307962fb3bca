-- What contracts see of a feed over a source.
use Rattle.std.specs.Prelude.{◌≡◌, ℕ, List, Option, None, Some, Result, Ok, Err}
use Rattle.json_fields.specs.Answer.{IsOnly}
use Rattle.outside.specs.declared.status.Status.{Status}
use Rattle.outside.specs.Feed.{FeedSeen, Left}
use Rattle.catalog.specs.declared.stream.ConfStream.{ConfStream}
use Rattle.source_lines.specs.Begins.{BeginsAs}
use Rattle.source_lines.specs.Giving.{MayEnd, MayGiveRound, MayGiveStreams, Round, first_round}
use Rattle.source_lines.specs.Sources.{Listed, SourceSeen}
use Rattle.source_lines.specs.declared.feed.Progress.{Progress}
use Rattle.source_lines.specs.declared.feed.Progress.TheVariants as progress

-- How far a feed is: it goes on with this round, or ended so.
pub data Reached (Start : Type 0) : Type 0 where
  Goes : Round Start → Reached Start
  Ended : Status → Reached Start

-- For private clauses: the same of what the feed holds.
abbrev pub reached_by : {Start Rows : Type 0} → Progress Start Rows → Reached Start
reached_by (progress.Going round) = Goes round
reached_by (progress.Ended why) = Ended why

-- What contracts see of a feed over a source: the source, the moment of its lines, in milliseconds since 1970, and how far it is.
pub record SourceFeedSeen (Source Start : Type 0) : Type 0 where
  pub source : Source
  pub moment : ℕ
  pub reached : Reached Start

-- how it ended, where it did
abbrev pub ended_as : {Start : Type 0} → Reached Start → Option Status
ended_as (Goes round) = None
ended_as (Ended why) = Some why

-- what is seen of every feed
abbrev pub feed_seen : {Start : Type 0} → SourceSeen → Reached Start → FeedSeen
feed_seen source reached = record { ended = ended_as reached; faults = source.faults }

-- what it may still give
abbrev pub MayGiveFrom : {Start : Type 0} → (ℕ → ConfStream → Start → Result Listed Status → Type 0) → ℕ → Reached Start → Left → Type 0
MayGiveFrom Opens moment (Goes round) left = MayGiveRound Opens moment round left
MayGiveFrom Opens moment (Ended why) left = MayEnd why left

-- The texts say these streams and starts alone, and the lines are those of them.
pub record BeginsLines {Start : Type 0} (Begins : Result (List ConfStream × List Start) Status → Type 0) (Opens : ℕ → ConfStream → Start → Result Listed Status → Type 0) (moment : ℕ) (left : Left) : Type 0 where
  pub streams : List ConfStream
  pub starts : List Start
  pub read : IsOnly Begins (Ok (streams, starts))
  pub gives : MayGiveStreams Opens moment 0 streams starts left

-- what a feed may begin with, by what the texts say
abbrev pub MayBeginBy : {Start : Type 0} → (Result (List ConfStream × List Start) Status → Type 0) → (ℕ → ConfStream → Start → Result Listed Status → Type 0) → ℕ → Result Left Status → Type 0
MayBeginBy Begins Opens moment (Ok left) = BeginsLines Begins Opens moment left
MayBeginBy Begins Opens moment (Err why) = IsOnly Begins (Err why)

-- the same of a source
abbrev pub MayBeginFrom : {Start : Type 0} → (ConfStream → Option (List ℕ) → Start → Type 0) → SourceSeen → (ℕ → ConfStream → Start → Result Listed Status → Type 0) → ℕ → List ℕ → List ℕ → Result Left Status → Type 0
MayBeginFrom Starts source Opens moment catalog states found = MayBeginBy (BeginsAs Starts source.is_known catalog states) Opens moment found

-- A feed began: it goes on before the first of the streams that the texts say, each with its start.
pub record BeginsWith {Start : Type 0} (Begins : Result (List ConfStream × List Start) Status → Type 0) (reached : Reached Start) : Type 0 where
  pub streams : List ConfStream
  pub starts : List Start
  pub read : IsOnly Begins (Ok (streams, starts))
  pub goes : reached ≡ Goes (first_round streams starts)
