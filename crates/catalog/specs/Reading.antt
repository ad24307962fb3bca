-- What a text reads as: the streams of a configured catalog, or the first fault. The entries are judged in their order, and
-- their number before any of them.
use Rattle.std.specs.Prelude.{◌≡◌, ◌⊎◌, ℕ, ◌<◌, ◌≤◌, List, [], ◌∷◌, ◌++◌, length, map, Result, Ok, Err, MatchResult, codes}
use Rattle.json_span.specs.Members.{text_at}
use Rattle.json_span.specs.Elements.{AreElements}
use Rattle.json_span.specs.declared.Span.{Span}
use Rattle.json_fields.specs.Fields.{HasField, line_depth}
use Rattle.basics.specs.declared.limits.TheConstants.{MOST_STREAMS}
use Rattle.basics.specs.declared.stream.StreamId.{StreamId}
use Rattle.outside.specs.declared.faults.CatalogFault.{CatalogFault}
use Rattle.outside.specs.declared.faults.CatalogFault.TheVariants as fault
use Rattle.catalog.specs.declared.stream.ConfStream.{ConfStream}
use Rattle.catalog.specs.declared.entry.Entry.{Entry}
use Rattle.catalog.specs.Entry.{IsEntry}
use Rattle.catalog.specs.Checks.{judged}

abbrev pub Reading : Type 0
Reading = Result (List ConfStream) CatalogFault

-- the ids of streams, in order
abbrev pub ids_of : List ConfStream → List StreamId
ids_of streams = map (λ stream. stream.id) streams

-- the entry behind these streams reads as this stream or this fault
abbrev pub ReadsEntry : List ConfStream → List ℕ → Result ConfStream CatalogFault → Type 0
ReadsEntry before text found =
    (((entry : Entry) → ¬ IsEntry text entry) × (found ≡ Err (fault.Missing (length before))))
    ⊎ ((entry : Entry) × IsEntry text entry × (found ≡ judged (ids_of before) (length before) text entry))

-- the entry behind these streams is a stream, and stands behind them now
pub record TakesEntry (before : List ConfStream) (text : List ℕ) (now : List ConfStream) : Type 0 where
  pub stream : ConfStream
  pub reads : ReadsEntry before text (Ok stream)
  pub is : now ≡ before ++ stream ∷ []

-- the entries at these places, behind those that read as these streams: all are streams, or the first that is none has the fault
abbrev pub ReadsEntries : List ℕ → List ConfStream → List Span → Reading → Type 0
ReadsEntries list before [] reading = reading ≡ Ok before
ReadsEntries list before (span ∷ spans) reading =
    (found : Result ConfStream CatalogFault) × ReadsEntry before (text_at list span) found
    × MatchResult found (λ stream. ReadsEntries list (before ++ stream ∷ []) spans reading) (λ first. reading ≡ Err first)

-- the array with its elements at these places
abbrev pub ReadsList : List ℕ → List Span → Reading → Type 0
ReadsList list spans reading =
    ((MOST_STREAMS < length spans) × (reading ≡ Err fault.TooMany))
    ⊎ ((length spans ≤ MOST_STREAMS) × ReadsEntries list [] spans reading)

-- the text is an object with this array as its `streams`
pub record HasStreams (text list : List ℕ) (spans : List Span) : Type 0 where
  pub field : HasField text (codes "streams") list
  pub elements : AreElements line_depth list spans

abbrev pub ReadsAs : List ℕ → Reading → Type 0
ReadsAs text reading =
    (((list : List ℕ) (spans : List Span) → ¬ HasStreams text list spans) × (reading ≡ Err fault.NotJson))
    ⊎ ((list : List ℕ) × (spans : List Span) × HasStreams text list spans × ReadsList list spans reading)
