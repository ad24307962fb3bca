-- For private clauses: the texts of a blob, as they are read.
use Rattle.std.specs.Prelude.{All}
use Rattle.json_span.specs.Elements.{IsElementOf}
use Rattle.json_span.specs.Members.{IsValue}
use Rattle.table_feed.specs.Start.{Place}
use Rattle.table_feed.specs.declared.blob.PlaceCut.{PlaceCut}

abbrev pub place_seen : PlaceCut → Place
place_seen place = record { cursor = place.cursor.now; key = place.key.now; spans = place.spans }

-- the cursor and the elements of the key are JSON values
pub record AreParts (place : Place) : Type 0 where
  pub cursor : IsValue place.cursor
  pub key : All (IsElementOf place.key) place.spans
