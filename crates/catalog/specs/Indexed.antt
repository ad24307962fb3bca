-- For private clauses: a catalog's streams, and the index that has their ids.
use Rattle.std.specs.Prelude.{◌≡◌, List}
use Rattle.basics.specs.declared.stream.StreamId.{StreamId}
use Rattle.catalog.specs.declared.stream.ConfStream.{ConfStream}
use Rattle.catalog.specs.Reading.{ids_of}
use Rattle.catalog.specs.Configured.{AreConfigured}

pub record IsIndexed (streams : List ConfStream) (index : List StreamId) : Type 0 where
  pub ids : index ≡ ids_of streams
  pub are : AreConfigured streams
