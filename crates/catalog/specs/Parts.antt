-- The part of a catalog that one of several lanes has.
use Rattle.std.specs.Prelude.{ℕ, ◌%◌, List, map, filter, ◌==◌}
use Rattle.std.specs.List.{enumerate_from}
use Rattle.catalog.specs.declared.stream.ConfStream.{ConfStream}

-- the streams whose number, divided by `lanes`, leaves `lane`, in order
abbrev pub part_of : ℕ → ℕ → List ConfStream → List ConfStream
part_of lanes lane streams = map (λ numbered. numbered.1) (filter (λ numbered. numbered.0 % lanes == lane) (enumerate_from 0 streams))
