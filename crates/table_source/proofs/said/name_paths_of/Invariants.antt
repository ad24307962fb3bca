use Rattle.std.proofs.Common.{◌≡◌, map, take}
use Rattle.table_source.specs.Discovered.{name_path}
use Rattle.table_source.proofs.said.name_paths_of.Given as goal

abbrev pub invariant-loop-name : goal.invariant-loop-name
invariant-loop-name l = l.paths ≡ map name_path (take l.name-index l.name-items)
