use Rattle.std.proofs.Common.{◌≡◌, drop}
use Rattle.file_run.specs.Runs.{streams_behind, streams_from, streams_in}
use Rattle.file_run.proofs.run.discover_files.Given as goal

-- the streams so far
abbrev pub invariant-loop-place : goal.invariant-loop-place
invariant-loop-place l = streams_in l.files ≡ streams_behind l.texts (streams_from l.place l.names (drop l.place l.files))
