use Rattle.std.proofs.Common.{◌≡◌, drop}
use Rattle.file_source.specs.Files.{file_named}
use Rattle.file_source.proofs.source.find_file.Given as goal

-- no file so far has this name
abbrev pub invariant-loop-file : goal.invariant-loop-file
invariant-loop-file l = file_named l.name l.files ≡ file_named l.name (drop l.file-index l.files)
