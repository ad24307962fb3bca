use Rattle.std.proofs.Common.{◌≡◌, take}
use Rattle.file_run.specs.Runs.{AreFiles, ReadsOnly}
use Rattle.file_run.proofs.run.read_entries.Given as goal

-- the files so far
abbrev pub invariant-loop-entry : goal.invariant-loop-entry
invariant-loop-entry g l = record {
  files : AreFiles (g.K.Desk.seen l.fn.desk).texts (take l.entry-index l.entries) l.files;
  only : ReadsOnly ⊥ (g.K.Desk.seen l.fn.desk) (g.K.Desk.seen l.desk);
  stays : (g.K.Desk.seen l.desk).read_faults ≡ (g.K.Desk.seen l.fn.desk).read_faults;
}
