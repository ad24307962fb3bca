use Rattle.std.proofs.Common.{◌≡◌, All, take}
use Rattle.file_run.specs.Runs.{HasText, ReadsOnly}
use Rattle.file_run.proofs.run.check_entries.Given as goal

-- the files so far
abbrev pub invariant-loop-entry : goal.invariant-loop-entry
invariant-loop-entry g l = record {
  texts : All (λ entry. HasText (g.K.Desk.seen l.fn.desk).texts entry.path) (take l.entry-index l.entries);
  only : ReadsOnly ⊥ (g.K.Desk.seen l.fn.desk) (g.K.Desk.seen l.desk);
  stays : (g.K.Desk.seen l.desk).read_faults ≡ (g.K.Desk.seen l.fn.desk).read_faults;
}
