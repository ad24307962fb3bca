use Rattle.std.proofs.Common.{◌∙◌}
use Rattle.sync_ledger.proofs.notes.Notes.hear_state.Goals as goal

pub returns-in_ok-note_state-in-Ok-clause-ok : goal.returns-in_ok-note_state-in-Ok-clause-ok
returns-in_ok-note_state-in-Ok-clause-ok c = record { judges = c.in-Ok.ensures.ok.judges; notes = c.in_ok-note_state-in-Ok.ensures.ok ∙ c.in-Ok.ensures.ok.notes }
