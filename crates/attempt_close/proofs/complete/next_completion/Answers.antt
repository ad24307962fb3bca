use Rattle.attempt_close.proofs.Completing.{holds_next}
use Rattle.attempt_close.proofs.complete.next_completion.Goals as goal

pub returns-in_ok-completion_line-in-Some-clause-ok : goal.returns-in_ok-completion_line-in-Some-clause-ok
returns-in_ok-completion_line-in-Some-clause-ok c = holds_next _ _ _ _ c.requires c.in-Some.ensures.next c.in_ok-completion_line-in-Some.ensures
