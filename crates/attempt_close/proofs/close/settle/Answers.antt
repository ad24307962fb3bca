use Rattle.attempt_close.proofs.Ways.{still_way}
use Rattle.attempt_close.proofs.close.settle.Goals as goal

pub returns-then-not-w-clause-ok : goal.returns-then-not-w-clause-ok
returns-then-not-w-clause-ok g c = λ desk. still_way _ _ desk

pub returns-in-None-clause-ok : goal.returns-in-None-clause-ok
returns-in-None-clause-ok g c = λ desk. still_way _ _ desk
