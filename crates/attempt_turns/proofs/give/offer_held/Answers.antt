use Rattle.attempt_turns.proofs.EndLemmas.{stays_step}
use Rattle.attempt_turns.proofs.GiveLemmas.{offer_failed, offer_lacked}
use Rattle.attempt_turns.proofs.StepLemmas.{given_step}
use Rattle.attempt_turns.proofs.give.offer_held.Goals as goal

pub returns-in-Taken-clause-ok : goal.returns-in-Taken-clause-ok
returns-in-Taken-clause-ok g c = λ desk. given_step c.args.w.now _ _ _ _ _ desk c.gave.ensures c.as_slice.ensures c.in-Some.is c.requires.own c.requires.opened c.in-Taken.ensures.events c.in-Taken.ensures.grew

pub returns-in-NotYet-clause-ok : goal.returns-in-NotYet-clause-ok
returns-in-NotYet-clause-ok g c = λ desk. stays_step _ _ _ desk c.in-NotYet.ensures.events c.in-NotYet.ensures.grew

pub returns-in-Failed-clause-err : goal.returns-in-Failed-clause-err
returns-in-Failed-clause-err g c = λ desk. offer_failed _ _ _ desk c.requires.opened c.requires.live c.in-Failed.ensures.face c.in-Failed.ensures.events c.in-Failed.ensures.grew

pub returns-in-NoMemory-clause-err : goal.returns-in-NoMemory-clause-err
returns-in-NoMemory-clause-err g c = λ desk. offer_lacked _ _ _ desk c.requires.live c.in-NoMemory.ensures.face c.in-NoMemory.ensures.events c.in-NoMemory.ensures.grew
