use Rattle.std.proofs.Common.{sym}
use Rattle.state_kinds.proofs.BeginLemmas.{given_absent, given_found}
use Rattle.state_kinds.proofs.begin.given_generation.Goals as goal

pub returns-in-Some : goal.returns-in-Some
returns-in-Some c = sym (given_found c.args.configured.now c.args.gens.now c.in-Some.n c.args.id.now c.at.result.now c.in-Some.ensures c.at.ensures)

pub returns-in-None : goal.returns-in-None
returns-in-None c = sym (given_absent c.args.configured.now c.args.gens.now c.args.id.now c.in-None.ensures)
