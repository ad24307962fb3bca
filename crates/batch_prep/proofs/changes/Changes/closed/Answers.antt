use Rattle.batch_prep.proofs.WrittenLemmas.{closed_is}
use Rattle.batch_prep.proofs.changes.Changes.closed.Goals as goal

pub returns : goal.returns
returns c = λ items opened. closed_is items c.args.self c.extend.new.self opened c.in_ok-extend.ensures.ok
