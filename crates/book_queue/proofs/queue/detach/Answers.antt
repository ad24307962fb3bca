use Rattle.std.proofs.Common.{ap}
use Rattle.book_queue.proofs.Seen.{detached_back}
use Rattle.book_queue.proofs.queue.detach.Goals as goal

pub returns-in-Err-clause-err : goal.returns-in-Err-clause-err
returns-in-Err-clause-err c = rw c.restore.ensures (rw c.detach.ensures.held (ap (λ held. record c.args.pool.now { held = held }) (detached_back c.args.pool.now c.args.stream c.args.count c.in-Some.chain c.in-Some.ensures.chain c.requires.apart)))
