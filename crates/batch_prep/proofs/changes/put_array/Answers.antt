use Rattle.batch_prep.proofs.WrittenLemmas.{came_no_array}
use Rattle.batch_prep.proofs.changes.put_array.Goals as goal

pub returns-in-None : goal.returns-in-None
returns-in-None c =
    let none = rw c.in-None.is at c.in_ok-spans.ensures.none in
    came_no_array c.args.meta.now c.args.list.now c.args.changes.now c.requires.field none c.requires.open
