use Rattle.json_span.proofs.ListReading.{tail_list}
use Rattle.json_span.proofs.lists.ListReader.take.Goals as goal

pub returns-clause-list : goal.returns-clause-list
returns-clause-list c = tail_list c.take.result c.args.text.now c.args.self.now.outside c.take.new.self c.args.at c.args.self.now.listed c.args.self.now.inside.cutter.elements c.take.ensures.taken c.requires.list
