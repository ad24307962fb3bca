use Rattle.json_span.proofs.Reading.{tail_inside}
use Rattle.json_span.proofs.reader.Reader.take.Goals as goal

pub returns-in_default-clause-inner : goal.returns-in_default-clause-inner
returns-in_default-clause-inner c = tail_inside c.take.result c.args.text.now c.args.self.now.outside c.take.new.self c.args.at c.args.self.now.inner c.take.ensures.taken c.requires.inner
