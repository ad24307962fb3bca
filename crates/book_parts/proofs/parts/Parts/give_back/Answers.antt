use Rattle.book_parts.proofs.Putting.{gives_back, strange_back}
use Rattle.book_parts.proofs.parts.Parts.give_back.Goals as goal

pub returns-then-take_back : goal.returns-then-take_back
returns-then-take_back g c = gives_back c.args.item c.take_back.result _ _ c.take_back.new.self c.self.view_is c.take_back.ensures.was c.take_back.ensures.back c.if-take_back.true

pub returns : goal.returns
returns g c = strange_back c.args.item c.take_back.result _ _ c.take_back.new.self c.self.view_is c.take_back.ensures.was c.take_back.ensures.back c.if-take_back.false
