use Rattle.std.proofs.Common.{Err, ap}
use Rattle.batch_prep.proofs.FoundLemmas.{cut_members, no_object, too_deep}
use Rattle.batch_prep.proofs.finder.cut_data.Goals as goal

pub returns-in-Ok-clause-cut : goal.returns-in-Ok-clause-cut
returns-in-Ok-clause-cut c = cut_members c.args.body.now c.cut.new.self.outer c.in-Ok.ensures.found c.in-Ok.ensures.only c.in-Ok.ensures.parts

pub returns-in-Err-NotObject-clause-cut : goal.returns-in-Err-NotObject-clause-cut
returns-in-Err-NotObject-clause-cut c = no_object c.args.body.now c.cut.new.self.outer (c.in-Err-NotObject.ensures.not_object (ap (λ e. Err e) c.in-Err-NotObject.field-0-is)) (ap (λ levels. levels.outer) c.in-Err-NotObject.ensures.emptied)

pub returns-in-Err-TooDeep-clause-cut : goal.returns-in-Err-TooDeep-clause-cut
returns-in-Err-TooDeep-clause-cut c = too_deep c.args.body.now c.cut.new.self.outer (c.in-Err-TooDeep.ensures.too_deep (ap (λ e. Err e) c.in-Err-TooDeep.field-0-is)) (ap (λ levels. levels.outer) c.in-Err-TooDeep.ensures.emptied)
