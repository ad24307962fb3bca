use Rattle.std.proofs.Common.{rules}
use Rattle.json_span.proofs.Inside.{none_inside}
use Rattle.json_span.proofs.reader.cut_value.Goals as goal

pub returns-in-Err-NotObject : goal.returns-in-Err-NotObject
returns-in-Err-NotObject c = none_inside c.args.value.now (c.in-Err-NotObject.ensures.not_object (search rules))
