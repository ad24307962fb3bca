use Rattle.std.proofs.Common.{ap, Err, ◌<◌, arith}
use Rattle.json_fields.proofs.parts.cut_with_list.Goals as goal

pub returns-in-Ok-clause-cut : goal.returns-in-Ok-clause-cut
returns-in-Ok-clause-cut c = record {
  are = c.in-Ok.ensures.found;
  only = λ others are. (c.in-Ok.ensures.only are.deep others are.object).1;
  parts = c.in-Ok.ensures.parts;
}

pub returns-in-Err-NotObject-clause-none : goal.returns-in-Err-NotObject-clause-none
returns-in-Err-NotObject-clause-none c =
    let none = c.in-Err-NotObject.ensures.not_object (ap (λ e. Err e) c.in-Err-NotObject.field-0-is) in
    λ members are. none are.deep members are.object

pub returns-in-Err-TooDeep-clause-none : goal.returns-in-Err-TooDeep-clause-none
returns-in-Err-TooDeep-clause-none c =
    let deeper = c.in-Err-TooDeep.ensures.too_deep (ap (λ e. Err e) c.in-Err-TooDeep.field-0-is) in
    λ members are. let beyond : 127 < are.deep = deeper.deeper are.deep members are.object in absurd (omega (arith, are.within))
