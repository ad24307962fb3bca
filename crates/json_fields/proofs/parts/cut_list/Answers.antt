use Rattle.std.proofs.Common.{ap, Err, ◌<◌, arith}
use Rattle.json_fields.proofs.parts.cut_list.Goals as goal

pub returns-in-Ok-clause-cut : goal.returns-in-Ok-clause-cut
returns-in-Ok-clause-cut c =
    let found = c.in-Ok.ensures.found in
    record {
      are = record { deep = found.deep; within = omega arith; array = found.array };
      only = λ others are. (c.in-Ok.ensures.only are.deep others are.array).1;
      parts = c.in-Ok.ensures.parts;
    }

pub returns-in-Err-NotArray-clause-none : goal.returns-in-Err-NotArray-clause-none
returns-in-Err-NotArray-clause-none c =
    let none = c.in-Err-NotArray.ensures.not_array (ap (λ e. Err e) c.in-Err-NotArray.field-0-is) in
    λ spans are. none are.deep spans are.array

pub returns-in-Err-TooDeep-clause-none : goal.returns-in-Err-TooDeep-clause-none
returns-in-Err-TooDeep-clause-none c =
    let deeper = c.in-Err-TooDeep.ensures.too_deep (ap (λ e. Err e) c.in-Err-TooDeep.field-0-is) in
    λ spans are. let beyond : c.args.limit < are.deep = deeper.deeper are.deep spans are.array in absurd (omega (arith, are.within))
