use Rattle.std.proofs.Common.{Err, ap, arith, ◌<◌}
use Rattle.catalog.proofs.EntryLemmas.{entry_uncut}
use Rattle.catalog.proofs.members.entry_of.Goals as goal

pub entry_in-requires-clause-cut : goal.entry_in-requires-clause-cut
entry_in-requires-clause-cut c = record {
  are = c.in-Ok.ensures.found;
  only = λ others are. (c.in-Ok.ensures.only are.deep others are.object).1;
  parts = c.in-Ok.ensures.parts;
}

pub returns-in-Err-NotObject : goal.returns-in-Err-NotObject
returns-in-Err-NotObject c =
    let none = c.in-Err-NotObject.ensures.not_object (ap (λ e. Err e) c.in-Err-NotObject.field-0-is) in
    entry_uncut c.args.text.now (λ members are. none are.deep members are.object)

pub returns-in-Err-TooDeep : goal.returns-in-Err-TooDeep
returns-in-Err-TooDeep c =
    let deeper = c.in-Err-TooDeep.ensures.too_deep (ap (λ e. Err e) c.in-Err-TooDeep.field-0-is) in
    entry_uncut c.args.text.now (λ members are. let beyond : 127 < are.deep = deeper.deeper are.deep members are.object in absurd (omega (arith, are.within)))
