use Rattle.std.proofs.Common.{List, sym, subst}
use Rattle.std.proofs.lemmas.Result.{IfOk-weaker}
use Rattle.std.specs.Option.{option_copied}
use Rattle.json_span.specs.declared.Member.{Member}
use Rattle.json_fields.specs.Fields.{IsCut}
use Rattle.json_fields.proofs.FieldLemmas.{field_answer}
use Rattle.json_fields.proofs.fields.field.Goals as goal

pub returns-clause-field : goal.returns-clause-field
returns-clause-field c =
    let cut = subst (λ (ms : List Member). IsCut c.args.text.now ms) (sym c.as_slice.ensures) c.requires in
    IfOk-weaker c.last_of.result _ _ (λ found holds. field_answer c.args.text.now c.args.name.now c.as_slice.result.now (option_copied found) cut holds) c.last_of.ensures.holds
