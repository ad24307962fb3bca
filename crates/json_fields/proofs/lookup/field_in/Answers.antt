use Rattle.std.proofs.lemmas.Result.{IfOk-weaker}
use Rattle.std.specs.Option.{option_copied}
use Rattle.json_fields.proofs.FieldLemmas.{field_answer}
use Rattle.json_fields.proofs.lookup.field_in.Goals as goal

pub returns-clause-field : goal.returns-clause-field
returns-clause-field c =
    IfOk-weaker c.member_of.result _ _ (λ found holds. field_answer c.args.text.now c.args.name.now c.args.members.now (option_copied found) c.requires.cut holds) c.member_of.ensures.holds
