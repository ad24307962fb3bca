use Rattle.std.proofs.Common.{List, ℕ, ap, codes, subst, sym}
use Rattle.std.specs.Option.{option_copied}
use Rattle.json_fields.specs.Answer.{IsOnly}
use Rattle.json_fields.specs.Fields.{HasField}
use Rattle.json_fields.proofs.AnswerLemmas.{along, uncut, within}
use Rattle.table_config.proofs.ConfigLemmas.{deep_schema, has_schema, no_schema}
use Rattle.table_config.specs.Config.{HasSchema}
use Rattle.table_config.proofs.read.schema_in.Goals as goal

pub returns-in_default : goal.returns-in_default
returns-in_default c = no_schema c.args.text.now (along (HasField c.args.text.now (codes "schema")) (ap option_copied c.in_default.is) c.in_ok-held.ensures.field)

pub returns-in_ok-copy_of-in-Some-2 : goal.returns-in_ok-copy_of-in-Some-2
returns-in_ok-copy_of-in-Some-2 c =
    let text = c.args.text.now in
    let field = along (HasField text (codes "schema")) (ap option_copied c.in-Some.is) c.in_ok-held.ensures.field in
    let object = within 100 c.in-Some.held.now c.in_ok-_members.field-0 c.in-Some-2._members c.in-Some-2.is c.in_ok-_members.ensures.within in
    subst (λ (s : List ℕ). IsOnly (HasSchema text) s) (sym c.in_ok-copy_of-in-Some-2.ensures) (has_schema text c.in-Some.held.now c.in-Some-2._members field object)

pub returns-in-None : goal.returns-in-None
returns-in-None c =
    let text = c.args.text.now in
    let field = along (HasField text (codes "schema")) (ap option_copied c.in-Some.is) c.in_ok-held.ensures.field in
    deep_schema text c.in-Some.held.now field (uncut 100 c.in-Some.held.now c.in_ok-_members.field-0 c.in-None.is c.in_ok-_members.ensures.none)
