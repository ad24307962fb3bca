use Rattle.std.proofs.Common.{ℕ, List, Option, codes, option_map, sym, ap, subst}
use Rattle.std.specs.Option.{option_copied}
use Rattle.json_fields.specs.Answer.{IsOnly}
use Rattle.json_fields.specs.Fields.{HasOptionalText, HasText, line_depth}
use Rattle.json_fields.specs.Parts.{HasOptionalNumber}
use Rattle.json_fields.proofs.AnswerLemmas.{along, uncut}
use Rattle.catalog.specs.Entry.{HasOptionalList, IsPath}
use Rattle.table_config.specs.Config.{HasSchema, IsPart}
use Rattle.table_config.proofs.ConfigLemmas.{is_part, no_cursor, no_key, no_name, no_number, no_object, none_of_schema}
use Rattle.table_config.proofs.read.part_of.Goals as goal

pub returns-in_default : goal.returns-in_default
returns-in_default c = no_object c.args.text.now (uncut line_depth c.args.text.now c.in_ok-members.field-0 c.in_default.is c.in_ok-members.ensures.none)

pub returns-in_default-2 : goal.returns-in_default-2
returns-in_default-2 c = no_name c.args.text.now (along (HasText c.args.text.now (codes "name")) c.in_default-2.is c.in_ok-name.ensures)

pub returns-in_default-3 : goal.returns-in_default-3
returns-in_default-3 c = none_of_schema c.args.text.now (along (HasSchema c.args.text.now) c.in_default-3.is c.in_ok-schema.ensures)

pub returns-in_default-4 : goal.returns-in_default-4
returns-in_default-4 c = no_cursor c.args.text.now (along (HasOptionalText c.args.text.now (codes "cursor")) c.in_default-4.is c.in_ok-cursor.ensures)

pub returns-in_default-5 : goal.returns-in_default-5
returns-in_default-5 c = no_key c.args.text.now (along (HasOptionalList IsPath c.args.text.now (codes "key")) c.in_default-5.is c.in_ok-key.ensures)

pub returns-in_default-6 : goal.returns-in_default-6
returns-in_default-6 c = no_number c.args.text.now (along (HasOptionalNumber c.args.text.now (codes "every")) (ap (option_map option_copied) c.in_default-6.is) c.in_ok-number.ensures)

pub returns : goal.returns
returns c =
    let text = c.args.text.now in
    let name = along (HasText text (codes "name")) c.in-Some-2.is c.in_ok-name.ensures in
    let schema = along (HasSchema text) c.in-Some-3.is c.in_ok-schema.ensures in
    let cursor = along (HasOptionalText text (codes "cursor")) c.in-Some-4.is c.in_ok-cursor.ensures in
    let key = along (HasOptionalList IsPath text (codes "key")) c.in-Some-5.is c.in_ok-key.ensures in
    let number = along (HasOptionalNumber text (codes "every")) (ap (option_map option_copied) c.in-Some-6.is) c.in_ok-number.ensures in
    subst (λ (every : Option (List ℕ)). IsOnly (IsPart text) (record { name = c.in-Some-2.name; schema = c.in-Some-3.schema; cursor = c.in-Some-4.cursor; key = c.in-Some-5.key; every = every })) (sym c.in_ok-every.ensures)
    (is_part text c.in-Some-2.name c.in-Some-3.schema c.in-Some-4.cursor c.in-Some-5.key (option_copied c.in-Some-6.number) name schema cursor key number)
