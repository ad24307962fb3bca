use Rattle.std.proofs.Common.{ℕ, List, Option, codes, option_map, sym, ap, subst}
use Rattle.std.specs.Option.{option_copied}
use Rattle.json_fields.specs.Answer.{IsOnly}
use Rattle.json_fields.specs.Fields.{HasText, line_depth}
use Rattle.json_fields.specs.Parts.{HasOptionalNumber}
use Rattle.json_fields.proofs.AnswerLemmas.{along, uncut}
use Rattle.file_config.specs.Config.{IsPart}
use Rattle.file_config.proofs.ConfigLemmas.{is_part, no_name, no_number, no_object, no_path}
use Rattle.file_config.proofs.config.part_of.Goals as goal

pub returns-in_default : goal.returns-in_default
returns-in_default c = no_object c.args.text.now (uncut line_depth c.args.text.now c.in_ok-members.field-0 c.in_default.is c.in_ok-members.ensures.none)

pub returns-in_default-2 : goal.returns-in_default-2
returns-in_default-2 c = no_name c.args.text.now (along (HasText c.args.text.now (codes "name")) c.in_default-2.is c.in_ok-name.ensures)

pub returns-in_default-3 : goal.returns-in_default-3
returns-in_default-3 c = no_path c.args.text.now (along (HasText c.args.text.now (codes "path")) c.in_default-3.is c.in_ok-path.ensures)

pub returns-in_default-4 : goal.returns-in_default-4
returns-in_default-4 c = no_number c.args.text.now (along (HasOptionalNumber c.args.text.now (codes "every")) (ap (option_map option_copied) c.in_default-4.is) c.in_ok-number.ensures)

pub returns : goal.returns
returns c =
    let text = c.args.text.now in
    let name = along (HasText text (codes "name")) c.in-Some-2.is c.in_ok-name.ensures in
    let path = along (HasText text (codes "path")) c.in-Some-3.is c.in_ok-path.ensures in
    let number = along (HasOptionalNumber text (codes "every")) (ap (option_map option_copied) c.in-Some-4.is) c.in_ok-number.ensures in
    subst (λ (every : Option (List ℕ)). IsOnly (IsPart text) (record { name = c.in-Some-2.name; path = c.in-Some-3.path; every = every })) (sym c.in_ok-every.ensures)
    (is_part text c.in-Some-2.name c.in-Some-3.path (option_copied c.in-Some-4.number) name path number)
