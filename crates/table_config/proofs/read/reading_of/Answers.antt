use Rattle.std.proofs.Common.{List, Option, None, Some, IfSome, subst}
use Rattle.std.specs.List.{AllZip}
use Rattle.json_span.specs.declared.Member.{Member}
use Rattle.json_fields.specs.Answer.{IsAnswer}
use Rattle.json_fields.specs.Fields.{IsCut, line_depth}
use Rattle.json_fields.proofs.AnswerLemmas.{along, uncut}
use Rattle.table_config.specs.Config.{HasParts, IsEntry}
use Rattle.table_config.specs.declared.read.TablePart.{TablePart}
use Rattle.table_config.proofs.ConfigLemmas.{bad_number, missing, not_json, reads}
use Rattle.table_config.proofs.read.reading_of.Goals as goal

pub returns-in_default : goal.returns-in_default
returns-in_default c = not_json c.args.text.now (uncut line_depth c.args.text.now c.in_ok-members.field-0 c.in_default.is c.in_ok-members.ensures.none)

pub returns-in_default-2 : goal.returns-in_default-2
returns-in_default-2 c =
    let cut = subst (λ (found : Option (List Member)). IfSome found (IsCut c.args.text.now)) c.in-Some.is c.in_ok-members.ensures.cut in
    missing c.args.text.now c.in-Some.members cut (along (HasParts c.args.text.now) c.in_default-2.is c.in_ok-parts.ensures)

pub returns-in_default-3 : goal.returns-in_default-3
returns-in_default-3 c =
    let has = along (HasParts c.args.text.now) c.in-Some-2.is c.in_ok-parts.ensures in
    let none = along (AllZip IsEntry c.as_slice.result.now) c.in_default-3.is c.in_ok-entries.ensures in
    bad_number c.args.text.now c.in-Some-2.parts has (subst (λ (parts : List TablePart). IsAnswer (AllZip IsEntry parts) None) c.as_slice.ensures none)

pub returns : goal.returns
returns c =
    let has = along (HasParts c.args.text.now) c.in-Some-2.is c.in_ok-parts.ensures in
    let are = along (AllZip IsEntry c.as_slice.result.now) c.in-Some-3.is c.in_ok-entries.ensures in
    reads c.args.text.now c.in-Some-2.parts c.in-Some-3.entries c.in_ok-tables.tables has
    (subst (λ (parts : List TablePart). IsAnswer (AllZip IsEntry parts) (Some c.in-Some-3.entries)) c.as_slice.ensures are) c.in_ok-tables.ensures
