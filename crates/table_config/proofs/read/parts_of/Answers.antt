use Rattle.std.proofs.Common.{List, Option, IfSome, codes, sym, ap, subst}
use Rattle.std.specs.List.{AllZip}
use Rattle.std.specs.Option.{option_copied}
use Rattle.json_span.specs.declared.Span.{Span}
use Rattle.json_fields.specs.Fields.{HasField, HasText}
use Rattle.json_fields.specs.Parts.{IsCutList}
use Rattle.json_fields.proofs.AnswerLemmas.{along}
use Rattle.catalog.proofs.ListLemmas.{uncut_list}
use Rattle.table_config.proofs.ConfigLemmas.{IsPartAt, has_parts, no_array, no_database, no_field, no_parts}
use Rattle.table_config.proofs.read.parts_of.Goals as goal

pub returns-in_default : goal.returns-in_default
returns-in_default c = no_database c.args.text.now (along (HasText c.args.text.now (codes "database")) c.in_default.is c.in_ok-database.ensures)

pub returns-in_default-2 : goal.returns-in_default-2
returns-in_default-2 c = no_field c.args.text.now (along (HasField c.args.text.now (codes "tables")) (ap option_copied c.in_default-2.is) c.in_ok-list.ensures.field)

pub returns-in_default-3 : goal.returns-in_default-3
returns-in_default-3 c =
    let field = along (HasField c.args.text.now (codes "tables")) (ap option_copied c.in-Some-2.is) c.in_ok-list.ensures.field in
    no_array c.args.text.now c.in-Some-2.list.now field (uncut_list c.in-Some-2.list.now c.in_ok-spans.field-0 c.in_default-3.is c.in_ok-spans.ensures.none)

pub returns-in-Some-4 : goal.returns-in-Some-4
returns-in-Some-4 c =
    let text = c.args.text.now in
    let list = c.in-Some-2.list.now in
    let database = along (HasText text (codes "database")) c.in-Some.is c.in_ok-database.ensures in
    let field = along (HasField text (codes "tables")) (ap option_copied c.in-Some-2.is) c.in_ok-list.ensures.field in
    let found = subst (λ (f : Option (List Span)). IfSome f (IsCutList list)) c.in-Some-3.is c.in_ok-spans.ensures.cut in
    let cut = subst (λ (ss : List Span). IsCutList list ss) (sym c.as_slice.ensures) found in
    has_parts text c.in-Some.database list c.as_slice.result.now c.in-Some-4.tables database field cut (along (AllZip (IsPartAt list) c.as_slice.result.now) c.in-Some-4.is c.in_ok-tables.ensures)

pub returns-in-None : goal.returns-in-None
returns-in-None c =
    let text = c.args.text.now in
    let list = c.in-Some-2.list.now in
    let field = along (HasField text (codes "tables")) (ap option_copied c.in-Some-2.is) c.in_ok-list.ensures.field in
    let found = subst (λ (f : Option (List Span)). IfSome f (IsCutList list)) c.in-Some-3.is c.in_ok-spans.ensures.cut in
    let cut = subst (λ (ss : List Span). IsCutList list ss) (sym c.as_slice.ensures) found in
    no_parts text list c.as_slice.result.now field cut (along (AllZip (IsPartAt list) c.as_slice.result.now) c.in-None.is c.in_ok-tables.ensures)
