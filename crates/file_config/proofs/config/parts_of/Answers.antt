use Rattle.std.proofs.Common.{List, Option, IfSome, codes, sym, ap, subst}
use Rattle.std.specs.Option.{option_copied}
use Rattle.std.proofs.lemmas.Result.{IfOk-weaker}
use Rattle.json_span.specs.declared.Span.{Span}
use Rattle.json_fields.specs.Fields.{HasField}
use Rattle.json_fields.specs.Parts.{IsCutList}
use Rattle.json_fields.proofs.AnswerLemmas.{along}
use Rattle.catalog.proofs.ListLemmas.{uncut_list}
use Rattle.file_config.proofs.ConfigLemmas.{no_array, no_field, parts_answer}
use Rattle.file_config.proofs.config.parts_of.Goals as goal

pub returns-in_default : goal.returns-in_default
returns-in_default c = no_field c.args.text.now (along (HasField c.args.text.now (codes "files")) (ap option_copied c.in_default.is) c.in_ok-list.ensures.field)

pub returns-in_default-2 : goal.returns-in_default-2
returns-in_default-2 c =
    let field = along (HasField c.args.text.now (codes "files")) (ap option_copied c.in-Some.is) c.in_ok-list.ensures.field in
    no_array c.args.text.now c.in-Some.list.now field (uncut_list c.in-Some.list.now c.in_ok-spans.field-0 c.in_default-2.is c.in_ok-spans.ensures.none)

pub returns : goal.returns
returns c =
    let list = c.in-Some.list.now in
    let field = along (HasField c.args.text.now (codes "files")) (ap option_copied c.in-Some.is) c.in_ok-list.ensures.field in
    let found = subst (λ (f : Option (List Span)). IfSome f (IsCutList list)) c.in-Some-2.is c.in_ok-spans.ensures.cut in
    let cut = subst (λ (ss : List Span). IsCutList list ss) (sym c.as_slice.ensures) found in
    IfOk-weaker c.parts_at.result _ _ (λ parts answer. parts_answer c.args.text.now list c.as_slice.result.now parts field cut answer) c.parts_at.ensures
