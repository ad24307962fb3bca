use Rattle.std.proofs.Common.{List, Option, IfSome, subst, sym}
use Rattle.std.proofs.lemmas.Result.{IfOk-weaker}
use Rattle.json_span.specs.declared.Span.{Span}
use Rattle.json_fields.specs.Parts.{IsCutList}
use Rattle.catalog.proofs.EntryLemmas.{path_answer, no_path}
use Rattle.catalog.proofs.ListLemmas.{uncut_list}
use Rattle.table_config.proofs.read.names_in.Goals as goal

pub returns-in-Some : goal.returns-in-Some
returns-in-Some c =
    let found = subst (λ (f : Option (List Span)). IfSome f (IsCutList c.args.text.now)) c.in-Some.is c.in_ok-spans.ensures.cut in
    let cut = subst (λ (ss : List Span). IsCutList c.args.text.now ss) (sym c.as_slice.ensures) found in
    IfOk-weaker c.names_at.result _ _ (λ found answer. path_answer c.args.text.now c.as_slice.result.now found cut answer) c.names_at.ensures

pub returns-in-None : goal.returns-in-None
returns-in-None c = no_path c.args.text.now (uncut_list c.args.text.now c.in_ok-spans.field-0 c.in-None.is c.in_ok-spans.ensures.none)
