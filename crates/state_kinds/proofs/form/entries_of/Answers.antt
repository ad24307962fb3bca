use Rattle.std.proofs.Common.{List, Option, IfSome, subst, sym}
use Rattle.std.proofs.lemmas.Result.{IfOk-weaker}
use Rattle.json_span.specs.declared.Span.{Span}
use Rattle.json_fields.specs.Parts.{IsCutList}
use Rattle.catalog.proofs.ListLemmas.{uncut_list}
use Rattle.state_kinds.proofs.FormLemmas.{entries_answer, no_entries}
use Rattle.state_kinds.proofs.form.entries_of.Goals as goal

pub returns-in-Some : goal.returns-in-Some
returns-in-Some c =
    let found = subst (λ (f : Option (List Span)). IfSome f (IsCutList c.args.list.now)) c.in-Some.is c.in_ok-spans.ensures.cut in
    let cut = subst (λ (ss : List Span). IsCutList c.args.list.now ss) (sym c.as_slice.ensures) found in
    IfOk-weaker c.entries_at.result _ _ (λ found answer. entries_answer c.args.list.now c.as_slice.result.now found cut answer) c.entries_at.ensures

pub returns-in-None : goal.returns-in-None
returns-in-None c = no_entries c.args.list.now (uncut_list c.args.list.now c.in_ok-spans.field-0 c.in-None.is c.in_ok-spans.ensures.none)
