use Rattle.std.proofs.Common.{List, Option, IfSome, subst, sym}
use Rattle.std.proofs.lemmas.Result.{IfOk-weaker}
use Rattle.json_span.specs.declared.Span.{Span}
use Rattle.json_fields.specs.Parts.{IsCutList}
use Rattle.catalog.proofs.ListLemmas.{uncut_list}
use Rattle.state_kinds.proofs.StateListLemmas.{states_answer, no_states}
use Rattle.state_kinds.proofs.states.states_of.Goals as goal

pub returns-in-Some : goal.returns-in-Some
returns-in-Some c =
    let found = subst (λ (f : Option (List Span)). IfSome f (IsCutList c.args.text.now)) c.in-Some.is c.in_ok-spans.ensures.cut in
    let cut = subst (λ (ss : List Span). IsCutList c.args.text.now ss) (sym c.as_slice.ensures) found in
    IfOk-weaker c.states_at.result _ _ (λ found answer. states_answer c.args.text.now c.as_slice.result.now found cut answer) c.states_at.ensures

pub returns-in-None : goal.returns-in-None
returns-in-None c = no_states c.args.text.now (uncut_list c.args.text.now c.in_ok-spans.field-0 c.in-None.is c.in_ok-spans.ensures.none)
