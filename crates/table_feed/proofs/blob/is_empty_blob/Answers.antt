use Rattle.std.proofs.Common.{List, Option, IfSome, IsTrue, false, subst}
use Rattle.json_span.specs.declared.Member.{Member}
use Rattle.json_fields.specs.Fields.{IsCut, line_depth}
use Rattle.json_fields.proofs.AnswerLemmas.{uncut}
use Rattle.table_feed.proofs.StartLemmas.{empty_is, none_empty}
use Rattle.table_feed.proofs.blob.is_empty_blob.Goals as goal

pub returns-in-Some : goal.returns-in-Some
returns-in-Some c =
    let cut = subst (λ (found : Option (List Member)). IfSome found (IsCut c.args.text.now)) c.in-Some.is c.in_ok-members.ensures.cut in
    empty_is c.args.text.now c.in-Some.members c.is_empty.result cut c.is_empty.ensures

pub returns-in-None : goal.returns-in-None
returns-in-None c = (λ e. absurd (no_truth e), λ are. absurd (none_empty c.args.text.now (uncut line_depth c.args.text.now c.in_ok-members.field-0 c.in-None.is c.in_ok-members.ensures.none) are))
  where
    no_truth : IsTrue false → ⊥
    no_truth e = cc
