use Rattle.std.proofs.Common.{◌∙◌, List, Option, IfSome, codes, subst, sym, ap}
use Rattle.std.specs.Option.{option_copied}
use Rattle.json_span.specs.declared.Member.{Member}
use Rattle.json_span.specs.declared.Span.{Span}
use Rattle.json_fields.specs.Fields.{HasField, IsCut, line_depth}
use Rattle.json_fields.specs.Parts.{IsCutList}
use Rattle.json_fields.proofs.AnswerLemmas.{along, uncut}
use Rattle.catalog.proofs.ListLemmas.{uncut_list}
use Rattle.table_feed.proofs.StartLemmas.{is_place, no_array, no_cursor, no_key, no_object, other_count}
use Rattle.table_feed.proofs.blob.place_in.Goals as goal

pub returns-in_default-clause-cut : goal.returns-in_default-clause-cut
returns-in_default-clause-cut c = no_object c.args.text.now (uncut line_depth c.args.text.now c.in_ok-members.field-0 c.in_default.is c.in_ok-members.ensures.none)

pub returns-then-len-ne2-clause-cut : goal.returns-then-len-ne2-clause-cut
returns-then-len-ne2-clause-cut c =
    let cut = subst (λ (found : Option (List Member)). IfSome found (IsCut c.args.text.now)) c.in-Some.is c.in_ok-members.ensures.cut in
    other_count c.args.text.now c.in-Some.members cut (λ two. c.if-len-ne2.true (c.len.ensures ∙ two))

pub returns-in_default-2-clause-cut : goal.returns-in_default-2-clause-cut
returns-in_default-2-clause-cut c = no_cursor c.args.text.now (along (HasField c.args.text.now (codes "cursor")) (ap option_copied c.in_default-2.is) c.in_ok-cursor.ensures.field)

pub returns-in_default-3-clause-cut : goal.returns-in_default-3-clause-cut
returns-in_default-3-clause-cut c = no_key c.args.text.now (along (HasField c.args.text.now (codes "key")) (ap option_copied c.in_default-3.is) c.in_ok-key.ensures.field)

pub returns-in_default-4-clause-cut : goal.returns-in_default-4-clause-cut
returns-in_default-4-clause-cut c =
    let field = along (HasField c.args.text.now (codes "key")) (ap option_copied c.in-Some-3.is) c.in_ok-key.ensures.field in
    no_array c.args.text.now c.in-Some-3.key.now field (uncut_list c.in-Some-3.key.now c.in_ok-spans.field-0 c.in_default-4.is c.in_ok-spans.ensures.none)

pub returns-clause-cut : goal.returns-clause-cut
returns-clause-cut c =
    let text = c.args.text.now in
    let cut = subst (λ (found : Option (List Member)). IfSome found (IsCut text)) c.in-Some.is c.in_ok-members.ensures.cut in
    let cursor = along (HasField text (codes "cursor")) (ap option_copied c.in-Some-2.is) c.in_ok-cursor.ensures.field in
    let key = along (HasField text (codes "key")) (ap option_copied c.in-Some-3.is) c.in_ok-key.ensures.field in
    let spans = subst (λ (found : Option (List Span)). IfSome found (IsCutList c.in-Some-3.key.now)) c.in-Some-4.is c.in_ok-spans.ensures.cut in
    is_place text c.in-Some-2.cursor.now c.in-Some-3.key.now c.in-Some.members c.in-Some-4.spans cut (sym c.len.ensures ∙ c.if-len-ne2.false) cursor key spans
