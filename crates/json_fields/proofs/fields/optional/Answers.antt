use Rattle.std.proofs.Common.{List, sym, subst, ap, ◌∙◌}
use Rattle.std.specs.Option.{option_copied}
use Rattle.json_span.specs.declared.Member.{Member}
use Rattle.json_fields.specs.Fields.{IsCut}
use Rattle.json_fields.proofs.FieldLemmas.{optional_shown, optional_null, optional_none}
use Rattle.json_fields.proofs.fields.optional.Goals as goal

pub returns-in-Some : goal.returns-in-Some
returns-in-Some c =
    let cut = subst (λ (ms : List Member). IsCut c.args.text.now ms) (sym c.as_slice.ensures) c.requires in
    optional_null c.args.text.now c.args.name.now c.as_slice.result.now (option_copied c.in_ok-held.field-0) c.in-Some.held.now cut c.in_ok-held.ensures.holds (ap option_copied c.in-Some.is) (sym c.is_null.ensures ∙ c.if-is_null.true)

pub returns-in-Some-2 : goal.returns-in-Some-2
returns-in-Some-2 c =
    let cut = subst (λ (ms : List Member). IsCut c.args.text.now ms) (sym c.as_slice.ensures) c.requires in
    optional_shown c.args.text.now c.args.name.now c.as_slice.result.now (option_copied c.in_ok-held.field-0) c.in-Some.held.now cut c.in_ok-held.ensures.holds (ap option_copied c.in-Some.is) (sym c.is_null.ensures ∙ c.if-is_null.false)

pub returns-in-None : goal.returns-in-None
returns-in-None c =
    let cut = subst (λ (ms : List Member). IsCut c.args.text.now ms) (sym c.as_slice.ensures) c.requires in
    optional_none c.args.text.now c.args.name.now c.as_slice.result.now (option_copied c.in_ok-held.field-0) cut c.in_ok-held.ensures.holds (ap option_copied c.in-None.is)
