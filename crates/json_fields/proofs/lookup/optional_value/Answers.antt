use Rattle.std.proofs.Common.{sym, ap, ◌∙◌}
use Rattle.std.specs.Option.{option_copied}
use Rattle.json_fields.proofs.FieldLemmas.{optional_shown, optional_null, optional_none}
use Rattle.json_fields.proofs.lookup.optional_value.Goals as goal

pub returns-in-Some-clause-optional : goal.returns-in-Some-clause-optional
returns-in-Some-clause-optional c =
    optional_null c.args.text.now c.args.name.now c.args.members.now (option_copied c.in_ok-held.field-0) c.in-Some.held.now c.requires.cut c.in_ok-held.ensures.holds (ap option_copied c.in-Some.is) (sym c.is_null.ensures ∙ c.if-is_null.true)

pub returns-in-Some-2-clause-optional : goal.returns-in-Some-2-clause-optional
returns-in-Some-2-clause-optional c =
    optional_shown c.args.text.now c.args.name.now c.args.members.now (option_copied c.in_ok-held.field-0) c.in-Some.held.now c.requires.cut c.in_ok-held.ensures.holds (ap option_copied c.in-Some.is) (sym c.is_null.ensures ∙ c.if-is_null.false)

pub returns-in-None-clause-optional : goal.returns-in-None-clause-optional
returns-in-None-clause-optional c =
    optional_none c.args.text.now c.args.name.now c.args.members.now (option_copied c.in_ok-held.field-0) c.requires.cut c.in_ok-held.ensures.holds (ap option_copied c.in-None.is)
