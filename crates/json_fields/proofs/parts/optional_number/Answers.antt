use Rattle.std.proofs.Common.{ap, sym, ◌∙◌}
use Rattle.std.specs.Option.{option_copied}
use Rattle.json_fields.specs.Fields.{HasOptional}
use Rattle.json_fields.proofs.AnswerLemmas.{along_only, true_false}
use Rattle.json_fields.proofs.PartLemmas.{optional_value, number_yes, number_no, number_absent}
use Rattle.json_fields.proofs.parts.optional_number.Goals as goal

pub returns-in-Some : goal.returns-in-Some
returns-in-Some c =
    number_yes c.args.text.now c.args.name.now c.in-Some.held.now (along_only (HasOptional c.args.text.now c.args.name.now) (ap option_copied c.in-Some.is) c.in_ok-held.ensures) (c.is_number.ensures.0 c.if-is_number.true)

pub returns-in-Some-2 : goal.returns-in-Some-2
returns-in-Some-2 c =
    number_no c.args.text.now c.args.name.now c.in-Some.held.now (along_only (HasOptional c.args.text.now c.args.name.now) (ap option_copied c.in-Some.is) c.in_ok-held.ensures) (λ number. true_false (sym (c.is_number.ensures.1 number) ∙ c.if-is_number.false))

pub returns-in-None : goal.returns-in-None
returns-in-None c =
    number_absent c.args.text.now c.args.name.now (along_only (HasOptional c.args.text.now c.args.name.now) (ap option_copied c.in-None.is) c.in_ok-held.ensures)

pub is_number-requires : goal.is_number-requires
is_number-requires c =
    optional_value c.args.text.now c.args.name.now c.args.members.now c.in-Some.held.now c.requires (along_only (HasOptional c.args.text.now c.args.name.now) (ap option_copied c.in-Some.is) c.in_ok-held.ensures).is
