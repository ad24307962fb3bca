use Rattle.std.proofs.Common.{Some, None, ap}
use Rattle.std.specs.Option.{option_copied, option_map}
use Rattle.json_scalar.specs.Text.{IsString}
use Rattle.json_fields.specs.Fields.{HasOptional}
use Rattle.json_fields.specs.Words.{viewed}
use Rattle.json_fields.proofs.AnswerLemmas.{along, along_only}
use Rattle.json_fields.proofs.FieldLemmas.{optional_text_absent, optional_text_answer}
use Rattle.json_fields.proofs.lookup.optional_text_in.Goals as goal

pub returns-in-Some-2 : goal.returns-in-Some-2
returns-in-Some-2 c =
    let optional = along_only (HasOptional c.args.text.now c.args.name.now) (ap option_copied c.in-Some.is) c.in_ok-held.ensures.optional in
    let string = along (IsString c.in-Some.held.now) (ap (option_map viewed) c.in-Some-2.is) c.in_ok-view-in-Some.ensures in
    optional_text_answer c.args.text.now c.args.name.now c.in-Some.held.now (Some (viewed c.in-Some-2.view)) optional string

pub returns-in-None-2 : goal.returns-in-None-2
returns-in-None-2 c =
    let optional = along_only (HasOptional c.args.text.now c.args.name.now) (ap option_copied c.in-Some.is) c.in_ok-held.ensures.optional in
    let string = along (IsString c.in-Some.held.now) (ap (option_map viewed) c.in-None-2.is) c.in_ok-view-in-Some.ensures in
    optional_text_answer c.args.text.now c.args.name.now c.in-Some.held.now None optional string

pub returns-in-None : goal.returns-in-None
returns-in-None c =
    optional_text_absent c.args.text.now c.args.name.now (along_only (HasOptional c.args.text.now c.args.name.now) (ap option_copied c.in-None.is) c.in_ok-held.ensures.optional)
