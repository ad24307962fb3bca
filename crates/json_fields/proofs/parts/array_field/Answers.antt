use Rattle.std.proofs.Common.{◌≡◌, ◌∙◌, sym, ap, true, false}
use Rattle.std.specs.Option.{option_copied}
use Rattle.json_fields.specs.Fields.{HasField}
use Rattle.json_fields.proofs.AnswerLemmas.{along}
use Rattle.json_fields.proofs.PartLemmas.{array_yes, array_no, array_absent}
use Rattle.json_fields.proofs.parts.array_field.Goals as goal

pub returns-in-Some : goal.returns-in-Some
returns-in-Some c =
    array_yes c.args.text.now c.args.name.now c.in-Some.held.now (along (HasField c.args.text.now c.args.name.now) (ap option_copied c.in-Some.is) c.in_ok-held.ensures.field) (c.is_array.ensures.0 c.if-is_array.true)

pub returns-in-Some-2 : goal.returns-in-Some-2
returns-in-Some-2 c =
    array_no c.args.text.now c.args.name.now c.in-Some.held.now (along (HasField c.args.text.now c.args.name.now) (ap option_copied c.in-Some.is) c.in_ok-held.ensures.field) (λ array. true_false (sym (c.is_array.ensures.1 array) ∙ c.if-is_array.false))
  where
    true_false : true ≡ false → ⊥
    true_false e = cc

pub returns-in-None : goal.returns-in-None
returns-in-None c =
    array_absent c.args.text.now c.args.name.now (along (HasField c.args.text.now c.args.name.now) (ap option_copied c.in-None.is) c.in_ok-held.ensures.field)
