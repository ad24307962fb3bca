use Rattle.std.proofs.Common.{◌≡◌, ◌∙◌, sym, ap, true, false}
use Rattle.std.specs.Option.{option_copied}
use Rattle.json_fields.specs.Fields.{HasField}
use Rattle.json_fields.proofs.AnswerLemmas.{along}
use Rattle.json_fields.proofs.PartLemmas.{object_yes, object_no, object_absent}
use Rattle.json_fields.proofs.lookup.object_in.Goals as goal

pub returns-in-Some : goal.returns-in-Some
returns-in-Some c =
    object_yes c.args.text.now c.args.name.now c.in-Some.held.now (along (HasField c.args.text.now c.args.name.now) (ap option_copied c.in-Some.is) c.in_ok-held.ensures.field) (c.is_object.ensures.0 c.if-is_object.true)

pub returns-in-Some-2 : goal.returns-in-Some-2
returns-in-Some-2 c =
    object_no c.args.text.now c.args.name.now c.in-Some.held.now (along (HasField c.args.text.now c.args.name.now) (ap option_copied c.in-Some.is) c.in_ok-held.ensures.field) (λ object. true_false (sym (c.is_object.ensures.1 object) ∙ c.if-is_object.false))
  where
    true_false : true ≡ false → ⊥
    true_false e = cc

pub returns-in-None : goal.returns-in-None
returns-in-None c =
    object_absent c.args.text.now c.args.name.now (along (HasField c.args.text.now c.args.name.now) (ap option_copied c.in-None.is) c.in_ok-held.ensures.field)
