use Rattle.json_fields.proofs.Keys.{string_only}
use Rattle.json_fields.proofs.view.utf8_view.Goals as goal

pub returns-in-Some : goal.returns-in-Some
returns-in-Some c = string_only c.args.text.now c.in-Some.inside.now c.in-Some.ensures
