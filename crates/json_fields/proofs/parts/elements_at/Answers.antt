use Rattle.std.proofs.Common.{Some, ap, ◌∙◌}
use Rattle.json_fields.proofs.ListedLemmas.{list_cut}
use Rattle.json_fields.proofs.parts.elements_at.Goals as goal

pub returns-in-Some-clause-cut : goal.returns-in-Some-clause-cut
returns-in-Some-clause-cut c = list_cut c.args.value.now c.args.cut.elements (c.requires.kept (c.in-Some.is ∙ ap Some c.if-listed-index.true))
