use Rattle.std.proofs.Common.{codes}
use Rattle.json_fields.specs.Parts.{HasOptionalCount}
use Rattle.json_fields.proofs.AnswerLemmas.{along}
use Rattle.catalog.proofs.EntryLemmas.{ids_answer, no_generation, no_minimum, no_sync_id}
use Rattle.catalog.proofs.members.ids_of.Goals as goal

pub returns-in_default : goal.returns-in_default
returns-in_default c = no_generation c.args.text.now (along (HasOptionalCount c.args.text.now (codes "generation_id")) c.in_default.is c.in_ok-generation.ensures)

pub returns-in_default-2 : goal.returns-in_default-2
returns-in_default-2 c = no_minimum c.args.text.now (along (HasOptionalCount c.args.text.now (codes "minimum_generation_id")) c.in_default-2.is c.in_ok-minimum.ensures)

pub returns-in-Some-3 : goal.returns-in-Some-3
returns-in-Some-3 c =
    let text = c.args.text.now in
    ids_answer text c.in-Some.generation c.in-Some-2.minimum c.in-Some-3.sync_id
    (along (HasOptionalCount text (codes "generation_id")) c.in-Some.is c.in_ok-generation.ensures)
    (along (HasOptionalCount text (codes "minimum_generation_id")) c.in-Some-2.is c.in_ok-minimum.ensures)
    (along (HasOptionalCount text (codes "sync_id")) c.in-Some-3.is c.in_ok-sync_id.ensures)

pub returns-in-None : goal.returns-in-None
returns-in-None c = no_sync_id c.args.text.now (along (HasOptionalCount c.args.text.now (codes "sync_id")) c.in-None.is c.in_ok-sync_id.ensures)
