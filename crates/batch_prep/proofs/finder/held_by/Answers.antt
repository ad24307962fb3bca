use Rattle.json_span.specs.declared.Member.{Member}
use Rattle.batch_prep.proofs.FoundLemmas.{text_by}
use Rattle.batch_prep.proofs.finder.held_by.Goals as goal

abbrev no_member : Member
no_member = record { key = record { start = 0; end = 0 }; value = record { start = 0; end = 0 } }

pub returns-clause-held : goal.returns-clause-held
returns-clause-held c = text_by c.args.body.now c.args.members.now c.args.place no_member c.of.result.now c.requires.place c.of.ensures
