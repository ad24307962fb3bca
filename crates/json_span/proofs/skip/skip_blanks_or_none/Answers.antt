use Rattle.json_span.proofs.Run.{skipped_none}
use Rattle.json_span.proofs.skip.skip_blanks_or_none.Goals as goal

pub returns-in-Nothing-clause-skipped : goal.returns-in-Nothing-clause-skipped
returns-in-Nothing-clause-skipped c = skipped_none c.args.run c.args.text.now c.args.from
