use Rattle.json_span.proofs.Run.{plain_run}
use Rattle.json_span.proofs.skip.skip_plain.Goals as goal

pub returns-clause-skipped : goal.returns-clause-skipped
returns-clause-skipped c = plain_run c.args.text.now c.args.from c.plain_end.result c.plain_end.ensures.value
