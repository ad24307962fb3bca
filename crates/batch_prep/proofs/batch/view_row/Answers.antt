use Rattle.airbyte_message.specs.Views.{message_at}
use Rattle.batch_prep.proofs.RowLemmas.{adds_none, adds_row}
use Rattle.batch_prep.proofs.batch.view_row.Goals as goal

pub returns-in_ok-row-in-Some : goal.returns-in_ok-row-in-Some
returns-in_ok-row-in-Some c = λ later. adds_row c.args.plan.now c.args.line.now (message_at c.args.view.now) c.in-Some.content c.in_ok-row-in-Some.row later c.requires.message c.in-Some.ensures.some c.in_ok-row-in-Some.ensures

pub returns-in-None : goal.returns-in-None
returns-in-None c = λ later. adds_none c.args.plan.now c.args.line.now (message_at c.args.view.now) later c.requires.message c.in-None.ensures.none
