use Rattle.std.proofs.Common.{List, ℕ, None, ap, subst}
use Rattle.std.specs.Option.{option_map}
use Rattle.json_fields.specs.Answer.{IsAnswer}
use Rattle.json_fields.proofs.AnswerLemmas.{along}
use Rattle.airbyte_message.specs.Messages.{IsMessage}
use Rattle.airbyte_message.specs.Views.{message_at}
use Rattle.batch_prep.proofs.RowLemmas.{no_message}
use Rattle.batch_prep.proofs.batch.line_row.Goals as goal

pub returns-in-None : goal.returns-in-None
returns-in-None c = λ later.
    no_message c.args.plan.now c.args.line.now later
    (subst (λ (l : List ℕ). IsAnswer (IsMessage l) None) c.as_slice.ensures (along (IsMessage c.as_slice.result.now) (ap (option_map message_at) c.in-None.is) c.in_ok-view.ensures))
