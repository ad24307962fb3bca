use Rattle.std.proofs.Common.{ℕ, min, None, Option, sym, subst}
use Rattle.std.specs.Option.{option_copied}
use Rattle.json_fields.specs.Answer.{IsAnswer}
use Rattle.json_fields.proofs.AnswerLemmas.{along}
use Rattle.outside.specs.declared.load.Limits.{Limits}
use Rattle.dest_config.specs.Config.{Says, SaysLimits}
use Rattle.dest_config.proofs.LimitLemmas.{limits_answer, no_batch}
use Rattle.dest_config.proofs.config.limits_of.Goals as goal

pub returns-in_err-batch : goal.returns-in_err-batch
returns-in_err-batch c =
    let batch = option_copied c.args.batch in
    let none = subst (λ (n : ℕ). IsAnswer (Says n batch) None) c.min.ensures (along (Says c.min.result batch) c.in_err-batch.was c.said-3.ensures) in
    subst (λ (found : Option Limits). IsAnswer (SaysLimits (option_copied c.args.slots) (option_copied c.args.bytes) batch (option_copied c.args.workers)) found) (sym c.from_residual-in_err-batch.ensures)
    (no_batch (option_copied c.args.slots) (option_copied c.args.bytes) batch (option_copied c.args.workers) c.in_ok-slots.slots (along (Says 4096 (option_copied c.args.slots)) c.in_ok-slots.was c.said.ensures) none)

pub returns : goal.returns
returns c =
    let slots = option_copied c.args.slots in
    let bytes = option_copied c.args.bytes in
    let batch = option_copied c.args.batch in
    let workers = option_copied c.args.workers in
    limits_answer slots bytes batch workers c.in_ok-slots.slots c.in_ok-bytes.bytes c.in_ok-batch.batch c.in_ok-workers.workers c.limits_with.result (record {
      slots_said = along (Says 4096 slots) c.in_ok-slots.was c.said.ensures;
      bytes_said = along (Says 67108864 bytes) c.in_ok-bytes.was c.said-2.ensures;
      batch_said = along (Says (min 1000 c.in_ok-slots.slots) batch) c.in_ok-batch.was (subst (λ (n : ℕ). IsAnswer (Says n batch) c.said-3.result) c.min.ensures c.said-3.ensures);
      workers_said = along (Says 2 workers) c.in_ok-workers.was c.said-4.ensures;
    }) c.limits_with.ensures
