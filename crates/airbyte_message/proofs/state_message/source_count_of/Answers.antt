use Rattle.std.proofs.Common.{ap, codes}
use Rattle.std.proofs.lemmas.Result.{IfOk-weaker}
use Rattle.std.specs.Option.{option_copied}
use Rattle.json_fields.specs.Fields.{HasOptional}
use Rattle.json_fields.proofs.AnswerLemmas.{along_only}
use Rattle.airbyte_message.proofs.StateLemmas.{has_stats, has_stats_absent}
use Rattle.airbyte_message.proofs.state_message.source_count_of.Goals as goal

pub returns-in-Some : goal.returns-in-Some
returns-in-Some c =
    let optional = along_only (HasOptional c.args.text.now (codes "sourceStats")) (ap option_copied c.in-Some.is) c.in_ok-stats.ensures in
    IfOk-weaker c.stats_of.result _ _ (λ found answer. has_stats c.args.text.now c.in-Some.stats.now found optional answer) c.stats_of.ensures

pub returns-in-None : goal.returns-in-None
returns-in-None c =
    has_stats_absent c.args.text.now (along_only (HasOptional c.args.text.now (codes "sourceStats")) (ap option_copied c.in-None.is) c.in_ok-stats.ensures)
