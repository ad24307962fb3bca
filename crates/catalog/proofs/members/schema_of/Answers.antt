use Rattle.std.proofs.Common.{ap, codes, Some, None}
use Rattle.std.specs.Option.{option_copied}
use Rattle.std.proofs.lemmas.Result.{IfOk-weaker}
use Rattle.json_fields.specs.Fields.{HasOptional}
use Rattle.json_fields.proofs.AnswerLemmas.{along_only}
use Rattle.catalog.proofs.EntryLemmas.{has_schema}
use Rattle.catalog.proofs.members.schema_of.Goals as goal

pub returns-in-Some : goal.returns-in-Some
returns-in-Some c =
    let held = along_only (HasOptional c.args.stream.now (codes "json_schema")) (ap option_copied c.in-Some.is) c.in_ok-held.ensures in
    IfOk-weaker c.copy_of.result _ _ (λ schema e. has_schema c.args.stream.now schema (Some c.in-Some.held.now) held e) c.copy_of.ensures

pub returns-in-None : goal.returns-in-None
returns-in-None c =
    let held = along_only (HasOptional c.args.stream.now (codes "json_schema")) (ap option_copied c.in-None.is) c.in_ok-held.ensures in
    IfOk-weaker c.copy_of-in-None.result _ _ (λ schema e. has_schema c.args.stream.now schema None held e) c.copy_of-in-None.ensures
