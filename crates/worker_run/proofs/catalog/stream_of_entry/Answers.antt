use Rattle.std.proofs.Common.{ap, None, Some, codes}
use Rattle.std.proofs.lemmas.Result.{IfOk-weaker}
use Rattle.std.specs.Option.{option_copied}
use Rattle.json_fields.specs.Fields.{HasField}
use Rattle.worker_run.proofs.CatalogLemmas.{along, uncut, entry_answer}
use Rattle.worker_run.proofs.catalog.stream_of_entry.Goals as goal

pub returns-in_default : goal.returns-in_default
returns-in_default c =
    λ name is. uncut c.args.entry.now c.in_ok-members.field-0 c.in_default.is c.in_ok-members.ensures.none is.field.members is.field.object

pub returns-in-Some-2 : goal.returns-in-Some-2
returns-in-Some-2 c =
    let field = along (HasField c.args.entry.now (codes "stream")) (option_copied c.in_ok-stream.field-0) (Some c.in-Some-2.stream.now) (ap option_copied c.in-Some-2.is) c.in_ok-stream.ensures.field in
    IfOk-weaker c.name_of_stream.result _ _ (λ found answer. entry_answer c.args.entry.now c.in-Some-2.stream.now found (c.in_ok-is_append.ensures.0 c.if-not-branch.false) field answer) c.name_of_stream.ensures

pub returns : goal.returns
returns c =
    let none = along (HasField c.args.entry.now (codes "stream")) (option_copied c.in_ok-stream.field-0) None (ap option_copied c.in-None.is) c.in_ok-stream.ensures.field in
    λ name is. none is.stream is.field
