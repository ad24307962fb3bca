use Rattle.std.proofs.Common.{ap, None, Some, codes}
use Rattle.std.proofs.lemmas.Result.{IfOk-weaker}
use Rattle.std.specs.Option.{option_copied}
use Rattle.json_fields.specs.Fields.{HasField}
use Rattle.worker_run.proofs.CatalogLemmas.{along, uncut, catalog_answer, no_entry}
use Rattle.worker_run.proofs.catalog.stream_of.Goals as goal

pub returns-in_default : goal.returns-in_default
returns-in_default c =
    λ name is. uncut c.args.text.now c.in_ok-members.field-0 c.in_default.is c.in_ok-members.ensures.none is.field.members is.field.object

pub returns-in_default-2 : goal.returns-in_default-2
returns-in_default-2 c =
    let none = along (HasField c.args.text.now (codes "streams")) (option_copied c.in_ok-streams.field-0) None (ap option_copied c.in_default-2.is) c.in_ok-streams.ensures.field in
    λ name is. none is.streams is.field

pub returns-in-Some-between_brackets : goal.returns-in-Some-between_brackets
returns-in-Some-between_brackets c =
    let field = along (HasField c.args.text.now (codes "streams")) (option_copied c.in_ok-streams.field-0) (Some c.in-Some-2.streams.now) (ap option_copied c.in-Some-2.is) c.in_ok-streams.ensures.field in
    IfOk-weaker c.stream_of_entry.result _ _ (λ found answer. catalog_answer c.args.text.now c.in-Some-2.streams.now c.in-Some-between_brackets.entry.now found field c.in-Some-between_brackets.ensures.found answer) c.stream_of_entry.ensures

pub returns : goal.returns
returns c =
    let field = along (HasField c.args.text.now (codes "streams")) (option_copied c.in_ok-streams.field-0) (Some c.in-Some-2.streams.now) (ap option_copied c.in-Some-2.is) c.in_ok-streams.ensures.field in
    no_entry c.args.text.now c.in-Some-2.streams.now field c.in-None.ensures.none
