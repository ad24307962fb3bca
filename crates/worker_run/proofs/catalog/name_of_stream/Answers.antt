use Rattle.std.proofs.Common.{ap}
use Rattle.std.proofs.lemmas.Result.{IfOk-weaker}
use Rattle.std.specs.Option.{option_copied}
use Rattle.worker_run.proofs.CatalogLemmas.{uncut, has_namespace, named_answer}
use Rattle.worker_run.proofs.catalog.name_of_stream.Goals as goal

pub returns-in_default : goal.returns-in_default
returns-in_default c =
    λ name is. uncut c.args.stream.now c.in_ok-members.field-0 c.in_default.is c.in_ok-members.ensures.none is.name_text.field.members is.name_text.field.object

pub returns-in-Some-2 : goal.returns-in-Some-2
returns-in-Some-2 c =
    has_namespace c.args.stream.now c.in-Some-2.field-0.now (option_copied c.in_ok-optional.field-0) (ap option_copied c.in-Some-2.is) c.in_ok-optional.ensures

pub returns : goal.returns
returns c =
    IfOk-weaker c.text_field.result _ _ (λ found answer. named_answer c.args.stream.now (option_copied c.in_ok-optional.field-0) found (ap option_copied c.in-None.is) c.in_ok-optional.ensures answer) c.text_field.ensures
