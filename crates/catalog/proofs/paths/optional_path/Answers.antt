use Rattle.std.proofs.Common.{ap}
use Rattle.std.specs.Option.{option_copied}
use Rattle.std.proofs.lemmas.Result.{IfOk-weaker}
use Rattle.json_fields.specs.Fields.{HasOptional}
use Rattle.json_fields.proofs.AnswerLemmas.{along_only}
use Rattle.catalog.specs.Entry.{IsPath}
use Rattle.catalog.proofs.ListLemmas.{optional_list, no_optional_list}
use Rattle.catalog.proofs.paths.optional_path.Goals as goal

pub returns-in-Some : goal.returns-in-Some
returns-in-Some c =
    let text = c.args.text.now in
    let name = c.args.name.now in
    let held = along_only (HasOptional text name) (ap option_copied c.in-Some.is) c.in_ok-held.ensures in
    IfOk-weaker c.path_of.result _ _ (λ found answer. optional_list IsPath text name c.in-Some.held.now found held answer) c.path_of.ensures

pub returns-in-None : goal.returns-in-None
returns-in-None c =
    let text = c.args.text.now in
    let name = c.args.name.now in
    no_optional_list IsPath text name c.new.result c.new.ensures (along_only (HasOptional text name) (ap option_copied c.in-None.is) c.in_ok-held.ensures)
