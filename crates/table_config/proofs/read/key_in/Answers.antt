use Rattle.std.proofs.Common.{ap, codes}
use Rattle.std.specs.Option.{option_copied}
use Rattle.std.proofs.lemmas.Result.{IfOk-weaker}
use Rattle.json_fields.specs.Fields.{HasOptional}
use Rattle.json_fields.proofs.AnswerLemmas.{along_only}
use Rattle.catalog.specs.Entry.{IsPath}
use Rattle.catalog.proofs.ListLemmas.{optional_list, no_optional_list}
use Rattle.table_config.proofs.read.key_in.Goals as goal

pub returns-in-Some : goal.returns-in-Some
returns-in-Some c =
    let text = c.args.text.now in
    let held = along_only (HasOptional text (codes "key")) (ap option_copied c.in-Some.is) c.in_ok-held.ensures in
    IfOk-weaker c.names_in.result _ _ (λ found answer. optional_list IsPath text (codes "key") c.in-Some.held.now found held answer) c.names_in.ensures

pub returns-in-None : goal.returns-in-None
returns-in-None c =
    let text = c.args.text.now in
    no_optional_list IsPath text (codes "key") c.new.result c.new.ensures (along_only (HasOptional text (codes "key")) (ap option_copied c.in-None.is) c.in_ok-held.ensures)
