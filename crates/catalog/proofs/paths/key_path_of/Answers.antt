use Rattle.std.proofs.Common.{sym, ◌∙◌}
use Rattle.json_fields.proofs.AnswerLemmas.{along, true_false}
use Rattle.catalog.specs.Entry.{IsPath}
use Rattle.catalog.proofs.EntryLemmas.{key_path_named, key_path_empty, key_path_none}
use Rattle.catalog.proofs.paths.key_path_of.Goals as goal

pub returns-in-Some : goal.returns-in-Some
returns-in-Some c =
    key_path_empty c.args.text.now c.in-Some.path (along (IsPath c.args.text.now) c.in-Some.is c.in_ok-path.ensures) (c.is_empty.ensures.0 c.if-is_empty.true)

pub returns-in-Some-2 : goal.returns-in-Some-2
returns-in-Some-2 c =
    key_path_named c.args.text.now c.in-Some.path (along (IsPath c.args.text.now) c.in-Some.is c.in_ok-path.ensures) (λ empty. true_false (sym (c.is_empty.ensures.1 empty) ∙ c.if-is_empty.false))

pub returns-in-None : goal.returns-in-None
returns-in-None c = key_path_none c.args.text.now (along (IsPath c.args.text.now) c.in-None.is c.in_ok-path.ensures)
