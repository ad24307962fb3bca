use Rattle.std.proofs.Common.{List, ℕ, Option, ap, codes, subst, sym}
use Rattle.std.specs.Option.{option_copied}
use Rattle.json_fields.specs.Fields.{HasField}
use Rattle.json_fields.proofs.AnswerLemmas.{along}
use Rattle.batch_prep.specs.Written.{HasCome}
use Rattle.batch_prep.proofs.WrittenLemmas.{came_no_field}
use Rattle.batch_prep.proofs.changes.changes_with.Goals as goal

pub returns-in-None : goal.returns-in-None
returns-in-None c =
    let none = along (HasField c.in-Some.text.now (codes "changes")) (ap option_copied c.in-None.is) c.in_ok-list.ensures in
    subst (λ (meta : Option (List ℕ)). HasCome meta c.in_ok-changes.changes) (sym (ap option_copied c.in-Some.is))
    (came_no_field c.in-Some.text.now c.in_ok-changes.changes none c.in_ok-changes.ensures)
