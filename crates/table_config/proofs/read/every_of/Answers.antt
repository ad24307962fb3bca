use Rattle.std.proofs.Common.{ℕ, List, Option, sym, subst}
use Rattle.json_fields.specs.Answer.{IsAnswer}
use Rattle.table_config.specs.Config.{IsEvery, IsInRange}
use Rattle.table_config.proofs.read.every_of.Goals as goal

pub returns-in-Some : goal.returns-in-Some
returns-in-Some c =
    subst (λ (number : Option (List ℕ)). IsAnswer (IsEvery number) c.every_in_range.result) (sym c.in-Some.is)
    (subst (λ (text : List ℕ). IsAnswer (IsInRange text) c.every_in_range.result) c.as_slice.ensures c.every_in_range.ensures)
