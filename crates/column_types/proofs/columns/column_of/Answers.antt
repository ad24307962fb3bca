use Rattle.std.proofs.Common.{List, ℕ, sym, subst}
use Rattle.json_scalar.specs.Text.{IsString}
use Rattle.column_types.proofs.columns.column_of.Goals as goal

pub unreachable-requires : goal.unreachable-requires
unreachable-requires c =
    let none = rw c.in-None.is at c.in_ok-name.ensures.none in
    none c.requires.name (subst (λ (t : List ℕ). IsString t c.requires.name) (sym c.of-2.ensures) c.requires.key)
