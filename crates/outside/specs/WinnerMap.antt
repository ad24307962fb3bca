-- Rows in a map under their own keys.
use Rattle.std.specs.Prelude.{◌≡◌, ℕ, List}
use Rattle.std.specs.List.{AllByRecursion}
use Rattle.std.specs.Prelude.{Vec}
use Rattle.std.specs.Global.{Global}
use Rattle.outside.specs.declared.event.RawRow.{RawRow}

abbrev pub AreUnderKeys : List (Vec ℕ Global × RawRow) → Type 0
AreUnderKeys entries = AllByRecursion (λ entry. entry.0.items ≡ entry.1.key) entries
