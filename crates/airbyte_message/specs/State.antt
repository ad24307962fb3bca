-- A state as contracts see it.
use Rattle.std.specs.Prelude.{ℕ, List, Option}
use Rattle.airbyte_message.specs.declared.message.StateKind.{StateKind}

-- the text of its object, what it is of, and how many records its source counted
pub record State : Type 0 where
  pub object : List ℕ
  pub kind : StateKind
  pub source_count : Option ℕ
