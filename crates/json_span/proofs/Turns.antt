-- What the loop over members keeps: the machine on what was read, and whether a next key begins.
use Rattle.std.proofs.Common.{◌≡◌, ℕ, ◌<◌, ◌⊎◌, Bool, true, List, length, get_or}
use Rattle.json_span.specs.Table.{move_of}
use Rattle.json_span.specs.Machine.{IsTaken}
use Rattle.json_span.specs.declared.table.Move.TheVariants as moves
use Rattle.json_span.specs.declared.machine.Machine.{Machine}

pub record AreTaken (text : List ℕ) (m : Machine) (from : ℕ) (after : Machine) (to : ℕ) (more : Bool) : Type 0 where
  pub taken : IsTaken text m from after to
  pub begins : more ≡ true → (to < length text) × (move_of after.phase (get_or text to 0) ≡ moves.BeginKey)
  pub further : (more ≡ true) ⊎ (from < to)
