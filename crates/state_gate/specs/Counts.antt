-- The counts of records since each lane's last state.
use Rattle.std.specs.Prelude.{ℕ, List, slice_index, slice_set}
use Rattle.state_gate.specs.declared.pending.Lane.{Lane}
use Rattle.state_gate.specs.declared.pending.Lane.TheVariants.{Stream, Global}

abbrev pub taken_from : List ℕ → ℕ → Lane → ℕ
taken_from since all Global = all
taken_from since all (Stream own) = slice_index since own

abbrev pub without_own : List ℕ → Lane → List ℕ
without_own since Global = since
without_own since (Stream own) = slice_set since own 0

abbrev pub without_all : ℕ → Lane → ℕ
without_all all Global = 0
without_all all (Stream own) = all
