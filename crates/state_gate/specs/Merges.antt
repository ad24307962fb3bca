-- One pass over records in order, beside sequences: each record whose sequence is the next of them goes.
use Rattle.std.specs.Prelude.{ℕ, ◌==◌, List, [], ◌∷◌, if◌then◌else◌}
use Rattle.state_gate.specs.declared.pending.Accepted.{Accepted}

-- the records that stay
abbrev pub passed_over : List ℕ → List Accepted → List Accepted
passed_over [] records = records
passed_over (seq ∷ seqs) [] = []
passed_over (seq ∷ seqs) (accepted ∷ records) = if seq == accepted.seq then passed_over seqs records else accepted ∷ passed_over (seq ∷ seqs) records

-- the sequences that are left
abbrev pub left_over : List ℕ → List Accepted → List ℕ
left_over [] records = []
left_over (seq ∷ seqs) [] = seq ∷ seqs
left_over (seq ∷ seqs) (accepted ∷ records) = if seq == accepted.seq then left_over seqs records else left_over (seq ∷ seqs) records
