-- What a load holds, by its events and by its acts.
use Rattle.std.proofs.Common.{ℕ, List, sym, ◌∙◌, ap}
use Rattle.load_rules.specs.Lines.{lines_read}
use Rattle.load_rules.specs.Taken.{entries, without}
use Rattle.load_rules.specs.Loads.{tooks}
use Rattle.load_rules.specs.Acts.{committed}
use Rattle.load_rules.specs.Laws.{HeldAreUncommitted}
use Rattle.load_rules.proofs.Pipes.{acts_taken}
use Rattle.load_rules.proofs.SafeCommits.{committed_are}

pub held_are_uncommitted : HeldAreUncommitted
held_are_uncommitted read acts events are =
    ap (λ (seqs : List ℕ). without seqs (entries (lines_read read (tooks events)))) (sym (committed_are read acts events are))
    ∙ ap (λ lines. without (committed acts) (entries lines)) (sym (acts_taken read acts events are))
