-- Counts of faults of saying over a run.
use Rattle.std.proofs.Common.{◌≢◌, inl, inr, ℕ, List, Option, ◌∙◌, subst}
use Rattle.worker_run.specs.declared.end.End.{End}
use Rattle.worker_run.specs.declared.end.End.TheVariants as how
use Rattle.worker_run.specs.Faults.{StaysUnlessSayFault}
use Rattle.worker_run.specs.Reading.{SaysLast, WritesOut}

-- where the last line was said behind this end, no line had failed
not_before : (end last : End) (before now : Option (List (List ℕ))) → SaysLast end last before now → last ≢ how.SayFault → end ≢ how.SayFault
not_before end last before now says not = λ is. not (subst (λ (e : End). SaysLast e last before now) is says).0

-- the lines, the last line, and what was said written out
pub stays_through : (end last result : End) (a b c d : ℕ) (before now : Option (List (List ℕ))) → StaysUnlessSayFault end a b → StaysUnlessSayFault last b c → StaysUnlessSayFault result c d → SaysLast end last before now → WritesOut last result → StaysUnlessSayFault result a d
stays_through end last result a b c d before now lines line out says (inl is) = λ not.
    let last_not : last ≢ how.SayFault = subst (λ (e : End). e ≢ how.SayFault) is not in
    out not ∙ (line last_not ∙ lines (not_before end last before now says last_not))
stays_through end last result a b c d before now lines line out says (inr is) = λ not. absurd (not is)
