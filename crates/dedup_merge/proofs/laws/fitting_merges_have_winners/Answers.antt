use Rattle.dedup_merge.proofs.SideLemmas.{side_fits}
use Rattle.dedup_merge.proofs.laws.fitting_merges_have_winners.Goals as goal

pub returns : goal.returns
returns c = λ events stream fit. (let side = side_fits events stream fit in record { winners_are = side.0; within = side.1 })
