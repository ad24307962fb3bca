use Rattle.dedup_merge.proofs.StandLemmas.{all_merged}
use Rattle.dedup_merge.proofs.laws.all_merged.Goals as goal

pub returns : goal.returns
returns c = all_merged
