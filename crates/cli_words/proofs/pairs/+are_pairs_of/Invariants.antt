use Rattle.std.proofs.Common.{length}
use Rattle.cli_words.proofs.pairs.+are_pairs_of.Given as goal

abbrev pub decreases-are_pairs_of : goal.decreases-are_pairs_of
decreases-are_pairs_of l = length l.words.now
