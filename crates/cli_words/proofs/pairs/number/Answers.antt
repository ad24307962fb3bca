use Rattle.std.proofs.Common.{◌∙◌}
use Rattle.cli_words.proofs.PairLemmas.{parsed}
use Rattle.cli_words.proofs.pairs.number.Goals as goal

pub returns : goal.returns
returns c = c.ok.ensures.value ∙ parsed c.args.word.now c.parse.result c.requires c.parse.ensures.value.0
