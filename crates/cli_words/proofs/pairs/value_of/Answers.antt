use Rattle.std.proofs.Common.{◌∙◌, string_bytes}
use Rattle.cli_words.proofs.PairLemmas.{none_short}
use Rattle.cli_words.proofs.pairs.value_of.Goals as goal

pub returns : goal.returns
returns c = none_short string_bytes c.args.option.now c.loop-rest.rest.now c.in_default.len_below ∙ c.loop-rest.invariant
