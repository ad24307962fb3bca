use Rattle.std.proofs.Common.{arith}
use Rattle.json_fields.specs.Parts.{IsCount}
use Rattle.json_fields.proofs.AnswerLemmas.{along}
use Rattle.json_fields.proofs.PartLemmas.{count_answer}
use Rattle.table_config.proofs.ConfigLemmas.{above, below, in_range, no_count}
use Rattle.table_config.proofs.read.every_in_range.Goals as goal

pub returns-in_default : goal.returns-in_default
returns-in_default c =
    let known = c.whole_of.ensures in
    no_count c.args.text.now (along (IsCount c.args.text.now) c.in_default.is (count_answer c.args.text.now c.whole_of.result known.found known.small known.only known.none))

pub returns-then-every-lt1 : goal.returns-then-every-lt1
returns-then-every-lt1 c =
    let known = c.whole_of.ensures in
    below c.args.text.now c.in-Some.every (along (IsCount c.args.text.now) c.in-Some.is (count_answer c.args.text.now c.whole_of.result known.found known.small known.only known.none)) c.if-every-lt1.true

pub returns-then-every-gt-MOST_EVERY : goal.returns-then-every-gt-MOST_EVERY
returns-then-every-gt-MOST_EVERY c =
    let known = c.whole_of.ensures in
    above c.args.text.now c.in-Some.every (along (IsCount c.args.text.now) c.in-Some.is (count_answer c.args.text.now c.whole_of.result known.found known.small known.only known.none)) c.if-every-gt-MOST_EVERY.true

pub returns : goal.returns
returns c =
    let known = c.whole_of.ensures in
    in_range c.args.text.now c.in-Some.every (along (IsCount c.args.text.now) c.in-Some.is (count_answer c.args.text.now c.whole_of.result known.found known.small known.only known.none))
    (omega (arith, c.if-every-lt1.false)) c.if-every-gt-MOST_EVERY.false
