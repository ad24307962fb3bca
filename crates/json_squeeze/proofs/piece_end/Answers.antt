use Rattle.json_squeeze.proofs.Runs.{pair_kept}
use Rattle.json_squeeze.proofs.piece_end.Goals as goal

pub returns-then-at-text-clause-kept : goal.returns-then-at-text-clause-kept
returns-then-at-text-clause-kept c = pair_kept c.args.text.now c.args.at c.if-at-text.true c.requires.unquoted c.if-text-at-eq92.true
