use Rattle.std.proofs.Common.{◌+◌, drop, arith}
use Rattle.json_squeeze.specs.Squeeze.{squeezed, in_string}
use Rattle.json_squeeze.proofs.Runs.{quote_kept, kept_more}
use Rattle.json_squeeze.proofs.shown_end.Goals as goal

pub returns-then-text-from-eq34-clause-kept : goal.returns-then-text-from-eq34-clause-kept
returns-then-text-from-eq34-clause-kept c =
    kept_more c.args.text.now (squeezed (drop c.args.from c.args.text.now)) c.args.from (c.args.from + 1) c.string_end.result in_string squeezed (omega arith) c.string_end.ensures.range.0
    (quote_kept c.args.text.now c.args.from c.requires.inside c.if-text-from-eq34.true) c.string_end.ensures.kept
