use Rattle.std.proofs.Common.{rules}
use Rattle.json_span.proofs.FirstArray.{no_array}
use Rattle.json_span.proofs.lists.cut_array.Goals as goal

pub unreachable-requires : goal.unreachable-requires
unreachable-requires c = no_array c.args.value.now (c.in-Err-NotArray.ensures.not_array (search rules)) c.requires.array
