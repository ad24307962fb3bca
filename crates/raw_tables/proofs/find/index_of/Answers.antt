use Rattle.std.proofs.Common.{arith}
use Rattle.raw_tables.proofs.TableLemmas.{found}
use Rattle.raw_tables.proofs.find.index_of.Goals as goal

pub returns-then-is_same : goal.returns-then-is_same
returns-then-is_same c = found c.args.tables.now c.args.id.now c.loop-index.index c.index-tables-index.result (omega arith) c.index-tables-index.is (cc) c.loop-index.invariant.reads c.loop-index.invariant.changes
