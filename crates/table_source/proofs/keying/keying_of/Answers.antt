use Rattle.std.proofs.Common.{List, ℕ, subst}
use Rattle.column_types.specs.Columns.{AreColumns}
use Rattle.table_source.proofs.keying.keying_of.Goals as goal

pub returns : goal.returns
returns c = record {
  columns = subst (λ (text : List ℕ). AreColumns text c.in_ok-columns_of.field-0) c.as_slice.ensures c.in_ok-columns_of.ensures;
  key = c.in_ok-copy.ensures.copied;
  cursor = c.in_ok-copy-2.ensures.copied;
}
