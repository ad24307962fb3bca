use Rattle.std.proofs.Common.{◌≡◌, ◌++◌, take, drop}
use Rattle.outside.specs.declared.table.StreamTable.{StreamTable}
use Rattle.outside.specs.Tables.{table_in, changed}
use Rattle.raw_tables.proofs.find.index_of.Given as goal

-- the tables so far are other streams'
abbrev pub invariant-loop-index : goal.invariant-loop-index
invariant-loop-index l = record {
  reads : table_in (drop l.index l.tables) l.id ≡ table_in l.tables l.id;
  changes : (change : StreamTable → StreamTable) → changed change l.id l.tables ≡ take l.index l.tables ++ changed change l.id (drop l.index l.tables);
}
