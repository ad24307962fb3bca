use Rattle.std.proofs.Common.{◌≡◌, ◌≤◌, ◌++◌, take, drop, length, vec_len, vec_capacity}
use Rattle.state_gate.specs.Merges.{passed_over, left_over}
use Rattle.state_gate.proofs.merge.drop_in_order.Given as goal

abbrev pub invariant-loop-index : goal.invariant-loop-index
invariant-loop-index l = record {
  kept : l.kept ≤ l.index;
  met : l.met ≤ length l.seqs;
  same : drop l.index l.records.items ≡ drop l.index l.initial.records.items;
  items : take l.kept l.records.items ++ passed_over (drop l.met l.seqs) (drop l.index l.initial.records.items) ≡ passed_over l.seqs l.initial.records.items;
  left : left_over (drop l.met l.seqs) (drop l.index l.initial.records.items) ≡ left_over l.seqs l.initial.records.items;
  len : vec_len l.records ≡ vec_len l.initial.records;
  capacity : vec_capacity l.records ≡ vec_capacity l.initial.records;
}
