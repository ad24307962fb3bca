use Rattle.std.proofs.Common.{rules}
use Rattle.std.proofs.lemmas.List.Sorted.{IsPartitionPoint-from_clause}
use Rattle.raw_tables.proofs.BehindLemmas.{stands_up_to, parted, front_up_to, rest_behind}
use Rattle.raw_tables.proofs.read.count_up_to.Goals as goal

pub returns : goal.returns
returns c =
    let rows = c.args.rows.now in
    let count = c.partition_point.result in
    let point = IsPartitionPoint-from_clause (stands_up_to c.args.mark) rows count c.partition_point.ensures.partitioned (parted c.args.mark rows c.requires) (λ a r q k. search rules) in
    record {
      within = c.partition_point.ensures.bound;
      up_to = front_up_to c.args.mark rows count c.partition_point.ensures.bound point.0;
      behind = rest_behind c.args.mark rows count point.1;
    }
