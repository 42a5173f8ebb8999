use Rattle.std.proofs.Common.{rules}
use Rattle.std.proofs.lemmas.List.Sorted.{IsPartitionPoint-from_clause, IsPartitionedBy-ltb}
use Rattle.lock_table.specs.Orders.{is_up_to, lock_at, rank, rank_of}
use Rattle.lock_table.proofs.places.count_up_to.Goals as goal

pub returns-clause-point : goal.returns-clause-point
returns-clause-point c =
    let owned = c.args.owned.now in
    let parted = IsPartitionedBy-ltb (λ p. rank_of (lock_at owned p)) c.args.places.now (rank c.args.table c.args.key 65536) c.requires in
    IsPartitionPoint-from_clause (is_up_to owned c.args.table c.args.key) _ _ c.partition_point.ensures.partitioned parted (λ a r q k. search rules)
