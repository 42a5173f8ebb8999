use Rattle.std.proofs.Common.{rules}
use Rattle.std.proofs.lemmas.List.Sorted.{IsPartitionPoint-from_clause, IsPartitionedBy-ltb}
use Rattle.lock_table.specs.Orders.{is_before, lock_at, rank_of, spot_rank}
use Rattle.lock_table.proofs.places.count_before.Goals as goal

pub returns-clause-point : goal.returns-clause-point
returns-clause-point c =
    let owned = c.args.owned.now in
    let parted = IsPartitionedBy-ltb (λ p. rank_of (lock_at owned p)) c.args.places.now (spot_rank c.args.spot) c.requires in
    IsPartitionPoint-from_clause (is_before owned c.args.spot) _ _ c.partition_point.ensures.partitioned parted (λ a r q k. search rules)
