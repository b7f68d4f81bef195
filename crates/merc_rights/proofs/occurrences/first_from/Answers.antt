use Rattle.std.proofs.Common.{nat_lt, arith, rules, ◌∙◌}
use Rattle.std.proofs.lemmas.List.Sorted.{IsPartitionPoint-from_clause, IsPartitionedBy-ltb}
use Rattle.merc_rights.proofs.Indexes.{found_at}
use Rattle.merc_rights.proofs.occurrences.first_from.Goals as goal

pub returns : goal.returns
returns c =
    let from = c.args.from in
    let row = c.args.row.now in
    let point = IsPartitionPoint-from_clause (λ item. nat_lt item.1 from) row c.partition_point.result c.partition_point.ensures.partitioned
    (IsPartitionedBy-ltb (λ item. item.1) row from c.requires) (λ a r q k. search rules) in
    c.number_at.ensures
    ∙ found_at row from c.partition_point.result c.partition_point.ensures.bound (λ k d less. point.0 k d (omega arith) less) (λ k d from less. point.1 k d from less)
