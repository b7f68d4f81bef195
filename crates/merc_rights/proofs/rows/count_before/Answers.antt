use Rattle.std.proofs.Common.{nat_lt, nat_le, arith, rules}
use Rattle.std.proofs.lemmas.List.Sorted.{IsPartitionPoint-from_clause, IsPartitionedBy-ltb}
use Rattle.merc_rights.proofs.RowLaws.{parted, not_before}
use Rattle.merc_rights.proofs.rows.count_before.Goals as goal

pub returns-clause-behind : goal.returns-clause-behind
returns-clause-behind g c =
    let number = c.args.number in
    let items = c.args.items.now in
    let point = IsPartitionPoint-from_clause (λ item. nat_lt item.0 number) items c.partition_point.result c.partition_point.ensures.partitioned
    (IsPartitionedBy-ltb (λ item. item.0) items number c.requires) (λ a r q k. search rules) in
    (parted (λ item. nat_lt item.0 number) (λ item. nat_le number item.0) (λ item. not_before number item.0) items c.partition_point.result c.partition_point.ensures.bound
    (λ k d less. point.0 k d (omega arith) less) (λ k d from less. point.1 k d from less)).1
