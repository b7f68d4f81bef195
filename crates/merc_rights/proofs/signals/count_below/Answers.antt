use Rattle.std.proofs.Common.{nat_lt, nat_le, arith, rules}
use Rattle.std.proofs.lemmas.List.Sorted.{IsPartitionPoint-from_clause, IsPartitionedBy-ltb}
use Rattle.merc_rights.proofs.RowLaws.{parted, not_before}
use Rattle.merc_rights.proofs.signals.count_below.Goals as goal

pub returns-clause-front : goal.returns-clause-front
returns-clause-front c =
    let number = c.args.number in
    let groups = c.args.groups.now in
    let point = IsPartitionPoint-from_clause (λ item. nat_lt item.number number) groups c.partition_point.result c.partition_point.ensures.partitioned
    (IsPartitionedBy-ltb (λ item. item.number) groups number c.requires) (λ a r q k. search rules) in
    (parted (λ item. nat_lt item.number number) (λ item. nat_le number item.number) (λ item. not_before number item.number) groups c.partition_point.result c.partition_point.ensures.bound
    (λ k d less. point.0 k d (omega arith) less) (λ k d from less. point.1 k d from less)).0

pub returns-clause-back : goal.returns-clause-back
returns-clause-back c =
    let number = c.args.number in
    let groups = c.args.groups.now in
    let point = IsPartitionPoint-from_clause (λ item. nat_lt item.number number) groups c.partition_point.result c.partition_point.ensures.partitioned
    (IsPartitionedBy-ltb (λ item. item.number) groups number c.requires) (λ a r q k. search rules) in
    (parted (λ item. nat_lt item.number number) (λ item. nat_le number item.number) (λ item. not_before number item.number) groups c.partition_point.result c.partition_point.ensures.bound
    (λ k d less. point.0 k d (omega arith) less) (λ k d from less. point.1 k d from less)).1
