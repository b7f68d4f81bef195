use Rattle.std.proofs.Common.{nat_lt, nat_le, arith, rules}
use Rattle.std.proofs.lemmas.List.Sorted.{IsPartitionPoint-from_clause, IsPartitionedBy-ltb}
use Rattle.merc_rights.proofs.RowLaws.{parted, not_before}
use Rattle.merc_rights.proofs.groups.zeros.Goals as goal

pub returns-clause-front : goal.returns-clause-front
returns-clause-front c =
    let numbers = c.args.numbers.now in
    let point = IsPartitionPoint-from_clause (λ n. nat_lt n 1) numbers c.partition_point.result c.partition_point.ensures.partitioned
    (IsPartitionedBy-ltb (λ n. n) numbers 1 c.requires) (λ a r q k. search rules) in
    (parted (λ n. nat_lt n 1) (λ n. nat_le 1 n) (λ n. not_before 1 n) numbers c.partition_point.result c.partition_point.ensures.bound
    (λ k d less. point.0 k d (omega arith) less) (λ k d from less. point.1 k d from less)).0

pub returns-clause-back : goal.returns-clause-back
returns-clause-back c =
    let numbers = c.args.numbers.now in
    let point = IsPartitionPoint-from_clause (λ n. nat_lt n 1) numbers c.partition_point.result c.partition_point.ensures.partitioned
    (IsPartitionedBy-ltb (λ n. n) numbers 1 c.requires) (λ a r q k. search rules) in
    (parted (λ n. nat_lt n 1) (λ n. nat_le 1 n) (λ n. not_before 1 n) numbers c.partition_point.result c.partition_point.ensures.bound
    (λ k d less. point.0 k d (omega arith) less) (λ k d from less. point.1 k d from less)).1
