use Rattle.std.proofs.Common.{nat_lt, nat_le, arith, rules}
use Rattle.std.proofs.lemmas.List.Sorted.{IsPartitionPoint-from_clause, IsPartitionedBy-ltb}
use Rattle.merc_simple_goals.proofs.Within.{not_before, parted}
use Rattle.merc_simple_goals.proofs.places.count_before.Goals as goal

pub returns-clause-before : goal.returns-clause-before
returns-clause-before c =
    let place = c.args.place in
    let places = c.args.places.now in
    let point = IsPartitionPoint-from_clause (λ other. nat_lt other place) places c.partition_point.result c.partition_point.ensures.partitioned
    (IsPartitionedBy-ltb (λ other. other) places place c.requires) (λ a r q k. search rules) in
    (parted (λ other. nat_lt other place) (λ other. nat_le place other) (not_before place) places c.partition_point.result c.partition_point.ensures.bound (λ k d less. point.0 k d (omega arith) less) (λ k d from less. point.1 k d from less)).0

pub returns-clause-behind : goal.returns-clause-behind
returns-clause-behind c =
    let place = c.args.place in
    let places = c.args.places.now in
    let point = IsPartitionPoint-from_clause (λ other. nat_lt other place) places c.partition_point.result c.partition_point.ensures.partitioned
    (IsPartitionedBy-ltb (λ other. other) places place c.requires) (λ a r q k. search rules) in
    (parted (λ other. nat_lt other place) (λ other. nat_le place other) (not_before place) places c.partition_point.result c.partition_point.ensures.bound (λ k d less. point.0 k d (omega arith) less) (λ k d from less. point.1 k d from less)).1
