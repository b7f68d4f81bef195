use Rattle.std.proofs.Common.{nat_lt, nat_le, arith, rules}
use Rattle.std.proofs.lemmas.List.Sorted.{IsPartitionPoint-from_clause, IsPartitionedBy-leb}
use Rattle.merc_rights.proofs.RowLaws.{parted, not_up_to}
use Rattle.merc_rights.proofs.MemberLaws.{counted}
use Rattle.merc_rights.proofs.members.count_up_to.Goals as goal

pub returns : goal.returns
returns c =
    let place = c.args.place in
    let places = c.args.places.now in
    let point = IsPartitionPoint-from_clause (λ other. nat_le other place) places c.partition_point.result c.partition_point.ensures.partitioned
    (IsPartitionedBy-leb (λ other. other) places place c.requires) (λ a r q k. search rules) in
    counted place c.partition_point.result places c.partition_point.ensures.bound
    (parted (λ other. nat_le other place) (λ other. nat_lt place other) (λ other. not_up_to place other) places c.partition_point.result c.partition_point.ensures.bound
    (λ k d less. point.0 k d (omega arith) less) (λ k d from less. point.1 k d from less)).0
