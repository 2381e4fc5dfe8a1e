use Rattle.std.proofs.Common.{rules, nat_le}
use Rattle.std.proofs.lemmas.List.Sorted.{IsPartitionPoint-from_clause}
use Rattle.hm_space.specs.declared.free_range.FreeRange.{FreeRange}
use Rattle.hm_space.proofs.Indices.{is_parted, point_is}
use Rattle.hm_space.proofs.free_list.count_begun.Goals as goal

pub returns : goal.returns
returns c =
    let ranges = c.args.ranges.now in
    let below = λ (r : FreeRange). nat_le r.start c.args.at in
    let point = IsPartitionPoint-from_clause below ranges c.partition_point.result c.partition_point.ensures.partitioned (is_parted ranges c.args.at c.requires) (λ a r f q. search rules) in
    point_is ranges c.args.at c.partition_point.result c.partition_point.ensures.bound point
