use Rattle.std.proofs.Common.{nat_lt, rules, arith}
use Rattle.std.proofs.lemmas.List.Sorted.{IsPartitionPoint-from_clause}
use Rattle.hm_sizes.specs.declared.table.SizeClass.{SizeClass}
use Rattle.hm_sizes.specs.declared.table.TheConstants.{SIZE_CLASSES}
use Rattle.hm_sizes.proofs.Requests.{IsFound, parted, small_kind, large_kind}
use Rattle.hm_sizes.proofs.class.class_of.Goals as goal

pub returns-then-class-lt49 : goal.returns-then-class-lt49
returns-then-class-lt49 c =
    let found : IsFound c.args.asked c.partition_point-class.result =
    IsPartitionPoint-from_clause (λ (r : SizeClass). nat_lt r.greatest c.args.asked) SIZE_CLASSES _ c.partition_point-class.ensures.partitioned (parted c.args.asked) (λ a r q k. search rules) in
    small_kind c.args.asked c.partition_point-class.result (omega arith) found

pub returns-else-class-lt49 : goal.returns-else-class-lt49
returns-else-class-lt49 c =
    let found : IsFound c.args.asked c.partition_point-class.result =
    IsPartitionPoint-from_clause (λ (r : SizeClass). nat_lt r.greatest c.args.asked) SIZE_CLASSES _ c.partition_point-class.ensures.partitioned (parted c.args.asked) (λ a r q k. search rules) in
    (large_kind c.args.asked c.partition_point-class.result (omega arith) found, omega arith, search rules)
