use Rattle.std.proofs.Common.{◌≢◌, ◌-◌, arith, subst, sym}
use Rattle.std.specs.Prelude.{Option, IfSome}
use Rattle.std.proofs.lemmas.Option.{slice_get-get_or}
use Rattle.hm_space.specs.declared.free_range.FreeRange.{FreeRange}
use Rattle.hm_space.specs.Ranges.{end_of}
use Rattle.hm_space.proofs.Indices.{range_at}
use Rattle.hm_space.proofs.free_list.ending_at.Goals as goal

pub end-requires : goal.end-requires
end-requires c = (range_at 0 c.args.ranges.now (c.args.index - 1) _ c.requires.apart (slice_get-get_or c.args.ranges.now (c.args.index - 1) _ (omega arith))).below

pub returns-then-end-at-clause-some : goal.returns-then-end-at-clause-some
returns-then-end-at-clause-some c = (omega arith, slice_get-get_or c.args.ranges.now (c.args.index - 1) _ (omega arith), omega arith)

pub returns-else-end-at-clause-none : goal.returns-else-end-at-clause-none
returns-else-end-at-clause-none c some =
    subst (λ (o : Option FreeRange). IfSome o (λ r. end_of r ≢ c.args.at)) (sym (slice_get-get_or c.args.ranges.now (c.args.index - 1) record { start = 0; len = 0 } (omega arith))) (λ e. omega arith)
