use Rattle.std.proofs.Common.{arith}
use Rattle.hm_large.proofs.Entries.{kept_built, region_of}
use Rattle.hm_large.proofs.heap.LargeHeap.build.Goals as goal

pub invariant_of-result : goal.invariant_of-result
invariant_of-result g c = (
  kept_built g.P.Pages c.args.pages c.args.config.now c.args.seed c.new.result.entries c.in_ok-store.store c.requires.valid c.requires.nothing c.requires.count c.requires.owned c.new.ensures.entries c.in_ok-store.ensures,
  omega (arith, c.in_ok-store.ensures.owed_is),
  c.new.ensures.holds,
)

pub returns-clause-region : goal.returns-clause-region
returns-clause-region g c =
    region_of g.P.Pages _ _ (invariant_of-result g c)
