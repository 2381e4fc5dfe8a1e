use Rattle.std.proofs.Common.{sym, subst}
use Rattle.hm_class.specs.Region.{IsRegion as IsClass}
use Rattle.hm_large.specs.Region.{IsRegion as IsLarge}
use Rattle.hm_heap.specs.Lawful.{IsSound}
use Rattle.hm_heap.specs.Regions.{entries_of, pages_of, origin_of}
use Rattle.hm_heap.proofs.ClassRegions.{class_sound}
use Rattle.hm_heap.proofs.LargeRegions.{large_sound}
use Rattle.hm_heap.proofs.region.Region.into_entries.Goals as goal

pub returns-in-Class-clause-sound : goal.returns-in-Class-clause-sound
returns-in-Class-clause-sound g c =
    subst (λ r. IsSound g.P.Pages (origin_of g.P.Pages.told r) (entries_of r) (pages_of r)) (sym c.in-Class.is) (class_sound g.P.Pages c.in-Class.heap.value (subst (IsClass g.P.Pages) c.into_inner.ensures c.into_entries.ensures.region))

pub returns-in-Large-clause-sound : goal.returns-in-Large-clause-sound
returns-in-Large-clause-sound g c =
    subst (λ r. IsSound g.P.Pages (origin_of g.P.Pages.told r) (entries_of r) (pages_of r)) (sym c.in-Large.is) (large_sound g.P.Pages c.in-Large.heap.value (subst (IsLarge g.P.Pages) c.into_inner-in-Large.ensures c.into_entries-in-Large.ensures.region))
