use Rattle.std.proofs.Common.{subst}
use Rattle.hm_class.specs.Region.{Region, IsRegion}
use Rattle.hm_class.proofs.Entries.{region_of}
use Rattle.hm_class.proofs.heap.ClassHeap.into_entries.Goals as goal

pub returns-clause-region : goal.returns-clause-region
returns-clause-region g c =
    subst (λ (r : Region _). IsRegion g.P.Pages r) c.self.view_is
    (region_of g.P.Pages c.self.inside.identity _ _ _ _ c.self.invariant)
