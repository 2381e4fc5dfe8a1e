use Rattle.hm_run.specs.Replayed.{origin_at}
use Rattle.hm_run.proofs.Outcomes.{is_region, lawful, regions_apart}
use Rattle.hm_run.proofs.laws.live_blocks_apart.Goals as goal

pub returns-clause-one_region : goal.returns-clause-one_region
returns-clause-one_region g c = λ o closed index p entries begins a b q.
    c.apart_blocks.ensures.blocks (origin_at g.P.Pages o index p) entries a b q
    (is_region g.P.Pages o closed index p entries begins) (lawful g.P.Pages o closed index p entries begins)

pub returns-clause-two_regions : goal.returns-clause-two_regions
returns-clause-two_regions g c = regions_apart g.P.Pages c.apart_blocks.ensures.regions
