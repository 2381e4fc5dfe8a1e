use Rattle.std.proofs.Common.{[], ◌∷◌, ◌++◌}
use Rattle.hm_run.specs.Replayed.{origin_at}
use Rattle.hm_run.proofs.Outcomes.{lawful}
use Rattle.hm_run.proofs.laws.freed_blocks_come_late.Goals as goal

pub returns-clause-slots : goal.returns-clause-slots
returns-clause-slots g c = λ o closed index p before middle freed given a begins.
    c.delayed_blocks.ensures.slots (origin_at g.P.Pages o index p) before middle [] freed given a
    (lawful g.P.Pages o closed index p (before ++ freed ∷ (middle ++ given ∷ [])) begins.begins) begins.class

pub returns-clause-blocks : goal.returns-clause-blocks
returns-clause-blocks g c = λ o closed index p before middle freed given a b asked guard block begins.
    c.delayed_blocks.ensures.blocks (origin_at g.P.Pages o index p) before middle [] freed given a b asked guard block
    (lawful g.P.Pages o closed index p (before ++ freed ∷ (middle ++ given ∷ [])) begins.begins) begins.large
