use Rattle.std.proofs.Common.{[], ◌∷◌, ◌++◌}
use Rattle.hm_run.specs.Laws.{class_rules}
use Rattle.hm_run.specs.Replayed.{origin_at}
use Rattle.hm_run.proofs.Outcomes.{is_region, lawful}
use Rattle.hm_run.proofs.laws.given_blocks_are_zero.Goals as goal

pub returns-clause-slots : goal.returns-clause-slots
returns-clause-slots g c = λ o closed index p before given a k begins is told checked below.
    c.zeroed_blocks.ensures.slots (origin_at g.P.Pages o index p) before given a k
    (is_region g.P.Pages o closed index p (before ++ given ∷ []) begins.begins) (lawful g.P.Pages o closed index p (before ++ given ∷ []) begins.begins)
    begins.class is told checked below

pub returns-clause-written : goal.returns-clause-written
returns-clause-written g c = λ o closed index p before given a k byte begins is below there some.
    c.zeroed_blocks.ensures.written (origin_at g.P.Pages o index p) before given a k byte
    (is_region g.P.Pages o closed index p (before ++ given ∷ []) begins.begins) (lawful g.P.Pages o closed index p (before ++ given ∷ []) begins.begins)
    begins.class is below there some

pub returns-clause-blocks : goal.returns-clause-blocks
returns-clause-blocks g c = λ o closed index p before given a asked guard k begins is below.
    c.zeroed_blocks.ensures.blocks (origin_at g.P.Pages o index p) before given a asked guard k
    (lawful g.P.Pages o closed index p (before ++ given ∷ []) begins.begins) begins.large is below

pub returns-clause-overwritten : goal.returns-clause-overwritten
returns-clause-overwritten g c = λ o closed index p before middle found given a begins.
    c.condemned_slots.ensures (class_rules g.P.Pages o closed index p) before middle [] found given a
    ((lawful g.P.Pages o closed index p (before ++ found ∷ (middle ++ given ∷ [])) begins.begins).class begins.class).legal
