use Rattle.std.proofs.Common.{◌∙◌, sym, ap}
use Rattle.std.specs.Prelude.{Some, None}
use Rattle.hm_class.specs.Slabs.{Slabs}
use Rattle.hm_class.specs.Uses.{canary_at}
use Rattle.hm_class.proofs.Tables.{canary_is}
use Rattle.hm_class.proofs.slabs.Slabs.canary_of.Goals as goal

pub returns-in-Some : goal.returns-in-Some
returns-in-Some c =
    c.canary.ensures ∙ sym (canary_is c.self.inside.lists c.args.slab c.self.invariant.0 (Some c.in-Some.meta.now) (sym c.in-Some.ensures))
    ∙ ap (λ (k : Slabs). canary_at k.slabs c.args.slab) c.self.view_is

pub returns-in-None : goal.returns-in-None
returns-in-None c =
    sym (canary_is c.self.inside.lists c.args.slab c.self.invariant.0 None (sym c.in-None.ensures))
    ∙ ap (λ (k : Slabs). canary_at k.slabs c.args.slab) c.self.view_is
