use Rattle.std.proofs.Common.{◌≡◌, sym, ap, subst, refl}
use Rattle.hm_slab_lists.specs.Table.{Table}
use Rattle.hm_class.specs.Slabs.{IsFiled, slabs_of, uses_of}
use Rattle.hm_class.specs.Uses.{live_count}
use Rattle.hm_class.proofs.Tables.{filed_new}
use Rattle.hm_class.proofs.slabs.Slabs.build.Goals as goal

pub invariant_of-result : goal.invariant_of-result
unfolding uses_of
invariant_of-result c =
    subst (λ (t : Table). IsFiled t × (0 ≡ live_count (uses_of t))) (sym c.in_ok-lists.ensures)
    (filed_new c.args.identity.now.shape.limit c.args.identity.now.shape.guard_interval c.args.identity.now.config.park_length c.args.identity.now.shape.slots c.args.identity.now.served.shape.slots_some, refl)

pub returns : goal.returns
unfolding uses_of
returns c = ap (λ (t : Table). slabs_of t) c.in_ok-lists.ensures
