use Rattle.std.proofs.Common.{◌≡◌, ◌∙◌, sym, ap, subst}
use Rattle.hm_slab_lists.specs.declared.slab_lists.Place.TheVariants.{Exhausted}
use Rattle.hm_slab_lists.specs.Table.{Table}
use Rattle.hm_class.specs.Slabs.{Slabs, IsFiled, slabs_of, with_spare, uses_of}
use Rattle.hm_class.specs.Uses.{live_count}
use Rattle.hm_class.proofs.SourceOf.{opens_by}
use Rattle.hm_class.proofs.slabs.Slabs.reserve.Goals as goal

pub returns-in-Fresh-clause-rest : goal.returns-in-Fresh-clause-rest
unfolding uses_of
returns-in-Fresh-clause-rest c =
    ap (λ (t : Table). slabs_of t) c.reserve_one.ensures.rest
    ∙ ap (λ (k : Slabs). with_spare c.reserve_one.new.self.spare k) c.self.view_is

pub invariant_of-self : goal.invariant_of-self
unfolding uses_of
invariant_of-self c = subst (λ (t : Table). IsFiled t × (c.self.inside.live ≡ live_count (uses_of t))) (sym c.reserve_one.ensures.rest)
    (record { below = c.self.invariant.0.below; there = c.self.invariant.0.there; whole = c.self.invariant.0.whole; some = c.self.invariant.0.some }, c.self.invariant.1)

pub unreachable-requires-in-Exhausted : goal.unreachable-requires-in-Exhausted
unreachable-requires-in-Exhausted c =
    opens_by c.self.inside.lists c.requires.0 c.args.self.now c.self.view_is c.requires.1.0 c.requires.1.1 Exhausted (sym c.in-Exhausted.is ∙ c.next_source.ensures)
