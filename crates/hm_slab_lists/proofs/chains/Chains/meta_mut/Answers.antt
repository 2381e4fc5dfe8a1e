use Rattle.std.proofs.Common.{◌-◌, ◌∙◌, inl, refl, sym, ap, arith}
use Rattle.std.specs.Prelude.{Some, slice_get}
use Rattle.hm_slab_meta.specs.Uses.{SlabUse}
use Rattle.hm_slab_lists.specs.Chained.{Chained}
use Rattle.hm_slab_lists.proofs.Whole.{chained_lent, seen_lent, read_meta}
use Rattle.hm_slab_lists.proofs.chains.Chains.meta_mut.Goals as goal

pub invariant_of-self-lent : goal.invariant_of-self-lent
invariant_of-self-lent c = λ w. chained_lent c.self.inside.slabs.items c.self.inside.ends c.args.at c.in-Some.slab.now w c.self.invariant c.in-Some.ensures.value

pub returns-in-Some : goal.returns-in-Some
returns-in-Some c = (
  λ i. inl (c.meta_mut.result.ghost_name, λ w. seen_lent c.self.inside.slabs.items c.self.inside.ends (c.self.inside.slabs.cap - c.self.inside.slabs.len) c.args.at c.in-Some.slab.now c.args.self.now w c.in-Some.ensures.value c.self.view_is i),
  record {
    writes_back = tt;
    value =
        ap (λ (m : SlabUse). Some m) c.meta_mut.ensures.value
        ∙ sym (read_meta c.self.inside.slabs.items c.args.at c.in-Some.slab.now (let there = c.in-Some.ensures.variant.0 refl in let long = c.self.inside.slabs.ok.0 in omega (arith, there, long)) c.in-Some.ensures.value)
        ∙ ap (λ (v : Chained). slice_get v.metas c.args.at) c.self.view_is;
  },
)
