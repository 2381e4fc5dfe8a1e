use Rattle.std.proofs.Common.{◌-◌, arith}
use Rattle.hm_slab_lists.specs.Links.{links_of, lists_of}
use Rattle.hm_slab_lists.proofs.Whole.{chained, then_more, seen_more}
use Rattle.hm_slab_lists.proofs.chains.Chains.push.Goals as goal

pub invariant_of-self : goal.invariant_of-self
invariant_of-self c =
    chained c.push_reserved.new.self.items c.self.inside.ends (lists_of (links_of c.self.inside.slabs.items) c.self.inside.ends)
    (then_more c.self.inside.slabs.items c.push_reserved.new.self.items c.self.inside.ends c.args.meta c.self.invariant c.push_reserved.ensures.items)

pub returns : goal.returns
returns c =
    seen_more c.self.inside.slabs.items c.push_reserved.new.self.items c.self.inside.ends c.args.meta (c.self.inside.slabs.cap - c.self.inside.slabs.len) c.args.self.now (c.push_reserved.new.self.cap - c.push_reserved.new.self.len)
    c.self.invariant c.self.view_is c.push_reserved.ensures.items (omega (arith, c.push_reserved.ensures.len, c.push_reserved.ensures.capacity))
