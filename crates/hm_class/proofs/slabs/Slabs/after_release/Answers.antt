use Rattle.std.proofs.Common.{◌∙◌, sym, ap}
use Rattle.hm_class.specs.Uses.{live_count}
use Rattle.hm_class.proofs.Listing.{settled_uses, settled_filed, settled_slots, settled_lists}
use Rattle.hm_class.proofs.Tables.{open_now}
use Rattle.hm_class.proofs.slabs.Slabs.after_release.Goals as goal

pub after_release-requires : goal.after_release-requires
after_release-requires c = open_now c.self.inside.lists c.args.slab c.args.self.now c.self.invariant.0 c.self.view_is c.requires

pub invariant_of-self : goal.invariant_of-self
invariant_of-self c = (
  settled_filed c.self.inside.lists _ c.args.slab c.args.self.now c.self.invariant.0 c.self.view_is c.requires c.after_release.ensures,
  c.self.invariant.1 ∙ sym (ap live_count (settled_uses c.self.inside.lists _ c.args.slab c.args.self.now c.self.invariant.0 c.self.view_is c.requires c.after_release.ensures)),
)

pub returns-clause-same : goal.returns-clause-same
returns-clause-same c = settled_slots c.self.inside.lists _ c.args.slab c.args.self.now c.self.invariant.0 c.self.view_is c.requires c.after_release.ensures

pub returns-clause-lists : goal.returns-clause-lists
returns-clause-lists c = settled_lists c.self.inside.lists _ c.args.slab c.args.self.now c.self.invariant.0 c.self.view_is c.requires c.after_release.ensures
