use Rattle.hm_class.proofs.Found.{within_whole}
use Rattle.hm_class.proofs.slabs.Slabs.judge.Goals as goal

pub is_live-requires : goal.is_live-requires
is_live-requires c = within_whole c.args.identity.now.shape c.args.self.now.slabs c.in-Some.slab c.in-Some.index c.requires.whole c.in-Some.ensures.slot

pub was_given-requires : goal.was_given-requires
was_given-requires c = within_whole c.args.identity.now.shape c.args.self.now.slabs c.in-Some.slab c.in-Some.index c.requires.whole c.in-Some.ensures.slot
