use Rattle.hm_large.proofs.Accessed.{left_from, nothing_begun, no_byte}
use Rattle.hm_large.proofs.access.live_left.Goals as goal

pub returns-in-Some : goal.returns-in-Some
returns-in-Some c = λ config n s sound shows. left_from config n s c.args.store.now c.args.addr c.in-Some.start c.in-Some.size c.saturating_sub.result sound shows c.in-Some.ensures.there c.in-Some.ensures.below c.in-Some.ensures.last c.saturating_sub.ensures

pub returns-in-None : goal.returns-in-None
returns-in-None c = λ config n s sound shows. no_byte config s c.args.addr sound (nothing_begun config n s c.args.store.now c.args.addr shows c.in-None.ensures)
