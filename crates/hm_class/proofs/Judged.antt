-- The replies that calls of a region may have, by what is said of the block.
use Rattle.std.proofs.Common.{ℕ, Option}
use Rattle.hm_outside.specs.declared.pages.Pages as pages
use Rattle.hm_model.specs.Replies.{IsSlotReply, IsFreeReply, IsMeasureReply, IsFillReply}
use Rattle.hm_model.specs.declared.entry.Reply.{Reply}
use Rattle.hm_model.specs.declared.entry.Reply.TheVariants as reply
use Rattle.hm_sizes.specs.declared.shape.Shape.{Shape}
use Rattle.hm_sizes.specs.Shapes.{usable}
use Rattle.hm_class.specs.Events.{HasNoBytes}
use Rattle.hm_class.specs.Judgements.{Refusals, Measures}
use Rattle.hm_class.specs.Slabs.{Slabs}

-- ---- replies
pub free_reply : {P : Type 0} (meaning : pages.Ghosts P) (p : Shape) (k : Slabs) (pages : P) (a : ℕ) (stated : Option ℕ) (r : Reply) → Refusals meaning p k pages a stated r → IsFreeReply r
free_reply meaning p k pages a stated reply.NoSlot h = tt
free_reply meaning p k pages a stated reply.Unused h = tt
free_reply meaning p k pages a stated reply.DoubleFree h = tt
free_reply meaning p k pages a stated (reply.WrongSize block other) h = tt
free_reply meaning p k pages a stated (reply.Canary kept found) h = h.other
free_reply meaning p k pages a stated other h = absurd h

pub measure_reply : (p : Shape) (k : Slabs) (a : ℕ) (r : Reply) → Measures p k a r → IsMeasureReply (usable p) r
measure_reply p k a reply.NoSlot h = tt
measure_reply p k a reply.Unused h = tt
measure_reply p k a reply.DoubleFree h = tt
measure_reply p k a (reply.Usable size) h = h.2
measure_reply p k a other h = absurd h

-- ---- bytes are in the replies to a fetch alone
pub slot_reply : (usable : ℕ) (r : Reply) → IsSlotReply usable r → HasNoBytes r
slot_reply usable (reply.Bytes runs) h = h
slot_reply usable other h = tt

pub freed_reply : (r : Reply) → IsFreeReply r → HasNoBytes r
freed_reply (reply.Bytes runs) h = h
freed_reply other h = tt

pub measured_reply : (usable : ℕ) (r : Reply) → IsMeasureReply usable r → HasNoBytes r
measured_reply usable (reply.Bytes runs) h = h
measured_reply usable other h = tt

pub filled_reply : (a len : ℕ) (r : Reply) → IsFillReply a len r → HasNoBytes r
filled_reply a len (reply.Bytes runs) h = h
filled_reply a len other h = tt
