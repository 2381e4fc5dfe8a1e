use Rattle.hm_guarantees.proofs.FreedSlots.{freed_slots}
use Rattle.hm_guarantees.proofs.freed_slots.Goals as goal

pub returns : goal.returns
returns c = freed_slots
