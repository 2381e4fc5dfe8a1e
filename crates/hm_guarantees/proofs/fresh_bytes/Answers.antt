use Rattle.hm_guarantees.proofs.FreshBytes.{fresh_slots, fresh_blocks}
use Rattle.hm_guarantees.proofs.fresh_bytes.Goals as goal

pub returns : goal.returns
returns c = record { slots = fresh_slots; blocks = fresh_blocks }
