use Rattle.hm_guarantees.proofs.FreesOfLive.{frees_of_live_slots, frees_of_live_blocks}
use Rattle.hm_guarantees.proofs.frees_are_of_live_blocks.Goals as goal

pub returns : goal.returns
returns c = record { slots = frees_of_live_slots; blocks = frees_of_live_blocks }
