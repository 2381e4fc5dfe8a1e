use Rattle.hm_large_rules.proofs.Legal.{sound}
use Rattle.hm_large_rules.proofs.sound_blocks.Goals as goal

pub returns : goal.returns
returns c = sound
