use Rattle.hm_class_rules.proofs.Legal.{sound}
use Rattle.hm_class_rules.proofs.sound_lists.Goals as goal

pub returns : goal.returns
returns c = sound
