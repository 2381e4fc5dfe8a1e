use Rattle.hm_heap.proofs.Fronts.{lawful_front}
use Rattle.hm_heap.proofs.laws.lawful_fronts.Goals as goal

pub returns : goal.returns
returns c = lawful_front
