use Rattle.hm_guarantees.proofs.SameTurns.{same_turns, same_calls}
use Rattle.hm_guarantees.proofs.same_turns.Goals as goal

pub returns : goal.returns
returns c = record { turns = same_turns; calls = same_calls }
