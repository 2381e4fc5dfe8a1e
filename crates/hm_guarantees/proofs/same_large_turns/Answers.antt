use Rattle.hm_guarantees.proofs.SameLargeTurns.{same_large_turns, same_large_calls}
use Rattle.hm_guarantees.proofs.same_large_turns.Goals as goal

pub returns : goal.returns
returns c = record { turns = same_large_turns; calls = same_large_calls }
