use Rattle.hm_replay.proofs.Ascending.{round_is_small}
use Rattle.hm_replay.proofs.laws.small_rounds.Goals as goal

pub returns : goal.returns
returns c = round_is_small
