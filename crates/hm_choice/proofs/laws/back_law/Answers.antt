use Rattle.hm_choice.proofs.Positions.{comes_again}
use Rattle.hm_choice.proofs.laws.back_law.Goals as goal

pub returns : goal.returns
returns c = comes_again
