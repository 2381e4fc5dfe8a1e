use Rattle.hm_laws.proofs.Moves.{moves_keep, halves_keep}
use Rattle.hm_laws.proofs.moves_keep_bytes.Goals as goal

pub returns : goal.returns
returns g c = record {
  moved = λ o closed. moves_keep g.P.Pages o closed;
  half = λ o closed. halves_keep g.P.Pages o closed;
}
