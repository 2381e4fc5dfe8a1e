use Rattle.hm_laws.proofs.Kept.{bytes_kept}
use Rattle.hm_laws.proofs.bytes_are_kept.Goals as goal

pub returns : goal.returns
returns g c = λ o closed index p. bytes_kept g.P.Pages o closed index p
