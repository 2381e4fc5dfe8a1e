use Rattle.hm_laws.proofs.Light.{tells_no_overwrite, given_as_left, freed_as_zero}
use Rattle.hm_laws.proofs.Unchecked.{answers_no_overwrite}
use Rattle.hm_laws.proofs.reuse_is_not_told.Goals as goal

pub returns : goal.returns
returns g c = record {
  overwritten = λ o closed index p. tells_no_overwrite g.P.Pages o closed index p;
  answers = λ o closed. answers_no_overwrite g.P.Pages o closed;
  given = λ o closed index p. given_as_left g.P.Pages o closed index p;
  freed = λ o closed index p. freed_as_zero g.P.Pages o closed index p;
}
