use Rattle.hm_laws.proofs.Copied.{bytes_fetched, bytes_filled}
use Rattle.hm_laws.proofs.bytes_are_copied.Goals as goal

pub returns : goal.returns
returns g c = record {
  fetched = λ o closed. bytes_fetched g.P.Pages o closed;
  filled = λ o closed. bytes_filled g.P.Pages o closed;
}
