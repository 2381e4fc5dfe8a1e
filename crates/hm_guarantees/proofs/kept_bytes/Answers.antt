use Rattle.hm_guarantees.proofs.KeptBytes.{kept_bytes, live_bytes}
use Rattle.hm_guarantees.proofs.kept_bytes.Goals as goal

pub returns : goal.returns
returns c = record { stand = live_bytes; kept = kept_bytes }
