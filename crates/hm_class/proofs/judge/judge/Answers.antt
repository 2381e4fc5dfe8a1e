use Rattle.std.proofs.Common.{rules}
use Rattle.hm_class.proofs.judge.judge.Goals as goal
use Rattle.hm_class.proofs.judge.judge.Goals.{then-has_bytes+in_default-other_canary, else-has_bytes}

pub returns : goal.returns
returns g c = record {
  judged = c.in_ok-slot.ensures;
  size = search rules;
  canary = λ own. elim c.if-has_bytes.branch [ then-has_bytes+in_default-other_canary w ↦ search rules | else-has_bytes w ↦ search rules ];
}
