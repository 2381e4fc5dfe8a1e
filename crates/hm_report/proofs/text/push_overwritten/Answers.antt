use Rattle.std.proofs.Common.{append_assoc}
use Rattle.hm_report.proofs.text.push_overwritten.Goals as goal

pub returns : goal.returns
returns c = simp append_assoc (simp append_assoc at (rw c.in_ok-write.ensures.bytes at c.push_byte.ensures))
