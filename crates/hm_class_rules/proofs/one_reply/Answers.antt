use Rattle.hm_class_rules.proofs.JudgedReplies.{judged_law}
use Rattle.hm_class_rules.proofs.one_reply.Goals as goal

pub returns : goal.returns
returns c = judged_law
