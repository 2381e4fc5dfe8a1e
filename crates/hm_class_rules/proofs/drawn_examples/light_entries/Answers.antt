use Rattle.std.proofs.Common.{rules}
use Rattle.hm_class_rules.proofs.KnownWords.{light_drawn}
use Rattle.hm_class_rules.proofs.drawn_examples.light_entries.Goals as goal

pub returns-clause-drawn : goal.returns-clause-drawn
returns-clause-drawn c = light_drawn (search rules)
