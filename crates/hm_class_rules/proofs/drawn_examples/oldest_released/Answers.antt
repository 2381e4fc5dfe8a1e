use Rattle.std.proofs.Common.{rules}
use Rattle.hm_class_rules.proofs.KnownWords.{oldest_released_drawn}
use Rattle.hm_class_rules.proofs.drawn_examples.oldest_released.Goals as goal

pub returns-clause-drawn : goal.returns-clause-drawn
returns-clause-drawn c = oldest_released_drawn (search rules)
