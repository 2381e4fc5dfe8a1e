use Rattle.std.proofs.Common.{rules}
use Rattle.hm_class_rules.proofs.KnownWords.{same_index_drawn}
use Rattle.hm_class_rules.proofs.drawn_examples.parked_slabs.Goals as goal

pub returns-clause-drawn : goal.returns-clause-drawn
returns-clause-drawn c = same_index_drawn (search rules)
