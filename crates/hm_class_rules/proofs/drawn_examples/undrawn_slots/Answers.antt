use Rattle.std.proofs.Common.{rules}
use Rattle.hm_class_rules.proofs.KnownWords.{first_slots_drawn}
use Rattle.hm_class_rules.proofs.drawn_examples.undrawn_slots.Goals as goal

pub returns-clause-drawn : goal.returns-clause-drawn
returns-clause-drawn c = first_slots_drawn (search rules)
