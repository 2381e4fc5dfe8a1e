use Rattle.hm_class_rules.proofs.KnownWords.{first_drawn, zero_not_drawn, slot_not_drawn}
use Rattle.hm_class_rules.proofs.drawn_examples.first_entries.Goals as goal

pub returns-clause-drawn : goal.returns-clause-drawn
returns-clause-drawn c = first_drawn

pub returns-clause-zero : goal.returns-clause-zero
returns-clause-zero c = zero_not_drawn

pub returns-clause-first : goal.returns-clause-first
returns-clause-first c = slot_not_drawn
