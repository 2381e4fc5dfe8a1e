use Rattle.std.proofs.Common.{rules}
use Rattle.hm_class_rules.proofs.KnownWords.{second_word_drawn}
use Rattle.hm_class_rules.proofs.drawn_examples.second_word.Goals as goal

pub returns-clause-drawn : goal.returns-clause-drawn
returns-clause-drawn c = second_word_drawn (search rules)
