use Rattle.std.proofs.Common.{rules}
use Rattle.hm_class_rules.proofs.KnownWords.{latest_source_drawn, earlier_not_drawn}
use Rattle.hm_class_rules.proofs.drawn_examples.latest_source.Goals as goal

pub returns-clause-drawn : goal.returns-clause-drawn
returns-clause-drawn c = latest_source_drawn (search rules)

pub returns-clause-earlier : goal.returns-clause-earlier
returns-clause-earlier c = earlier_not_drawn
