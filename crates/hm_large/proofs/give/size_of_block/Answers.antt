use Rattle.std.proofs.Common.{◌≡◌, subst, sym, ap, ◌∙◌}
use Rattle.hm_sizes.specs.Laws.{IsLargeSize}
use Rattle.hm_sizes.specs.Sizes.{raised, large_size}
use Rattle.hm_large_rules.specs.State.{size_for}
use Rattle.hm_large_rules.proofs.Legal.{size_is}
use Rattle.hm_large.proofs.give.size_of_block.Goals as goal

-- the result is the size of the rules
same : (c : goal.After-large_size) → c.large_size.result ≡ size_for c.args.asked
same c = c.large_size.ensures ∙ ap large_size c.raised.ensures

pub returns-clause-fits : goal.returns-clause-fits
returns-clause-fits c = subst (IsLargeSize (raised c.args.asked)) (sym (same c)) (size_is c.args.asked c.requires)
