use Rattle.std.proofs.Common.{◌≡◌, ℕ, ◌≤◌, ◌%◌, ◌^◌, subst, sym, ap, ◌∙◌}
use Rattle.hm_sizes.specs.Sizes.{large_size}
use Rattle.hm_large_rules.specs.State.{size_for}
use Rattle.hm_large_rules.proofs.Legal.{size_is}
use Rattle.hm_large_book.proofs.changes.size_of_block.Goals as goal

-- the result is the size of the rules
same : (c : goal.After-large_size) → c.large_size.result ≡ size_for c.args.asked
same c = c.large_size.ensures ∙ ap large_size c.raised.ensures

pub returns-clause-most : goal.returns-clause-most
returns-clause-most c = subst (λ (n : ℕ). n ≤ 2 ^ 30) (sym (same c)) (size_is c.args.asked c.requires).most

pub returns-clause-pages : goal.returns-clause-pages
returns-clause-pages c = subst (λ (n : ℕ). n % 4096 ≡ 0) (sym (same c)) (size_is c.args.asked c.requires).pages
