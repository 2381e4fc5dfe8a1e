use Rattle.std.proofs.Common.{◌≡◌, ℕ, ◌==◌, true, sym, ◌∙◌, arith}
use Rattle.std.proofs.lemmas.Bool.Decides.{nat_tests}
use Rattle.hm_space.proofs.Multiples.{masked}
use Rattle.hm_space.proofs.free_range.past_multiple.Goals as goal

one_of : (n : ℕ) → (n == 1) ≡ true → n ≡ 1
one_of n e = grind (arith, nat_tests)

pub returns-then-is_power_of_two : goal.returns-then-is_power_of_two
returns-then-is_power_of_two c =
    masked c.args.number c.args.align c.requires c.ranges.align.fits (one_of _ (sym c.is_power_of_two.ensures ∙ c.if-is_power_of_two.true))
