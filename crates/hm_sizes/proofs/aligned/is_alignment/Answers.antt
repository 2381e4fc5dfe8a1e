use Rattle.std.proofs.Common.{◌≡◌, ℕ, ◌≤◌, nat_le, ◌==◌, true, sym, ◌∙◌, arith}
use Rattle.std.proofs.lemmas.Bool.Decides.{nat_tests}
use Rattle.std.proofs.lemmas.Bool.{le-leb}
use lib.Count.{ones}
use Rattle.hm_sizes.proofs.Alignments.{is_alignment, alignment_most, alignment_ones}
use Rattle.hm_sizes.proofs.aligned.is_alignment.Goals as goal

one_of : (n : ℕ) → (n == 1) ≡ true → n ≡ 1
one_of n e = grind (arith, nat_tests)

of_one : (n : ℕ) → n ≡ 1 → (n == 1) ≡ true
of_one n e = grind (arith, nat_tests)

at_most : (a b : ℕ) → nat_le a b ≡ true → a ≤ b
at_most a b e = grind (arith, nat_tests)

pub returns-then-is_power_of_two : goal.returns-then-is_power_of_two
returns-then-is_power_of_two c =
    let one : ones c.args.align ≡ 1 = one_of _ (sym c.is_power_of_two.ensures ∙ c.if-is_power_of_two.true) in
    (λ most. is_alignment c.args.align (at_most _ _ most) one, λ h. le-leb _ _ (alignment_most c.args.align h))

pub returns-else-is_power_of_two : goal.returns-else-is_power_of_two
returns-else-is_power_of_two c =
    (λ yes. absurd cc, λ h. c.is_power_of_two.ensures ∙ of_one _ (alignment_ones c.args.align h))
