use Rattle.std.proofs.Common.{rules, ◌≡◌, ◌≤◌, ℕ, false, nat_cmp, is_gt, is_lt, arith}
use Rattle.std.proofs.lemmas.Bool.Decides.{nat_tests}
use Rattle.hm_large.proofs.block_table.last_begun.Goals as goal

not_greater : (a b : ℕ) → a ≤ b → is_gt (nat_cmp a b) ≡ false
not_greater a b le = grind (arith, nat_tests)

not_less : (a b : ℕ) → is_lt (nat_cmp a b) ≡ false → b ≤ a
not_less a b e = grind (arith, nat_tests)

pub returns : goal.returns
returns c = record {
  below = search rules;
  there = search rules;
  last = λ q le some. not_less c.in_ok-start.start.now q ((c.range.ensures.in_range tt).4 _ _ c.in_ok-start.ensures.steps q (tt, not_greater q c.args.addr le) some);
}
