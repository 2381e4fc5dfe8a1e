use Rattle.std.proofs.Common.{◌≡◌, ℕ, ◌+◌, ◌*◌, ◌≤◌, sym, subst, arith}
use Rattle.std.proofs.lemmas.Nat.{mul-le}
use Rattle.hm_sizes.specs.Shapes.{IsShape}
use Rattle.hm_sizes.proofs.ClassTable.{is_bounded}
use Rattle.hm_sizes.proofs.Shaped.{shape_fits}
use Rattle.hm_sizes.proofs.shape.shape_of.Goals as goal

length_fits : (base length most : ℕ) → base ≤ 1 → length ≤ most → base * length ≤ most
length_fits base length most one le = omega (arith, mul-le base length 1 most one le)

pub nonzero_div-result : goal.nonzero_div-result
nonzero_div-result c = omega (arith, (is_bounded c.args.class.0 c.requires.class).slab_least)

pub overflow_mul-result-3 : goal.overflow_mul-result-3
overflow_mul-result-3 c =
    let b = is_bounded c.args.class.0 c.requires.class in
    let le : c.numbers_of-numbers.result.now.length ≤ 8192 = omega (arith, b.length_most) in
    omega (arith, length_fits c.args.config.now.array_base c.numbers_of-numbers.result.now.length 8192 c.requires.valid.array_most le, length_fits c.args.config.now.ring_base c.numbers_of-numbers.result.now.length 8192 c.requires.valid.ring_most le)

pub overflow_mul-result-4 : goal.overflow_mul-result-4
overflow_mul-result-4 c =
    let b = is_bounded c.args.class.0 c.requires.class in
    let le : c.numbers_of-numbers.result.now.length ≤ 8192 = omega (arith, b.length_most) in
    omega (arith, length_fits c.args.config.now.array_base c.numbers_of-numbers.result.now.length 8192 c.requires.valid.array_most le, length_fits c.args.config.now.ring_base c.numbers_of-numbers.result.now.length 8192 c.requires.valid.ring_most le)

pub returns-clause-value : goal.returns-clause-value
returns-clause-value c =
    let arena : c.from.result ≡ c.args.arena = c.from.ensures in
    let class : c.from-2.result ≡ c.args.class.0 = c.from-2.ensures in
    let first : (c.from.result * 49 + c.from-2.result) * 2 * c.args.config.now.class_region ≡ (c.args.arena * 49 + c.args.class.0) * (2 * c.args.config.now.class_region) = rw (arena, class) (omega arith) in
    cc

pub returns-clause-fits : goal.returns-clause-fits
returns-clause-fits c =
    subst IsShape (sym (returns-clause-value c))
    (shape_fits c.args.config.now c.args.arena c.args.class c.args.gap c.requires.valid c.requires.arena c.requires.class c.requires.gap_pages c.requires.gap_least c.requires.gap_most)
