use Rattle.std.proofs.Common.{◌≡◌, ◌≢◌, ◌↔◌, ◌+◌, ℕ, eqb, false, List, ◌∷◌, get_or, drop, Option, Some, None, subst, sym, ◌∙◌, arith}
use Rattle.std.specs.Option.{option_eq}
use Rattle.std.proofs.lemmas.List.{drop_more}
use Rattle.std.proofs.lemmas.Bool.Decides.{nat_tests}
use Rattle.hm_model.specs.Runs.{AreApart}
use Rattle.hm_model.proofs.Apart.{AreApartFrom, all_from, all_to}
use Rattle.hm_model.proofs.runs.are_apart.Goals as goal

other : (a b : ℕ) → eqb a b ≡ false → a ≢ b
other a b e = grind (arith, nat_tests)

another : (last : Option ℕ) (byte : ℕ) → option_eq eqb last (Some byte) ≡ false → last ≢ Some byte
another None byte e = λ is. cc
another (Some a) byte e = λ is. other a byte e cc

pub loop-byte-init : goal.loop-byte-init
loop-byte-init c = (all_from c.args.pairs.now, all_to c.args.pairs.now)

pub loop-byte-preserved : goal.loop-byte-preserved
loop-byte-preserved c =
    let xs : List (ℕ × ℕ) = c.args.pairs.now in
    let i : ℕ = c.loop-byte.byte-index in
    let run : ℕ × ℕ = get_or xs i (0, 0) in
    let invariant : AreApart xs ↔ AreApartFrom c.loop-byte.last (run ∷ drop (i + 1) xs) =
    subst (λ (later : List (ℕ × ℕ)). AreApart xs ↔ AreApartFrom c.loop-byte.last later) (drop_more xs i (0, 0) c.loop-byte-test.true) c.loop-byte.invariant in
    (λ h. (invariant.0 h).2, λ h. invariant.1 (omega (arith, c.if-len-eq0.false), another c.loop-byte.last run.0 (sym c.eq.ensures ∙ c.if-eq.false), h))
