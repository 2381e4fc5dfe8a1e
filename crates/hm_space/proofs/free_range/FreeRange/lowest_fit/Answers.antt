use Rattle.std.proofs.Common.{◌≡◌, ◌≢◌, ◌+◌, ◌-◌, ◌%◌, ◌≤◌, ℕ, arith, subst, sym, ap, ◌∙◌}
use Rattle.hm_space.proofs.Multiples.{IsSkip, skip_none, skip_some}
use Rattle.hm_space.proofs.free_range.FreeRange.lowest_fit.Goals as goal
use Rattle.hm_space.proofs.free_range.FreeRange.lowest_fit.Goals.{then-past-eq0, else-past-eq0}

none_at : (base align past skip : ℕ) → past ≡ base % align → past ≡ 0 → skip ≡ 0 → IsSkip base align skip
none_at base align past skip so e is = subst (IsSkip base align) (sym is) (skip_none base align (sym so ∙ e))

some_at : (base align past skip : ℕ) → 1 ≤ align → past ≡ base % align → past ≢ 0 → skip ≡ align - past → IsSkip base align skip
some_at base align past skip some so ne is = subst (IsSkip base align) (sym (is ∙ ap (λ (k : ℕ). align - k) so)) (skip_some base align some (omega (arith, so)))

pub returns-then-skip-self-clause-fits : goal.returns-then-skip-self-clause-fits
returns-then-skip-self-clause-fits c =
    let base = c.args.self.now.start + c.args.front in
    let at : IsSkip base c.args.align c.if-past-eq0.skip = elim c.if-past-eq0.branch [
      | then-past-eq0 w ↦ none_at base c.args.align c.past_multiple-past.result c.if-past-eq0.skip c.past_multiple-past.ensures (omega arith) w.skip-is
      | else-past-eq0 w ↦ some_at base c.args.align c.past_multiple-past.result c.if-past-eq0.skip c.requires.align c.past_multiple-past.ensures (λ e. omega arith) w.skip-is
    ] in
    record {
      lies = record { from = omega arith; to = omega arith };
      aligned = ap (λ (k : ℕ). k % c.args.align) (let e : c.args.self.now.start + c.if-past-eq0.skip + c.args.front ≡ base + c.if-past-eq0.skip = omega arith in e) ∙ at.multiple;
    }

pub returns-then-skip-self-clause-lowest : goal.returns-then-skip-self-clause-lowest
returns-then-skip-self-clause-lowest c other fits =
    let base = c.args.self.now.start + c.args.front in
    let at : IsSkip base c.args.align c.if-past-eq0.skip = elim c.if-past-eq0.branch [
      | then-past-eq0 w ↦ none_at base c.args.align c.past_multiple-past.result c.if-past-eq0.skip c.past_multiple-past.ensures (omega arith) w.skip-is
      | else-past-eq0 w ↦ some_at base c.args.align c.past_multiple-past.result c.if-past-eq0.skip c.requires.align c.past_multiple-past.ensures (λ e. omega arith) w.skip-is
    ] in
    omega (arith, at.least (other + c.args.front) (omega (arith, fits.lies.from)) fits.aligned)

pub returns-else-skip-self-clause-none : goal.returns-else-skip-self-clause-none
returns-else-skip-self-clause-none c other fits =
    let base = c.args.self.now.start + c.args.front in
    let at : IsSkip base c.args.align c.if-past-eq0.skip = elim c.if-past-eq0.branch [
      | then-past-eq0 w ↦ none_at base c.args.align c.past_multiple-past.result c.if-past-eq0.skip c.past_multiple-past.ensures (omega arith) w.skip-is
      | else-past-eq0 w ↦ some_at base c.args.align c.past_multiple-past.result c.if-past-eq0.skip c.requires.align c.past_multiple-past.ensures (λ e. omega arith) w.skip-is
    ] in
    omega (arith, at.least (other + c.args.front) (omega (arith, fits.lies.from)) fits.aligned, fits.lies.to)
