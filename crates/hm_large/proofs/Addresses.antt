-- The addresses at which a block fits: those that the free ranges have, and those that the rules allow.
use Rattle.std.proofs.Common.{◌≡◌, ℕ, ◌+◌, ◌-◌, ◌*◌, ◌%◌, ◌<◌, ◌≤◌, ◌↔◌, max, true, nat_le, nat_lt, sym, subst, refl, arith}
use Rattle.std.proofs.lemmas.Bool.{and_parts, and_from, leb-true, ltb-true, le-leb, lt-ltb}
use Rattle.hm_sizes.specs.declared.config.Config.{Config}
use Rattle.hm_space.specs.Ranges.{IsWithin}
use Rattle.hm_space.specs.Space.{FreeSpace, IsFree, IsFit, IsLowestFit}
use Rattle.hm_large_rules.specs.State.{spans, in_space, State, IsOpen}
use Rattle.hm_sizes.specs.Homes.{large_start}
use Rattle.hm_large_rules.specs.Rules.{IsCandidate, IsLeastCandidate}
use Rattle.hm_large_rules.proofs.Candidates.{spans_low, spans_high, spans_from}

-- the free addresses are those that are open
abbrev pub FreeIsOpen : Config → State → FreeSpace → Type 0
FreeIsOpen c s space = (q : ℕ) → IsFree space q ↔ IsOpen c s q

space_low : (c : Config) (q : ℕ) → in_space c q ≡ true → large_start ≤ q
space_low c q e = leb-true large_start q (and_parts (nat_le large_start q) (nat_lt q (large_start + c.large_space)) e).0

space_high : (c : Config) (q : ℕ) → in_space c q ≡ true → q < large_start + c.large_space
space_high c q e = ltb-true q (large_start + c.large_space) (and_parts (nat_le large_start q) (nat_lt q (large_start + c.large_space)) e).1

pub in_space_from : (c : Config) (q : ℕ) → large_start ≤ q → q < large_start + c.large_space → in_space c q ≡ true
in_space_from c q low high = and_from (nat_le large_start q) (nat_lt q (large_start + c.large_space)) (le-leb large_start q low) (lt-ltb q (large_start + c.large_space) high)

-- the addresses of a block with its guards, as a range that begins at the lower guard
pub within_spans : (a size guard at len q : ℕ) → len ≡ size + 2 * (4096 * guard) → at + 4096 * guard ≡ a → IsWithin at len q → spans a size guard q ≡ true
within_spans a size guard at len q e f w = spans_from a size guard q (omega (arith, w.from)) (omega (arith, w.below))

pub spans_within : (a size guard at len q : ℕ) → len ≡ size + 2 * (4096 * guard) → at + 4096 * guard ≡ a → spans a size guard q ≡ true → IsWithin at len q
spans_within a size guard at len q e f h = record { from = omega (arith, spans_low a size guard q h); below = omega (arith, spans_high a size guard q h) }

module _ (c : Config) (s : State) (space : FreeSpace) (align size guard len : ℕ) where
  pub fit_candidate : FreeIsOpen c s space → 1 ≤ size → len ≡ size + 2 * (4096 * guard) → (at : ℕ) → IsFit space len (max align 4096) (4096 * guard) at
      → IsCandidate c s align size guard (at + 4096 * guard)
  fit_candidate free some e at fit =
      let first : IsWithin at len at = record { from = omega arith; below = omega arith } in
      let last : IsWithin at len (at + len - 1) = record { from = omega arith; below = omega arith } in
      let low = space_low c at ((free at).0 (fit.free at first)).0 in
      let high = space_high c (at + len - 1) ((free (at + len - 1)).0 (fit.free (at + len - 1) last)).0 in
      record {
        aligned = fit.aligned;
        from = omega arith;
        to = omega arith;
        free = λ q h. ((free q).0 (fit.free q (spans_within (at + 4096 * guard) size guard at len q e refl h))).1;
      }

  pub candidate_fit : FreeIsOpen c s space → len ≡ size + 2 * (4096 * guard) → (a at : ℕ) → at + 4096 * guard ≡ a → IsCandidate c s align size guard a
      → IsFit space len (max align 4096) (4096 * guard) at
  candidate_fit free e a at f h = record {
    free = λ q w. (free q).1 (in_space_from c q (omega (arith, w.from, h.from)) (omega (arith, w.below, h.to)), h.free q (within_spans a size guard at len q e f w));
    aligned = subst (λ (x : ℕ). x % max align 4096 ≡ 0) (sym f) h.aligned;
  }

  pub lowest_candidate : FreeIsOpen c s space → 1 ≤ size → len ≡ size + 2 * (4096 * guard) → (at : ℕ) → IsLowestFit space len (max align 4096) (4096 * guard) at
      → IsLeastCandidate c s align size guard (at + 4096 * guard)
  lowest_candidate free some e at h = record {
    fits = fit_candidate free some e at h.fits;
    least = λ other k. (let back : other - 4096 * guard + 4096 * guard ≡ other = omega (arith, k.from) in
        omega (arith, h.lowest (other - 4096 * guard) (candidate_fit free e other (other - 4096 * guard) back k), back));
  }

  pub no_candidate : FreeIsOpen c s space → len ≡ size + 2 * (4096 * guard) → ((at : ℕ) → IsFit space len (max align 4096) (4096 * guard) at → ⊥)
      → (a : ℕ) → IsCandidate c s align size guard a → ⊥
  no_candidate free e none a k =
      let back : a - 4096 * guard + 4096 * guard ≡ a = omega (arith, k.from) in
      none (a - 4096 * guard) (candidate_fit free e a (a - 4096 * guard) back k)
