-- Where a block may stand: the addresses of its guards and its own, which no live block has and none in quarantine.
use Rattle.std.proofs.Common.{◌≡◌, ◌⊎◌, inl, inr, ⊎_elim, ℕ, ◌+◌, ◌*◌, ◌<◌, ◌≤◌, true, nat_le, nat_lt, Some, arith}
use Rattle.std.proofs.lemmas.Bool.{cases_lt, and_parts, and_from, leb-true, ltb-true, le-leb, lt-ltb}
use Rattle.hm_model.specs.Maps.{at}
use Rattle.hm_sizes.specs.declared.config.Config.{Config}
use Rattle.hm_large_rules.specs.State.{Block, spans, taken, State}
use Rattle.hm_large_rules.specs.Rules.{IsCandidate}
use Rattle.hm_large_rules.specs.Laws.{IsSound}
use Rattle.hm_large_rules.proofs.BlockLists.{at_covered, in_space_at, covers_own}

-- ---- the addresses of a block with its guards
pub spans_low : (a size guard q : ℕ) → spans a size guard q ≡ true → a ≤ q + 4096 * guard
spans_low a size guard q e = leb-true a (q + 4096 * guard) (and_parts (nat_le a (q + 4096 * guard)) (nat_lt q (a + size + 4096 * guard)) e).0

pub spans_high : (a size guard q : ℕ) → spans a size guard q ≡ true → q < a + size + 4096 * guard
spans_high a size guard q e = ltb-true q (a + size + 4096 * guard) (and_parts (nat_le a (q + 4096 * guard)) (nat_lt q (a + size + 4096 * guard)) e).1

pub spans_from : (a size guard q : ℕ) → a ≤ q + 4096 * guard → q < a + size + 4096 * guard → spans a size guard q ≡ true
spans_from a size guard q low high = and_from (nat_le a (q + 4096 * guard)) (nat_lt q (a + size + 4096 * guard)) (le-leb a (q + 4096 * guard) low) (lt-ltb q (a + size + 4096 * guard) high)

-- ---- a candidate's range is free
module _ (c : Config) (s : State) (align size guard a : ℕ) where
  own_span : 1 ≤ size → IsCandidate c s align size guard a → taken s a ≡ 0
  own_span some k = k.free a (spans_from a size guard a (omega arith) (omega arith))

  pub not_live : 1 ≤ size → IsSound c s → IsCandidate c s align size guard a → (x : Block) → at a s.live ≡ Some x → ⊥
  not_live some h k x e = omega (arith, own_span some k, at_covered a a x s.live e (covers_own c (a, x) (in_space_at c a x s.live h.live e)))

  pub not_quarantined : 1 ≤ size → IsSound c s → IsCandidate c s align size guard a → (x : Block) → at a s.quarantined ≡ Some x → ⊥
  not_quarantined some h k x e = omega (arith, own_span some k, at_covered a a x s.quarantined e (covers_own c (a, x) (in_space_at c a x s.quarantined h.quarantined e)))

  -- its bytes lie apart from those of each live block
  pub bytes_apart : 1 ≤ size → IsSound c s → IsCandidate c s align size guard a → (q : ℕ) (x : Block) → at q s.live ≡ Some x → (q + x.size ≤ a) ⊎ (a + size ≤ q)
  bytes_apart some h k q x e = ⊎_elim (λ (lt : q < a). ⊎_elim (λ in_x. absurd (in_block lt in_x)) inl (cases_lt a (q + x.size))) (λ (le : a ≤ q). ⊎_elim (λ inside. absurd (in_new le inside)) inr (cases_lt q (a + size))) (cases_lt q a)
    where
      in_block : q < a → a < q + x.size → ⊥
      in_block lt in_x = omega (arith, own_span some k, at_covered a q x s.live e (spans_from q x.size x.guard a (omega arith) (omega arith)))

      in_new : a ≤ q → q < a + size → ⊥
      in_new le inside = omega (arith, k.free q (spans_from a size guard q (omega arith) (omega arith)), at_covered q q x s.live e (covers_own c (q, x) (in_space_at c q x s.live h.live e)))
