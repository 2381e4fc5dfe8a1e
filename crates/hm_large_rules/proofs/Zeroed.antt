-- All bytes of a given block are zero.
use Rattle.std.proofs.Common.{◌≡◌, ℕ, zero, suc, ◌+◌, ◌-◌, ◌<◌, ◌&&◌, true, cond, ◌∷◌, length, replicate, Some, unwrap_or, ◌∙◌, ap, refl, arith}
use Rattle.std.specs.Prelude.{slice_get, nat_le, nat_lt}
use Rattle.std.proofs.lemmas.Bool.{and_from, le-leb, lt-ltb}
use Rattle.std.proofs.lemmas.List.{length-replicate}
use Rattle.hm_model.specs.declared.entry.Call.{Call}
use Rattle.hm_model.specs.declared.entry.Call.TheVariants.{Allot}
use Rattle.hm_model.specs.declared.entry.Reply.{Reply}
use Rattle.hm_model.specs.Machine.{state_push}
use Rattle.hm_large_rules.specs.State.{Block, Blocks, size_for, State, start}
use Rattle.hm_large_rules.specs.Bytes.{byte_at}
use Rattle.hm_large_rules.specs.Steps.{new_block, step, changed}
use Rattle.hm_large_rules.specs.Rules.{Allowed, state}
use Rattle.hm_large_rules.specs.Laws.{Zeroed}

zero_at : (n k : ℕ) → k < n → slice_get {X = ℕ} (replicate n 0) k ≡ Some 0
zero_at zero k lt = absurd (omega arith)
zero_at (suc n) zero lt = refl
zero_at (suc n) (suc k) lt = zero_at n k (omega arith)

zero_byte : (a n k : ℕ) (x : Block) (m : Blocks) → x.bytes ≡ replicate n 0 → k < n → byte_at ((a, x) ∷ m) (a + k) ≡ Some 0
zero_byte a n k x m is lt =
    let count : length x.bytes ≡ n = ap length is ∙ length-replicate n 0 in
    let own : (nat_le a (a + k) && nat_lt (a + k) (a + length x.bytes)) ≡ true = and_from (nat_le a (a + k)) (nat_lt (a + k) (a + length x.bytes)) (le-leb a (a + k) (omega arith)) (lt-ltb (a + k) (a + length x.bytes) (omega (arith, count))) in
    let back : (a + k) - a ≡ k = omega arith in
    ap (λ t. cond t (slice_get x.bytes ((a + k) - a)) (byte_at m (a + k))) own ∙ (ap (λ l. slice_get l ((a + k) - a)) is ∙ (ap (slice_get {X = ℕ} (replicate n 0)) back ∙ zero_at n k lt))

pub zeroed : Zeroed
zeroed t es g b asked guard k legal given lt =
    let s : State = state t es in
    let live : (step s g).live ≡ (b, new_block asked (unwrap_or g.choices.guard 0)) ∷ s.live =
    ap (λ (c : Call). (changed g c g.reply s).live) given.call ∙ ap (λ (r : Reply). (changed g (Allot asked given.align) r s).live) given.reply in
    ap (λ (z : State). byte_at z.live (b + k)) (state_push step (Allowed t) start es g) ∙ (ap (λ (l : Blocks). byte_at l (b + k)) live ∙ zero_byte b (size_for asked) k (new_block asked (unwrap_or g.choices.guard 0)) s.live refl lt)
