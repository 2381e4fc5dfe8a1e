-- A read or a write that leaves a large block traps, and writes nothing.
use Rattle.std.proofs.Common.{◌≡◌, inr, ⊎_elim, ℕ, zero, suc, ◌+◌, ◌<◌, ◌≤◌, ◌==◌, Bool, true, false, cond, not, List, [], ◌∷◌, map, Option, Some, None, is_some, unwrap_or, sym, ◌∙◌, ap, subst, refl, arith}
use Rattle.std.specs.Prelude.{IsTrue}
use Rattle.std.proofs.lemmas.Bool.{cases_lt}
use Rattle.std.proofs.lemmas.Option.{none-some, same_Some}
use Rattle.hm_model.specs.declared.entry.Entry.{Entry}
use Rattle.hm_model.specs.declared.entry.Call.{Call}
use Rattle.hm_model.specs.declared.entry.Call.TheVariants.{Allot, GiveBack, Measure, Fetch, Fill}
use Rattle.hm_model.specs.declared.entry.Reply.{Reply}
use Rattle.hm_model.specs.declared.entry.Reply.TheVariants.{Given, PagesFailed, Freed, Bytes, Filled, Trap}
use Rattle.hm_model.specs.Machine.{Legal_split, legal_keeps}
use Rattle.hm_model.specs.Maps.{at, removed}
use Rattle.hm_model.specs.Runs.{expand}
use Rattle.hm_large_rules.specs.Bytes.{byte_at, first_trap, overlay}
use Rattle.hm_large_rules.specs.Drawn.{IsDrawn, IsDrawnEvent, IsDrawnEntry}
use Rattle.hm_large_rules.specs.Laws.{IsSound}
use Rattle.hm_large_rules.specs.Rules.{Terms, Asks, Allows, Allowed, state}
use Rattle.hm_large_rules.specs.State.{Block, Blocks, State, start, is_quarantined, AreGuarded}
use Rattle.hm_large_rules.specs.Steps.{mark, takes_back, releases, free_at, changed, step}
use Rattle.hm_large_rules.proofs.Candidates.{spans_from}
use Rattle.hm_large_rules.proofs.Legal.{sound, state_same}
use Rattle.hm_guarantees.specs.Overruns.{Accesses, OverrunsTrap}
use Rattle.hm_guarantees.proofs.BlockBytes.{byte_out, byte_there}

-- ---- each live block has a guard
guarded_removed : (a : ℕ) (m : Blocks) → AreGuarded m → AreGuarded (removed a m)
guarded_removed a [] h = tt
guarded_removed a (y ∷ m) h = elim (y.0 == a) as (λ t. AreGuarded (cond (not t) (y ∷ removed a m) (removed a m))) [ true ↦ guarded_removed a m h.1 | false ↦ (h.0, guarded_removed a m h.1) ]

guarded_same : (f : ℕ × Block → ℕ × Block) → ((e : ℕ × Block) → (f e).1.guard ≡ e.1.guard) → (m : Blocks) → AreGuarded m → AreGuarded (map f m)
guarded_same f same [] h = tt
guarded_same f same (y ∷ m) h = (omega (arith, same y, h.0), guarded_same f same m h.1)

guarded_freed : (s : State) (a word : ℕ) (o : Option Block) (r : Option ℕ) → AreGuarded s.live → AreGuarded (releases r (takes_back a word o s)).live
guarded_freed s a word None None h = h
guarded_freed s a word None (Some b) h = h
guarded_freed s a word (Some x) r h = out r (is_quarantined x)
  where
    out : (r : Option ℕ) (t : Bool) → AreGuarded (releases r (cond t (record s { live = removed a s.live; quarantined = (a, x) ∷ s.quarantined; frees = free_at a word ∷ s.frees }) (record s { live = removed a s.live }))).live
    out None true = guarded_removed a s.live h
    out None false = guarded_removed a s.live h
    out (Some b) true = guarded_removed a s.live h
    out (Some b) false = guarded_removed a s.live h

guarded_changed : (seed : ℕ) (s : State) (e : Entry) (call : Call) (reply : Reply) → AreGuarded s.live → IsDrawnEvent seed s e call reply → AreGuarded (changed e call reply s).live
guarded_changed seed s e (Allot asked align) (Given a size) h draws = (omega (arith, ap (λ (o : Option ℕ). unwrap_or o 0) draws.1), h)
guarded_changed seed s e (GiveBack a stated) PagesFailed h draws = guarded_same (mark a) (λ e. refl) s.live h
guarded_changed seed s e (GiveBack a stated) Freed h draws = guarded_freed s a e.draws.w0 (at a s.live) e.choices.released h
guarded_changed seed s e (Fill a runs) Filled h draws = guarded_same (overlay a (expand runs)) (λ e. refl) s.live h
guarded_changed seed s e call reply h draws = h

guarded : (seed : ℕ) (t : Terms) (es : List Entry) → IsDrawn seed es → AreGuarded (state t es).live
guarded seed t es drawn =
    subst (λ (s : State). AreGuarded s.live) (state_same (IsDrawnEntry seed) (Allowed t) start es)
    (legal_keeps step (IsDrawnEntry seed) (λ s. AreGuarded s.live) (λ s e h draws. guarded_changed seed s e e.call e.reply h draws) start es tt drawn)

guard_at : (a : ℕ) (x : Block) (m : Blocks) → AreGuarded m → at a m ≡ Some x → 1 ≤ x.guard
guard_at a x [] g e = absurd (none-some x e)
guard_at a x (y ∷ m) g e =
    elim (y.0 == a) as (λ t. cond t (Some y.1) (at a m) ≡ Some x → 1 ≤ x.guard) [
      | true ↦ λ f. subst (λ (b : Block). 1 ≤ b.guard) (same_Some y.1 x f) g.0
      | false ↦ λ f. guard_at a x m g.1 f
    ] e

-- ---- the first address that is not accessible
trap_at : (m : Blocks) (q end len : ℕ) → ((k : ℕ) → q ≤ k → k < end → is_some (byte_at m k) ≡ true) → byte_at m end ≡ None → q ≤ end → end < q + len → first_trap m q len ≡ Some end
trap_at m q end zero each none low high = absurd (omega (arith, low, high))
trap_at m q end (suc len) each none low high =
    ⊎_elim
    (λ (lt : q < end). ap (λ t. cond t (first_trap m (q + 1) len) (Some q)) (each q (omega arith) lt) ∙ trap_at m (q + 1) end len (λ k l h. each k (omega (arith, l)) h) none (omega (arith, lt)) (omega (arith, high)))
    (λ (le : end ≤ q). (let same : end ≡ q = omega (arith, le, low) in
    ap (λ t. cond t (first_trap m (q + 1) len) (Some q)) (subst (λ (k : ℕ). is_some (byte_at m k) ≡ false) same (ap (λ (o : Option ℕ). is_some o) none)) ∙ ap (λ (k : ℕ). Some k) (sym same)))
    (cases_lt q end)

-- what traps is replied so
traps : (t : Terms) (s : State) (e : Entry) (from len q : ℕ) (call : Call) (reply : Reply) → IsTrue t.told → Accesses from len call → first_trap s.live from len ≡ Some q → Allows t s e call reply → reply ≡ Trap q
traps t s e from len q (Fetch a count) (Bytes runs) told is found h = absurd (none-some q (sym (h.1 told).0 ∙ (λ i. first_trap s.live (is.0 i) (is.1 i)) ∙ found))
traps t s e from len q (Fetch a count) (Trap r) told is found h = ap (λ (k : ℕ). Trap k) (same_Some r q (sym (h.0 told) ∙ (λ i. first_trap s.live (is.0 i) (is.1 i)) ∙ found))
traps t s e from len q (Fetch a count) reply told is found h = absurd h
traps t s e from len q (Fill a runs) Filled told is found h = absurd (none-some q (sym (h.0 told) ∙ (λ i. first_trap s.live (is.0 i) (is.1 i)) ∙ found))
traps t s e from len q (Fill a runs) (Trap r) told is found h = ap (λ (k : ℕ). Trap k) (same_Some r q (sym (h.0 told) ∙ (λ i. first_trap s.live (is.0 i) (is.1 i)) ∙ found))
traps t s e from len q (Fill a runs) reply told is found h = absurd h
traps t s e from len q call reply told is found h = absurd is

some_bytes : (from len : ℕ) (call : Call) → Accesses from len call → Asks call → 1 ≤ len
some_bytes from len (Fetch a count) is asks = omega (arith, is.1, asks.0)
some_bytes from len (Fill a runs) is asks = omega (arith, is.1, asks.0)
some_bytes from len call is asks = absurd is

writes_nothing : (e : Entry) (call : Call) (q : ℕ) (s : State) → (changed e call (Trap q) s).live ≡ s.live
writes_nothing e (Allot asked align) q s = refl
writes_nothing e (GiveBack a stated) q s = refl
writes_nothing e (Measure a) q s = refl
writes_nothing e (Fetch a count) q s = refl
writes_nothing e (Fill a runs) q s = refl

pub overruns_trap : OverrunsTrap
overruns_trap seed t before e a x told legal drawn live =
    let parts = Legal_split step (Allowed t) start before (e ∷ []) legal in
    let s : State = state t before in
    let fit : IsSound t.config s = sound t before parts.0 in
    let some : 1 ≤ x.guard = guard_at a x s.live (guarded seed t before (Legal_split step (IsDrawnEntry seed) start before (e ∷ []) drawn).0) live in
    let allowed : Allowed t s e = parts.1.0 in
    record {
      past = λ from len is low below high.
          traps t s e from len (a + x.size) e.call e.reply told is
          (trap_at s.live from (a + x.size) len
          (λ k l h. ap (λ (o : Option ℕ). is_some o) (byte_there t.config s.live a k x fit.live (omega (arith, fit.once k)) live (omega (arith, low, l)) h))
          (byte_out t.config s.live a (a + x.size) x fit.live (omega (arith, fit.once (a + x.size))) live (spans_from a x.size x.guard (a + x.size) (omega arith) (omega (arith, some))) (inr (omega arith)))
          below high)
          allowed.allows;
      guarded = some;
      guard = λ from len is cover out.
          traps t s e from len from e.call e.reply told is
          (trap_at s.live from from len (λ k l h. absurd (omega (arith, l, h))) (byte_out t.config s.live a from x fit.live (omega (arith, fit.once from)) live cover out) (omega arith)
          (omega (arith, some_bytes from len e.call is allowed.asks)))
          allowed.allows;
      kept = λ q is. ap (λ (r : Reply). (changed e e.call r s).live) is ∙ writes_nothing e e.call q s;
    }
