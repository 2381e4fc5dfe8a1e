-- The bytes of a live large block change by fills alone.
use Rattle.std.proofs.Common.{◌≡◌, ◌≢◌, ℕ, ◌+◌, ◌-◌, ◌≤◌, ◌==◌, Bool, not, true, false, cond, List, [], ◌∷◌, ◌++◌, map, Option, Some, None, unwrap_or, sym, ◌∙◌, ap, subst, refl, arith}
use Rattle.std.specs.Prelude.{slice_get, option_map}
use Rattle.std.proofs.lemmas.Option.{none-some}
use Rattle.hm_model.specs.declared.entry.Entry.{Entry}
use Rattle.hm_model.specs.declared.entry.Call.{Call}
use Rattle.hm_model.specs.declared.entry.Call.TheVariants.{Allot, GiveBack, Fill}
use Rattle.hm_model.specs.declared.entry.Reply.{Reply}
use Rattle.hm_model.specs.declared.entry.Reply.TheVariants.{Given, PagesFailed, Freed, Filled}
use Rattle.hm_model.specs.Machine.{state_after, Legal, Legal_split, state_append}
use Rattle.hm_model.specs.Maps.{at, removed}
use Rattle.hm_model.specs.Runs.{expand}
use Rattle.hm_model.proofs.Lists.{eq_same, other_eq}
use Rattle.hm_sizes.specs.declared.config.Config.{Config}
use Rattle.hm_class_rules.specs.Laws.{written_at}
use Rattle.hm_large_rules.specs.State.{Block, Blocks, size_for, is_quarantined, covered}
use Rattle.hm_large_rules.specs.Steps.{new_block, mark}
use Rattle.hm_large_rules.specs.Bytes.{overlay}
use Rattle.hm_large_rules.specs.State.{State, start}
use Rattle.hm_large_rules.specs.Steps.{takes_back, releases, free_at, changed, step}
use Rattle.hm_large_rules.specs.Rules.{Terms, Allows, Allowed, Asks, state}
use Rattle.hm_large_rules.specs.State.{taken}
use Rattle.hm_large_rules.specs.Laws.{IsSound}
use Rattle.hm_large_rules.proofs.BlockLists.{at_removed, covers_own, at_covered, in_space_at}
use Rattle.hm_large.proofs.Accessed.{byte_of}
use Rattle.hm_large_rules.proofs.Legal.{sound, sound_step, size_is}
use Rattle.hm_large_rules.proofs.Candidates.{spans_from}
use Rattle.hm_laws.specs.Kept.{FreesNone, byte_after, KeptBlocks}
use Rattle.hm_laws.proofs.SlabBytes.{get_over}

-- ---- live blocks
-- what a free leaves live
pub back_live : (a word : ℕ) (o : Option Block) (r : Option ℕ) (s : State) → at a s.live ≡ o → (releases r (takes_back a word o s)).live ≡ removed a s.live
back_live a word o r s e = released r (takes_back a word o s) ∙ taken o e
  where
    released : (r : Option ℕ) (s : State) → (releases r s).live ≡ s.live
    released None s = refl
    released (Some b) s = refl

    choice : (b : Bool) (x : Block) → (cond b (record s { live = removed a s.live; quarantined = (a, x) ∷ s.quarantined; frees = free_at a word ∷ s.frees }) (record s { live = removed a s.live })).live ≡ removed a s.live
    choice true x = refl
    choice false x = refl

    taken : (o : Option Block) → at a s.live ≡ o → (takes_back a word o s).live ≡ removed a s.live
    taken (Some x) e = choice (is_quarantined x) x
    taken None e = sym (none_removed a s.live e)
      where
        none_removed : (a : ℕ) (m : Blocks) → at a m ≡ None → removed a m ≡ m
        none_removed a [] e = refl
        none_removed a (y ∷ m) e =
            elim (y.0 == a) as (λ t. cond t (Some y.1) (at a m) ≡ None → cond (not t) (y ∷ removed a m) (removed a m) ≡ y ∷ m) [
              | true ↦ λ h. absurd (none-some y.1 (sym h))
              | false ↦ λ h. ap (λ (l : Blocks). y ∷ l) (none_removed a m h)
            ] e

-- blocks that are changed in place: the one at a key
pub at_map : (f : ℕ × Block → ℕ × Block) → ((e : ℕ × Block) → (f e).0 ≡ e.0) → (k : ℕ) (m : Blocks) → at k (map f m) ≡ option_map (λ (b : Block). (f (k, b)).1) (at k m)
at_map f same k [] = refl
at_map f same k (e ∷ m) =
    ap (λ (x : ℕ). cond (x == k) (Some (f e).1) (at k (map f m))) (same e)
    ∙ (elim (e.0 == k) as (λ t. (e.0 == k) ≡ t → cond t (Some (f e).1) (at k (map f m)) ≡ option_map (λ (b : Block). (f (k, b)).1) (cond t (Some e.1) (at k m))) [
      | true ↦ λ is. ap (λ (x : ℕ). Some (f (x, e.1)).1) (eq_same e.0 k is)
      | false ↦ λ is. at_map f same k m
    ] refl)

-- the live block at a has this size, and x is its byte r
record HoldsByte (m : Blocks) (a r x size : ℕ) : Type 0 where
  block : Block
  there : at a m ≡ Some block
  size_is : block.size ≡ size
  byte : slice_get block.bytes r ≡ Some x

-- ---- one entry
mapped : (f : ℕ × Block → ℕ × Block) (m : Blocks) (a : ℕ) (b : Block) → ((e : ℕ × Block) → (f e).0 ≡ e.0) → at a m ≡ Some b → at a (map f m) ≡ Some (f (a, b)).1
mapped f m a b same e = at_map f same a m ∙ ap (λ (o : Option Block). option_map (λ (x : Block). (f (a, x)).1) o) e

-- no block is given where one is live
pub given_apart : (t : Terms) (s : State) (e : Entry) (a b asked align usable : ℕ) (x : Block) → IsSound t.config s → Asks (Allot asked align) → Allows t s e (Allot asked align) (Given b usable) → at a s.live ≡ Some x → b ≢ a
given_apart t s e a b asked align usable x fit asks allows there same =
    let guard : ℕ = unwrap_or e.choices.guard 0 in
    let size = size_is asked asks.0 in
    let free : taken s b ≡ 0 = allows.0.0.fits.free b (spans_from b (size_for asked) guard b (omega arith) (omega (arith, size.some))) in
    let one = at_covered a a x s.live there (covers_own t.config (a, x) (in_space_at t.config a x s.live fit.live there)) in
    let none : taken s a ≡ 0 = ap (λ (q : ℕ). taken s q) (sym same) ∙ free in
    omega (arith, none, one)

kept_changed : (t : Terms) (s : State) (e : Entry) (call : Call) (reply : Reply) (a r was size : ℕ) → IsSound t.config s → Asks call → Allows t s e call reply → ((stated : Option ℕ) → call ≡ GiveBack a stated → reply ≡ Freed → ⊥)
    → HoldsByte s.live a r was size → HoldsByte (changed e call reply s).live a r (unwrap_or (written_at call reply (a + r)) was) size
kept_changed t s e (Allot asked align) (Given b usable) a r was size fit asks allows none h = record {
  block = h.block;
  there = ap (λ (x : Bool). cond x (Some (new_block asked (unwrap_or e.choices.guard 0))) (at a s.live)) (other_eq b a (given_apart t s e a b asked align usable h.block fit asks allows h.there)) ∙ h.there;
  size_is = h.size_is;
  byte = h.byte;
}
kept_changed t s e (GiveBack b stated) PagesFailed a r was size fit asks allows none h = record {
  block = (mark b (a, h.block)).1;
  there = mapped (mark b) s.live a h.block (λ e. refl) h.there;
  size_is = h.size_is;
  byte = h.byte;
}
kept_changed t s e (GiveBack b stated) Freed a r was size fit asks allows none h = record {
  block = h.block;
  there = ap (λ (l : Blocks). at a l) (back_live b e.draws.w0 (at b s.live) e.choices.released s refl) ∙ at_removed a b s.live (λ same. none stated (ap (λ (x : ℕ). GiveBack x stated) same) refl) ∙ h.there;
  size_is = h.size_is;
  byte = h.byte;
}
kept_changed t s e (Fill b runs) Filled a r was size fit asks allows none h = record {
  block = (overlay b (expand runs) (a, h.block)).1;
  there = mapped (overlay b (expand runs)) s.live a h.block (λ e. refl) h.there;
  size_is = h.size_is;
  byte = get_over b (expand runs) a r (a + r) h.block.bytes was refl h.byte;
}
kept_changed t s e call reply a r was size fit asks allows none h = h

kept_run : (t : Terms) (s : State) (es : List Entry) (a r was size : ℕ) → IsSound t.config s → Legal step (Allowed t) s es → FreesNone a es → HoldsByte s.live a r was size
    → HoldsByte (state_after step (Allowed t) s es).live a r (byte_after es (a + r) was) size
kept_run t s [] a r was size fit legal none h = h
kept_run t s (e ∷ es) a r was size fit legal none h =
    let after = kept_changed t s e e.call e.reply a r was size fit legal.0.asks legal.0.allows (λ stated is told. none.0 (record { stated = stated; call = is; reply = told })) h in
    kept_run t (step s e) es a r (unwrap_or (written_at e.call e.reply (a + r)) was) size (sound_step t s e fit legal.0) legal.1 none.1 after

-- ---- at addresses
once_live : (c : Config) (s : State) (q : ℕ) → IsSound c s → covered q s.live ≤ 1
once_live c s q fit = omega (arith, fit.once q)

pub kept_blocks : KeptBlocks
kept_blocks t before middle a q was block legal live none low high is =
    let parts = Legal_split step (Allowed t) start before middle legal in
    let s : State = state t before in
    let fit : IsSound t.config s = sound t before parts.0 in
    let r : ℕ = q - a in
    let back : a + r ≡ q = omega (arith, low) in
    let first : HoldsByte s.live a r was block.size = record {
      block = block;
      there = live;
      size_is = refl;
      byte = sym (byte_of t.config s.live a q block fit.live (once_live t.config s q fit) live low high) ∙ is;
    } in
    let s' : State = state t (before ++ middle) in
    let last : HoldsByte s'.live a r (byte_after middle (a + r) was) block.size =
    subst (λ (x : State). HoldsByte x.live a r (byte_after middle (a + r) was) block.size) (sym (state_append step (Allowed t) start before middle)) (kept_run t s middle a r was block.size fit parts.1 none first) in
    let fit' : IsSound t.config s' = sound t (before ++ middle) legal in
    byte_of t.config s'.live a q last.block fit'.live (once_live t.config s' q fit') last.there low (omega (arith, high, last.size_is)) ∙ last.byte ∙ ap (λ (x : ℕ). Some (byte_after middle x was)) back
