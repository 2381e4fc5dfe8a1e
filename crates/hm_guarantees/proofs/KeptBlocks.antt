-- The bytes of a live block change by fills alone, and a fill within it is contained.
use Rattle.std.proofs.Common.{◌≡◌, ◌≢◌, ◌⊎◌, inl, inr, ℕ, zero, suc, ◌+◌, ◌-◌, ◌<◌, ◌≤◌, Bool, true, false, cond, ◌&&◌, nat_lt, nat_le, List, [], ◌∷◌, ◌++◌, map, length, get_or, Option, Some, unwrap_or, sym, ◌∙◌, ap, subst, refl, arith}
use Rattle.std.specs.Prelude.{slice_get, option_map}
use Rattle.std.proofs.lemmas.Bool.{cases_lt, and_parts, leb-true}
use Rattle.std.proofs.lemmas.Option.{slice_get_past, slice_get-get_or}
use Rattle.hm_model.specs.declared.entry.Entry.{Entry}
use Rattle.hm_model.specs.declared.entry.Call.{Call}
use Rattle.hm_model.specs.declared.entry.Call.TheVariants.{Allot, GiveBack, Fetch, Fill}
use Rattle.hm_model.specs.declared.entry.Reply.{Reply}
use Rattle.hm_model.specs.declared.entry.Reply.TheVariants.{Given, PagesFailed, Freed, Filled}
use Rattle.hm_model.specs.Machine.{state_after, Legal, Legal_split, state_append, state_push}
use Rattle.hm_model.specs.Maps.{at}
use Rattle.hm_model.specs.Overlaid.{overlaid}
use Rattle.hm_model.specs.Runs.{expand}
use Rattle.hm_model.proofs.Lists.{other_eq}
use Rattle.hm_model.proofs.Overlaid.{length_overlaid}
use Rattle.hm_sizes.specs.declared.config.Config.{Config}
use Rattle.hm_class_rules.specs.Laws.{written_at}
use Rattle.hm_large_rules.specs.State.{Block, Blocks, size_for, covered, State, start, taken}
use Rattle.hm_large_rules.specs.Steps.{new_block, mark, changed, step}
use Rattle.hm_large_rules.specs.Bytes.{byte_at, bytes_read, overlay, overlaid_blocks}
use Rattle.hm_large_rules.specs.Rules.{Terms, Allows, Allowed, Asks, state}
use Rattle.hm_large_rules.specs.Laws.{IsSound}
use Rattle.hm_large_rules.proofs.BlockLists.{at_removed, covers_own, at_covered, in_space_at}
use Rattle.hm_guarantees.proofs.BlockBytes.{byte_of, byte_there}
use Rattle.hm_large_rules.proofs.Legal.{sound, sound_step, size_is}
use Rattle.hm_large_rules.proofs.Candidates.{spans_from}
use Rattle.hm_guarantees.specs.Given.{FreesNone}
use Rattle.hm_guarantees.specs.KeptBytes.{byte_after}
use Rattle.hm_guarantees.specs.ContainedFills.{ReadsNone}
use Rattle.hm_guarantees.specs.KeptBlocks.{LiveBlockBytes, KeptBlockBytes, IsBlockContained, ContainedBlockFills}
use Rattle.hm_guarantees.proofs.Bytes.{outside, get_over}
use Rattle.hm_guarantees.proofs.FreedBlocks.{at_map, back_live}
use Rattle.hm_guarantees.proofs.AlikeBlocks.{AlikeStates, own_blocks, blocks_over, back_states, ReadsAlike, allows_same}

-- the live block at a has this size, and x is its byte r
record HoldsByte (m : Blocks) (a r x size : ℕ) : Type 0 where
  block : Block
  there : at a m ≡ Some block
  size_is : block.size ≡ size
  byte : slice_get block.bytes r ≡ Some x

-- ---- one entry
mapped : (f : ℕ × Block → ℕ × Block) (m : Blocks) (a : ℕ) (b : Block) → ((e : ℕ × Block) → (f e).0 ≡ e.0) → at a m ≡ Some b → at a (map f m) ≡ Some (f (a, b)).1
mapped f m a b same e = at_map f same a m ∙ ap (λ (o : Option Block). option_map (λ (x : Block). (f (a, x)).1) o) e

-- no block is given where one is live
pub given_apart : (t : Terms) (s : State) (e : Entry) (a b asked align usable : ℕ) (x : Block) → IsSound t.config s → Asks (Allot asked align) → Allows t s e (Allot asked align) (Given b usable) → at a s.live ≡ Some x → b ≢ a
given_apart t s e a b asked align usable x fit asks allows there same =
    let guard : ℕ = unwrap_or e.choices.guard 0 in
    let size = size_is asked asks.0 in
    let free : taken s b ≡ 0 = allows.0.0.fits.free b (spans_from b (size_for asked) guard b (omega arith) (omega (arith, size.some))) in
    let one = at_covered a a x s.live there (covers_own t.config (a, x) (in_space_at t.config a x s.live fit.live there)) in
    let none : taken s a ≡ 0 = ap (λ (q : ℕ). taken s q) (sym same) ∙ free in
    omega (arith, none, one)

kept_changed : (t : Terms) (s : State) (e : Entry) (call : Call) (reply : Reply) (a r was size : ℕ) → IsSound t.config s → Asks call → Allows t s e call reply → ((stated : Option ℕ) → call ≡ GiveBack a stated → reply ≡ Freed → ⊥)
    → HoldsByte s.live a r was size → HoldsByte (changed e call reply s).live a r (unwrap_or (written_at call reply (a + r)) was) size
kept_changed t s e (Allot asked align) (Given b usable) a r was size fit asks allows none h = record {
  block = h.block;
  there = ap (λ (x : Bool). cond x (Some (new_block asked (unwrap_or e.choices.guard 0))) (at a s.live)) (other_eq b a (given_apart t s e a b asked align usable h.block fit asks allows h.there)) ∙ h.there;
  size_is = h.size_is;
  byte = h.byte;
}
kept_changed t s e (GiveBack b stated) PagesFailed a r was size fit asks allows none h = record {
  block = (mark b (a, h.block)).1;
  there = mapped (mark b) s.live a h.block (λ e. refl) h.there;
  size_is = h.size_is;
  byte = h.byte;
}
kept_changed t s e (GiveBack b stated) Freed a r was size fit asks allows none h = record {
  block = h.block;
  there = ap (λ (l : Blocks). at a l) (back_live b e.draws.w0 (at b s.live) e.choices.released s refl) ∙ at_removed a b s.live (λ same. none stated (ap (λ (x : ℕ). GiveBack x stated) same) refl) ∙ h.there;
  size_is = h.size_is;
  byte = h.byte;
}
kept_changed t s e (Fill b runs) Filled a r was size fit asks allows none h = record {
  block = (overlay b (expand runs) (a, h.block)).1;
  there = mapped (overlay b (expand runs)) s.live a h.block (λ e. refl) h.there;
  size_is = h.size_is;
  byte = get_over b (expand runs) a r (a + r) h.block.bytes was refl h.byte;
}
kept_changed t s e call reply a r was size fit asks allows none h = h

kept_run : (t : Terms) (s : State) (es : List Entry) (a r was size : ℕ) → IsSound t.config s → Legal step (Allowed t) s es → FreesNone a es → HoldsByte s.live a r was size
    → HoldsByte (state_after step (Allowed t) s es).live a r (byte_after es (a + r) was) size
kept_run t s [] a r was size fit legal none h = h
kept_run t s (e ∷ es) a r was size fit legal none h =
    let after = kept_changed t s e e.call e.reply a r was size fit legal.0.asks legal.0.allows (λ stated is told. none.0 (record { stated = stated; call = is; reply = told })) h in
    kept_run t (step s e) es a r (unwrap_or (written_at e.call e.reply (a + r)) was) size (sound_step t s e fit legal.0) legal.1 none.1 after

-- ---- at addresses
once_live : (c : Config) (s : State) (q : ℕ) → IsSound c s → covered q s.live ≤ 1
once_live c s q fit = omega (arith, fit.once q)

pub kept_blocks : KeptBlockBytes
kept_blocks t before middle a q was block legal live none low high is =
    let parts = Legal_split step (Allowed t) start before middle legal in
    let s : State = state t before in
    let fit : IsSound t.config s = sound t before parts.0 in
    let r : ℕ = q - a in
    let back : a + r ≡ q = omega (arith, low) in
    let first : HoldsByte s.live a r was block.size = record {
      block = block;
      there = live;
      size_is = refl;
      byte = sym (byte_of t.config s.live a q block fit.live (once_live t.config s q fit) live low high) ∙ is;
    } in
    let s' : State = state t (before ++ middle) in
    let last : HoldsByte s'.live a r (byte_after middle (a + r) was) block.size =
    subst (λ (x : State). HoldsByte x.live a r (byte_after middle (a + r) was) block.size) (sym (state_append step (Allowed t) start before middle)) (kept_run t s middle a r was block.size fit parts.1 none first) in
    let fit' : IsSound t.config s' = sound t (before ++ middle) legal in
    byte_of t.config s'.live a q last.block fit'.live (once_live t.config s' q fit') last.there low (omega (arith, high, last.size_is)) ∙ last.byte ∙ ap (λ (x : ℕ). Some (byte_after middle x was)) back

pub live_block_bytes : LiveBlockBytes
live_block_bytes t es a q block legal live low high =
    let fit : IsSound t.config (state t es) = sound t es legal in
    (get_or block.bytes (q - a) 0, byte_there t.config (state t es).live a q block fit.live (once_live t.config (state t es) q fit) live low high)

-- ---- a fill within a block
over_out : (x : ℕ) (w : List ℕ) (base r : ℕ) (b : List ℕ) → (base + r < x) ⊎ (x + length w ≤ base + r) → slice_get (overlaid x w base b) r ≡ slice_get b r
over_out x w base r b out = by (cases_lt r (length b))
  where
    by : (r < length b) ⊎ (length b ≤ r) → slice_get (overlaid x w base b) r ≡ slice_get b r
    by (inl lt) =
        let first = slice_get-get_or b r 0 lt in
        get_over x w base r (base + r) b (get_or b r 0) refl first ∙ ap (λ (z : ℕ). Some z) (outside x (base + r) (get_or b r 0) w out) ∙ sym first
    by (inr past) = slice_get_past (overlaid x w base b) r (omega (arith, past, length_overlaid x w base b)) ∙ sym (slice_get_past b r past)

byte_out : (x : ℕ) (w : List ℕ) (m : Blocks) (q : ℕ) → (q < x) ⊎ (x + length w ≤ q) → byte_at (overlaid_blocks x w m) q ≡ byte_at m q
byte_out x w [] q out = refl
byte_out x w (e ∷ m) q out =
    ap (λ (n : ℕ). cond (nat_le e.0 q && nat_lt q (e.0 + n)) (slice_get (overlaid x w e.0 e.1.bytes) (q - e.0)) (byte_at (overlaid_blocks x w m) q)) (length_overlaid x w e.0 e.1.bytes)
    ∙ (elim (nat_le e.0 q && nat_lt q (e.0 + length e.1.bytes)) as (λ t. (nat_le e.0 q && nat_lt q (e.0 + length e.1.bytes)) ≡ t
    → cond t (slice_get (overlaid x w e.0 e.1.bytes) (q - e.0)) (byte_at (overlaid_blocks x w m) q) ≡ cond t (slice_get e.1.bytes (q - e.0)) (byte_at m q)) [
      | true ↦ λ is. (let low : e.0 ≤ q = leb-true e.0 q (and_parts (nat_le e.0 q) (nat_lt q (e.0 + length e.1.bytes)) is).0 in
          let back : e.0 + (q - e.0) ≡ q = omega (arith, low) in
          over_out x w e.0 (q - e.0) e.1.bytes (subst (λ (z : ℕ). (z < x) ⊎ (x + length w ≤ z)) (sym back) out))
      | false ↦ λ is. byte_out x w m q out
    ] refl)

read_out : (x : ℕ) (w : List ℕ) (m : Blocks) (a len : ℕ) → ((q : ℕ) → a ≤ q → q < a + len → (q < x) ⊎ (x + length w ≤ q)) → bytes_read m a len ≡ bytes_read (overlaid_blocks x w m) a len
read_out x w m a zero out = refl
read_out x w m a (suc len) out =
    let first : unwrap_or (byte_at m a) 0 ≡ unwrap_or (byte_at (overlaid_blocks x w m) a) 0 = ap (λ (o : Option ℕ). unwrap_or o 0) (sym (byte_out x w m a (out a (omega arith) (omega arith)))) in
    let rest : bytes_read m (a + 1) len ≡ bytes_read (overlaid_blocks x w m) (a + 1) len = read_out x w m (a + 1) len (λ q low high. out q (omega (arith, low)) (omega (arith, high))) in
    λ i. first i ∷ rest i

contained : (t : Terms) (s : State) (a len from : ℕ) (w : List ℕ) (words f : ℕ) → a ≤ from → from + length w ≤ a + len
    → IsBlockContained t s (record s { live = overlaid_blocks from w s.live; words = words; faults = f }) a len
contained t s a len from w words f low high = record {
  bytes = λ q out. byte_out from w s.live q (wider q out);
  answers = λ e call reply reads. (
    allows_same t s (record s { live = overlaid_blocks from w s.live; words = words; faults = f }) e call reply alike (there call reads),
    allows_same t (record s { live = overlaid_blocks from w s.live; words = words; faults = f }) s e call reply (back_states s (record s { live = overlaid_blocks from w s.live; words = words; faults = f }) alike) (back call reads),
  );
}
  where
    alike : AlikeStates s (record s { live = overlaid_blocks from w s.live; words = words; faults = f })
    alike = record { live = blocks_over from w s.live; quarantined = own_blocks s.quarantined; frees = refl }

    wider : (q : ℕ) → (q < a) ⊎ (a + len ≤ q) → (q < from) ⊎ (from + length w ≤ q)
    wider q (inl lt) = inl (omega (arith, lt, low))
    wider q (inr le) = inr (omega (arith, le, high))

    apart : (b count q : ℕ) → (b + count ≤ a) ⊎ (a + len ≤ b) → b ≤ q → q < b + count → (q < from) ⊎ (from + length w ≤ q)
    apart b count q (inl l) ge lt = inl (omega (arith, l, lt, low))
    apart b count q (inr r) ge lt = inr (omega (arith, r, ge, high))

    there : (call : Call) → ReadsNone a len call → ReadsAlike s (record s { live = overlaid_blocks from w s.live; words = words; faults = f }) call
    there (Fetch b count) reads = read_out from w s.live b count (λ q ge lt. apart b count q reads ge lt)
    there call reads = tt

    back : (call : Call) → ReadsNone a len call → ReadsAlike (record s { live = overlaid_blocks from w s.live; words = words; faults = f }) s call
    back (Fetch b count) reads = sym (read_out from w s.live b count (λ q ge lt. apart b count q reads ge lt))
    back call reads = tt

pub contained_block_fills : ContainedBlockFills
contained_block_fills t before fill a block legal live within =
    let s : State = state t before in
    let w : List ℕ = expand within.runs in
    let same : state t (before ++ fill ∷ []) ≡ record s { live = overlaid_blocks within.from w s.live; words = fill.draws.used + s.words; faults = fill.faults_after } =
    state_push step (Allowed t) start before fill
    ∙ ap (λ (x : Call). record (changed fill x fill.reply s) { words = fill.draws.used + s.words; faults = fill.faults_after }) within.call
    ∙ ap (λ (r : Reply). record (changed fill (Fill within.from within.runs) r s) { words = fill.draws.used + s.words; faults = fill.faults_after }) within.reply in
    subst (λ (x : State). IsBlockContained t s x a block.size) (sym same) (contained t s a block.size within.from w (fill.draws.used + s.words) fill.faults_after within.low within.high)
