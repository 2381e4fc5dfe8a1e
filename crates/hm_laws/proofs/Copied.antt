-- What a fetch reads stands there, and what a fill writes stands there after it.
use Rattle.std.proofs.Common.{◌≡◌, ℕ, zero, suc, ◌+◌, ◌-◌, ◌%◌, ◌*◌, ◌<◌, ◌≤◌, Bool, true, false, cond, ◌&&◌, nat_lt, nat_le, List, [], ◌∷◌, ◌++◌, length, Option, Some, None, is_some, unwrap_or, sym, ◌∙◌, ap, subst, refl, arith}
use Rattle.std.specs.Prelude.{slice_get}
use Rattle.std.specs.Option.{option_and_then}
use Rattle.std.proofs.lemmas.Bool.{and_parts, leb-true}
use Rattle.std.proofs.lemmas.Bool.Decides.{nat_tests}
use Rattle.std.proofs.lemmas.Nat.{div-add-mod', mod_below}
use Rattle.std.proofs.lemmas.Option.{none-some, slice_get-get_or}
use Rattle.hm_outside.specs.declared.pages.Pages as pages
use Rattle.hm_model.specs.declared.entry.Call.{Call}
use Rattle.hm_model.specs.declared.entry.Call.TheVariants.{Fetch, Fill}
use Rattle.hm_model.specs.declared.entry.Reply.{Reply}
use Rattle.hm_model.specs.Machine.{Legal_split, state_push}
use Rattle.hm_model.specs.Maps.{at}
use Rattle.hm_model.specs.Overlaid.{overlaid}
use Rattle.hm_model.specs.Ranges as ranges
use Rattle.hm_model.specs.Runs.{expand}
use Rattle.hm_model.proofs.Overlaid.{length_overlaid}
use Rattle.hm_sizes.specs.declared.shape.Shape.{Shape}
use Rattle.hm_sizes.specs.Origins.{Origin}
use Rattle.hm_sizes.specs.Shapes.{IsShape, slab_at, slab_of}
use Rattle.hm_class_rules.specs.Bytes as slots
use Rattle.hm_class_rules.specs.State as slot_state
use Rattle.hm_class_rules.specs.Steps as slot_steps
use Rattle.hm_heap.specs.ClassRules as class
use Rattle.hm_large_rules.specs.State as block_state
use Rattle.hm_large_rules.specs.Steps as block_steps
use Rattle.hm_large_rules.specs.Bytes as block_bytes
use Rattle.hm_heap.specs.LargeRules as large
use Rattle.hm_heap.specs.Lawful.{class_terms, large_terms}
use Rattle.hm_heap.specs.declared.close.Closed.{Closed}
use Rattle.hm_run.specs.declared.words.Options.{Options}
use Rattle.hm_run.specs.Replayed.{origin_at}
use Rattle.hm_run.proofs.Outcomes.{is_region}
use Rattle.hm_laws.specs.Kept.{byte_in}
use Rattle.hm_laws.specs.Moves.{BytesFetched, BytesFilled}
use Rattle.hm_laws.proofs.Regions.{class_byte, large_byte, by_kind, class_shape, class_legal, large_legal}
use Rattle.hm_laws.proofs.SlabBytes.{over_byte, past_start, get_over, hold_write, holds_at, at_holds}

-- ---- a range that is accessible
-- the byte of an address, as byte k of what was read
record IsRead (found : Option ℕ) (read : List ℕ) (k : ℕ) : Type 0 where
  byte : ℕ
  there : found ≡ Some byte
  read_is : slice_get read k ≡ Some byte

module _ (f : ℕ → Option ℕ) where
  accessible : (a len k : ℕ) → ranges.first_trap f a len ≡ None → k < len → (byte : ℕ) × (f (a + k) ≡ Some byte)
  accessible a zero k none lt = absurd (omega (arith, lt))
  accessible a (suc len) zero none lt = from (f a) refl none
    where
      from : (o : Option ℕ) → f a ≡ o → cond (is_some o) (ranges.first_trap f (a + 1) len) (Some a) ≡ None → (byte : ℕ) × (f (a + 0) ≡ Some byte)
      from (Some x) is e = (x, ap f (add_none a) ∙ is)
        where
          add_none : (n : ℕ) → n + 0 ≡ n
          add_none n = omega arith
      from None is e = absurd (none-some a (sym e))
  accessible a (suc len) (suc k) none lt = from (f a) none (λ later. accessible (a + 1) len k later (omega (arith, lt)))
    where
      next : (n k : ℕ) → n + suc k ≡ n + 1 + k
      next n k = omega arith

      from : (o : Option ℕ) → cond (is_some o) (ranges.first_trap f (a + 1) len) (Some a) ≡ None
          → (ranges.first_trap f (a + 1) len ≡ None → (byte : ℕ) × (f (a + 1 + k) ≡ Some byte)) → (byte : ℕ) × (f (a + suc k) ≡ Some byte)
      from (Some x) e more = let later = more e in (later.0, ap f (next a k) ∙ later.1)
      from None e more = absurd (none-some a (sym e))

  read_at : (a len k : ℕ) → k < len → slice_get (ranges.bytes_read f a len) k ≡ Some (unwrap_or (f (a + k)) 0)
  read_at a zero k lt = absurd (omega (arith, lt))
  read_at a (suc len) zero lt = ap (λ (q : ℕ). Some (unwrap_or (f q) 0)) (from a)
    where
      from : (n : ℕ) → n ≡ n + 0
      from n = omega arith
  read_at a (suc len) (suc k) lt = read_at (a + 1) len k (omega (arith, lt)) ∙ ap (λ (q : ℕ). Some (unwrap_or (f q) 0)) (back a k)
    where
      back : (n k : ℕ) → n + 1 + k ≡ n + suc k
      back n k = omega arith

  is_read : (a len k : ℕ) (read : List ℕ) → ranges.first_trap f a len ≡ None → read ≡ ranges.bytes_read f a len → k < len → IsRead (f (a + k)) read k
  is_read a len k read none is lt =
      let found = accessible a len k none lt in
      record {
        byte = found.0;
        there = found.1;
        read_is = ap (λ (l : List ℕ). slice_get l k) is ∙ read_at a len k lt ∙ ap (λ (o : Option ℕ). Some (unwrap_or o 0)) found.1;
      }

-- what is written at its own place is what was to be written
over_own : (a k was : ℕ) (w : List ℕ) → k < length w → ◌≡◌ {A = Option ℕ} (Some (over_byte a w (a + k) was)) (slice_get w k)
over_own a k was w lt =
    ap (λ (t : Bool). Some (unwrap_or (cond t None (slice_get w ((a + k) - a))) was)) (past_start a (a + k) (omega arith))
    ∙ ap (λ (n : ℕ). Some (unwrap_or (slice_get w n) was)) (off a k)
    ∙ ap (λ (o : Option ℕ). Some (unwrap_or o was)) (slice_get-get_or w k 0 lt)
    ∙ sym (slice_get-get_or w k 0 lt)
  where
    off : (a k : ℕ) → (a + k) - a ≡ k
    off a k = omega arith

-- ---- a class region
module _ (p : Shape) (shape : IsShape p) (s : slot_state.State) where
  slab_some : 1 ≤ p.slab
  slab_some = some p.slots p.slot p.slab shape.slots_some shape.slot_least shape.slots_fit
    where
      some : (n m l : ℕ) → 1 ≤ n → 16 ≤ m → n * m ≤ l → 1 ≤ l
      some zero m l a b c = absurd (omega (arith, a))
      some (suc n) m l a b c = omega (arith, a, b, c)

  above_first : (q x : ℕ) → slots.byte_at p s q ≡ Some x → p.first ≤ q
  above_first q x is = by (nat_lt q p.first) refl is
    where
      by : (b : Bool) → nat_lt q p.first ≡ b → cond b None (option_and_then (λ (z : slot_state.Slab). slice_get z.bytes ((q - p.first) % p.slab)) (at (slab_of p q) s.opens)) ≡ Some x → p.first ≤ q
      by true t e = absurd (none-some x e)
      by false t e = past q p.first t
        where
          past : (q f : ℕ) → nat_lt q f ≡ false → f ≤ q
          past q f t = grind (arith, nat_tests)

  slot_over : (a q was : ℕ) (w : List ℕ) → slots.byte_at p s q ≡ Some was → slots.byte_at p (slots.write p a w s) q ≡ Some (over_byte a w q was)
  slot_over a q was w is =
      let from = above_first q was is in
      let n : ℕ = slab_of p q in
      let r : ℕ = (q - p.first) % p.slab in
      let here : q ≡ slab_at p n + r = omega (arith, from, div-add-mod' (q - p.first) p.slab) in
      let lt : r < p.slab = mod_below (q - p.first) p.slab slab_some in
      let k = slots.kept_canary p s q in
      at_holds p (slots.write p a w s) n r q (over_byte a w q was) k here lt (hold_write p a w s.opens n r q was k here (holds_at p s n r q was here lt is))

-- ---- the large region
block_over : (x : ℕ) (w : List ℕ) (m : block_state.Blocks) (q was : ℕ) → block_bytes.byte_at m q ≡ Some was → block_bytes.byte_at (block_bytes.overlaid_blocks x w m) q ≡ Some (over_byte x w q was)
block_over x w [] q was is = absurd (none-some was is)
block_over x w (e ∷ m) q was is =
    ap (λ (n : ℕ). cond (nat_le e.0 q && nat_lt q (e.0 + n)) (slice_get (overlaid x w e.0 e.1.bytes) (q - e.0)) (block_bytes.byte_at (block_bytes.overlaid_blocks x w m) q)) (length_overlaid x w e.0 e.1.bytes)
    ∙ (elim (nat_le e.0 q && nat_lt q (e.0 + length e.1.bytes)) as (λ t. (nat_le e.0 q && nat_lt q (e.0 + length e.1.bytes)) ≡ t
    → cond t (slice_get e.1.bytes (q - e.0)) (block_bytes.byte_at m q) ≡ Some was
    → cond t (slice_get (overlaid x w e.0 e.1.bytes) (q - e.0)) (block_bytes.byte_at (block_bytes.overlaid_blocks x w m) q) ≡ Some (over_byte x w q was)) [
      | true ↦ λ t h. (let low : e.0 ≤ q = leb-true e.0 q (and_parts (nat_le e.0 q) (nat_lt q (e.0 + length e.1.bytes)) t).0 in
          get_over x w e.0 (q - e.0) q e.1.bytes was (omega (arith, low)) h)
      | false ↦ λ t h. block_over x w m q was h
    ] refl is)

-- ---- of the histories that a run hands out
module _ {P : Type 0} (meaning : pages.Ghosts P) (o : Options) (closed : Closed P) where
  pub bytes_fetched : BytesFetched meaning o closed
  bytes_fetched index a count k p before fetch runs begins told call reply lt =
      let r : Origin = origin_at meaning o index p in
      let out = by_kind r {P = IsRead (byte_in r before (a + k)) (expand runs) k} (is_region meaning o closed index p (before ++ fetch ∷ []) begins)
      (λ class_lt. let t : class.Terms = class_terms r in
      let last = (Legal_split (slot_steps.step t.shape) (class.Allowed t) slot_state.start before (fetch ∷ []) (class_legal meaning o closed index p (before ++ fetch ∷ []) begins class_lt)).1.0 in
      let allows = subst (λ (x : Reply). class.Allows t (class.state t before) fetch.faults_before fetch.faults_after fetch.choices (Fetch a count) x) reply
      (subst (λ (x : Call). class.Allows t (class.state t before) fetch.faults_before fetch.faults_after fetch.choices x fetch.reply) call last.allows) in
      let reads = allows.1 told in
      subst (λ (f : Option ℕ). IsRead f (expand runs) k) (sym (class_byte r before (a + k) class_lt))
      (is_read (slots.byte_at t.shape (class.state t before)) a count k (expand runs) reads.0 reads.1 lt))
      (λ large_is. let t : large.Terms = large_terms r in
      let last = (Legal_split block_steps.step (large.Allowed t) block_state.start before (fetch ∷ []) (large_legal meaning o closed index p (before ++ fetch ∷ []) begins large_is)).1.0 in
      let allows = subst (λ (x : Reply). large.Allows t (large.state t before) fetch (Fetch a count) x) reply
      (subst (λ (x : Call). large.Allows t (large.state t before) fetch x fetch.reply) call last.allows) in
      let reads = allows.1 told in
      subst (λ (f : Option ℕ). IsRead f (expand runs) k) (sym (large_byte r before (a + k) large_is))
      (is_read (block_bytes.byte_at (large.state t before).live) a count k (expand runs) reads.0 reads.1 lt)) in
      (out.byte, out.there, out.read_is)

  pub bytes_filled : BytesFilled meaning o closed
  bytes_filled index a k p before fill runs begins told call reply lt =
      let r : Origin = origin_at meaning o index p in
      let w : List ℕ = expand runs in
      by_kind r {P = byte_in r (before ++ fill ∷ []) (a + k) ≡ slice_get w k} (is_region meaning o closed index p (before ++ fill ∷ []) begins)
      (λ class_lt. let t : class.Terms = class_terms r in
      let s : slot_state.State = class.state t before in
      let last = (Legal_split (slot_steps.step t.shape) (class.Allowed t) slot_state.start before (fill ∷ []) (class_legal meaning o closed index p (before ++ fill ∷ []) begins class_lt)).1.0 in
      let allows = subst (λ (x : Reply). class.Allows t s fill.faults_before fill.faults_after fill.choices (Fill a runs) x) reply
      (subst (λ (x : Call). class.Allows t s fill.faults_before fill.faults_after fill.choices x fill.reply) call last.allows) in
      let was = accessible (slots.byte_at t.shape s) a (length w) k (allows.0 told) lt in
      let after : class.state t (before ++ fill ∷ []) ≡ record (slots.write t.shape a w s) { faults = fill.faults_after } =
      state_push (slot_steps.step t.shape) (class.Allowed t) slot_state.start before fill
      ∙ ap (λ (x : Call). record (slot_steps.changed t.shape fill.choices x fill.reply s) { faults = fill.faults_after }) call
      ∙ ap (λ (x : Reply). record (slot_steps.changed t.shape fill.choices (Fill a runs) x s) { faults = fill.faults_after }) reply in
      class_byte r (before ++ fill ∷ []) (a + k) class_lt
      ∙ ap (λ (x : slot_state.State). slots.byte_at t.shape x (a + k)) after
      ∙ slot_over t.shape (class_shape meaning o closed index p (before ++ fill ∷ []) begins class_lt) s a (a + k) was.0 w was.1
      ∙ over_own a k was.0 w lt)
      (λ large_is. let t : large.Terms = large_terms r in
      let s : block_state.State = large.state t before in
      let last = (Legal_split block_steps.step (large.Allowed t) block_state.start before (fill ∷ []) (large_legal meaning o closed index p (before ++ fill ∷ []) begins large_is)).1.0 in
      let allows = subst (λ (x : Reply). large.Allows t s fill (Fill a runs) x) reply
      (subst (λ (x : Call). large.Allows t s fill x fill.reply) call last.allows) in
      let was = accessible (block_bytes.byte_at s.live) a (length w) k (allows.0 told) lt in
      let after : (large.state t (before ++ fill ∷ [])).live ≡ block_bytes.overlaid_blocks a w s.live =
      ap (λ (x : block_state.State). x.live) (state_push block_steps.step (large.Allowed t) block_state.start before fill)
      ∙ ap (λ (x : Call). (block_steps.changed fill x fill.reply s).live) call
      ∙ ap (λ (x : Reply). (block_steps.changed fill (Fill a runs) x s).live) reply in
      large_byte r (before ++ fill ∷ []) (a + k) large_is
      ∙ ap (λ (x : block_state.Blocks). block_bytes.byte_at x (a + k)) after
      ∙ block_over a w s.live (a + k) was.0 was.1
      ∙ over_own a k was.0 w lt)
