-- States that differ in usable bytes of live slots alone allow the same.
use Rattle.std.proofs.Common.{◌≡◌, ◌⊎◌, inl, inr, ⊎_elim, ℕ, zero, suc, ◌+◌, ◌-◌, ◌*◌, ◌%◌, ◌<◌, ◌≤◌, ◌==◌, Bool, true, false, cond, not, ◌||◌, ◌&&◌, List, [], ◌∷◌, length, Option, Some, None, is_some, unwrap_or, sym, ◌∙◌, ap, subst, refl, arith, true≢false}
use Rattle.std.specs.Prelude.{slice_get, nat_lt, ⊤}
use Rattle.std.specs.List.{list_any, list_all, range_with_len, filter}
use Rattle.std.specs.Option.{option_and_then}
use Rattle.std.specs.Int.{from_le_bytes}
use mir.Syntax.{w64}
use Rattle.std.proofs.lemmas.Bool.{cases_lt, cases_eq}
use Rattle.std.proofs.lemmas.Bool.Decides.{nat_tests}
use Rattle.std.proofs.lemmas.Nat.{div-add-mod'}
use Rattle.std.proofs.Math.Nat.{mod-lt}
use Rattle.std.proofs.lemmas.Option.{slice_get_past, slice_get-get_or}
use Rattle.hm_base.specs.Lists.{zeros}
use Rattle.hm_model.specs.declared.entry.Call.{Call}
use Rattle.hm_model.specs.declared.entry.Call.TheVariants.{Allot, GiveBack, Measure, Fetch, Fill}
use Rattle.hm_model.specs.declared.entry.Reply.{Reply}
use Rattle.hm_model.specs.declared.entry.Reply.TheVariants.{Given, Overwritten, Exhausted, PagesFailed, Freed, NoSlot, Unused, DoubleFree, WrongSize, Canary, Usable, Bytes, Filled, Trap}
use Rattle.hm_model.specs.declared.entry.Choices.{Choices}
use Rattle.hm_model.specs.Maps.{at, among, put, keys}
use Rattle.hm_model.specs.Ranges as ranges
use Rattle.hm_model.specs.Runs.{expand}
use Rattle.hm_model.proofs.Lists.{has_keys}
use Rattle.hm_sizes.specs.declared.shape.Shape.{Shape}
use Rattle.hm_sizes.specs.Shapes.{IsShape, IsPlaceOf, has_bytes, usable, place, slab_at, slab_of, slot_of}
use Rattle.hm_sizes.proofs.PlaceTest.{slot_row, place_read, shape_places}
use Rattle.hm_class_rules.specs.State.{State, Slab, is_open, is_live, is_taken, is_free, has_free, is_empty, is_partial, empty_slabs, none_partial, none_empty}
use Rattle.hm_class_rules.specs.Bytes.{byte_at, first_trap, bytes_read, bytes_from, usable_bytes, overlaid_slabs, first_nonzero, kept_canary, found_canary}
use Rattle.hm_class_rules.specs.Steps.{taken_new, new_slab, opened, takes_back, releases}
use Rattle.hm_class_rules.specs.Rules.{Terms, Allows, AllowsFreed, NoneServes, Source, Picks, Releases, Empties, IsLiveBlock, surplus, reuse_finds, wrong_canary}
use Rattle.hm_class_rules.specs.Laws.{IsSound}
use Rattle.hm_class_rules.proofs.Sound.{has_times, keys_overlaid}
use Rattle.hm_class_rules.proofs.Legal.{picked_place, places_apart}
use Rattle.hm_class_rules.proofs.Zeroed.{byte_of, bytes_in, opens_some}
use Rattle.hm_class_rules.proofs.Changes.{taken_opened}
use Rattle.hm_guarantees.proofs.Bytes.{canary_at}
use Rattle.hm_guarantees.proofs.KeptBytes.{fits}
use Rattle.hm_guarantees.proofs.AlikeSlabs.{AlikeSlabs, alike_keys, alike_at, alike_put, same_piece}

-- the state with other open slabs, and another count of faults
abbrev pub at_slabs : List (ℕ × Slab) → ℕ → State → State
at_slabs m f s = record s { opens = m; faults = f }

-- q is among the usable bytes of a live slot
pub record IsUsable (p : Shape) (s : State) (q : ℕ) : Type 0 where
  pub slot : ℕ
  pub live : is_live s slot ≡ true
  pub low : slot ≤ q
  pub high : q < slot + usable p

-- ---- which slabs serve
module _ (p : Shape) (s : State) (m : List (ℕ × Slab)) (f : ℕ) (same : keys s.opens ≡ keys m) where
  pub open_same : (n : ℕ) → is_open s n ≡ is_open (at_slabs m f s) n
  open_same n = has_keys n s.opens ∙ ap (λ (l : List ℕ). among n l) same ∙ sym (has_keys n m)

  pub free_same : (n i : ℕ) → is_free p s n i ≡ is_free p (at_slabs m f s) n i
  free_same n i = ap (λ (b : Bool). b && not (is_taken s (place p n i))) (open_same n)

  pub any_same : (n : ℕ) → has_free p s n ≡ has_free p (at_slabs m f s) n
  any_same n = λ j. list_any (λ i. free_same n i j) (range_with_len 0 p.slots)

  pub empty_same : (n : ℕ) → is_empty p s n ≡ is_empty p (at_slabs m f s) n
  empty_same n = λ j. list_all (λ i. free_same n i j) (range_with_len 0 p.slots)

  pub partial_same : (n : ℕ) → is_partial p s n ≡ is_partial p (at_slabs m f s) n
  partial_same n = λ j. any_same n j && not (empty_same n j)

  none_partial_same : none_partial p s ≡ none_partial p (at_slabs m f s)
  none_partial_same = λ j. not (list_any (λ n. partial_same n j) (same j))

  none_empty_same : none_empty p s ≡ none_empty p (at_slabs m f s)
  none_empty_same = λ j. not (list_any (λ n. empty_same n j) (same j))

  empties_same : empty_slabs p s ≡ empty_slabs p (at_slabs m f s)
  empties_same = λ j. filter (λ n. empty_same n j) (same j)

  pub none_serves : NoneServes p s → NoneServes p (at_slabs m f s)
  none_serves h = (sym none_partial_same ∙ h.0, sym none_empty_same ∙ h.1)

  pub source_same : (o : Option ℕ) (n : ℕ) → Source p s o n → Source p (at_slabs m f s) o n
  source_same None n h = ⊎_elim (λ l. inl (sym (partial_same n) ∙ l)) (λ r. inr (sym none_partial_same ∙ r.0, sym (empty_same n) ∙ r.1)) h
  source_same (Some k) n h = (h.0, none_serves h.1, h.2)

  pub surplus_same : (o : Option ℕ) → surplus p s o ≡ surplus p (at_slabs m f s) o
  surplus_same None = refl
  surplus_same (Some b) = λ j. cond (empty_same (slab_of p b) j && nat_lt 131072 (length (empties_same j) * p.slab)) (Some (slab_of p b)) None

-- ---- a slab that is opened, and what is released
abbrev pub opened_slabs : Shape → Option ℕ → Option ℕ → List (ℕ × Slab) → List (ℕ × Slab)
opened_slabs p None canary m = m
opened_slabs p (Some n) canary m = put n (new_slab p (unwrap_or canary 0)) m

new_same : (p : Shape) (shut : List ℕ) (m : List (ℕ × Slab)) (f : ℕ) (s : State) → taken_new p shut (at_slabs m f s) ≡ at_slabs m f (taken_new p shut s)
new_same p [] m f s = refl
new_same p (x ∷ xs) m f s = refl

pub opened_same : (p : Shape) (o canary : Option ℕ) (m : List (ℕ × Slab)) (f : ℕ) (s : State) → opened p o canary (at_slabs m f s) ≡ at_slabs (opened_slabs p o canary m) f (opened p o canary s)
opened_same p None canary m f s = refl
opened_same p (Some n) canary m f s = ap (λ (x : State). record x { opens = put n (new_slab p (unwrap_or canary 0)) m }) (new_same p s.shut m f s)

pub opened_alike : (p : Shape) (W : ℕ → Type 0) (o canary : Option ℕ) (s : State) (m : List (ℕ × Slab)) → AlikeSlabs p W s.opens m → AlikeSlabs p W (opened p o canary s).opens (opened_slabs p o canary m)
opened_alike p W None canary s m h = h
opened_alike p W (Some n) canary s m h = alike_put p W n (new_slab p (unwrap_or canary 0)) s.opens m h

pub releases_same : (o : Option ℕ) (m : List (ℕ × Slab)) (f : ℕ) (s : State) → releases o (at_slabs m f s) ≡ at_slabs m f (releases o s)
releases_same None m f s = refl
releases_same (Some b) m f s = refl

pub releases_opens : (o : Option ℕ) (s : State) → (releases o s).opens ≡ s.opens
releases_opens None s = refl
releases_opens (Some b) s = refl

pub may_release : (p : Shape) (s : State) (m : List (ℕ × Slab)) (f : ℕ) (o : Option ℕ) → Releases p s o → Releases p (at_slabs m f s) o
may_release p s m f None h = h
may_release p s m f (Some b) h = h

pub may_empty : (t : Terms) (s : State) (m : List (ℕ × Slab)) (f before now : ℕ) (c : Choices) (o : Option ℕ) → Empties t s before now c o → Empties t (at_slabs m f s) before now c o
may_empty t s m f before now c None h = h
may_empty t s m f before now c (Some k) h = h

-- ---- addresses
-- the address is row r of a slab
record IsRow (p : Shape) (q : ℕ) : Type 0 where
  number : ℕ
  row : ℕ
  is : q ≡ slab_at p number + row
  whole : row < p.slab

in_or_below : (p : Shape) → IsShape p → (q : ℕ) → (q < p.first) ⊎ IsRow p q
in_or_below p shape q =
    ⊎_elim
    (λ lt. inl lt)
    (λ le. inr (record {
      number = slab_of p q;
      row = (q - p.first) % p.slab;
      is = omega (arith, le, div-add-mod' (q - p.first) p.slab);
      whole = mod-lt (q - p.first) (some p.slab p.slots p.slot shape.slots_some shape.slot_least shape.slots_fit);
    }))
    (cases_lt q p.first)
  where
    some : (slab slots slot : ℕ) → 1 ≤ slots → 16 ≤ slot → slots * slot ≤ slab → 0 < slab
    some slab slots slot x y z = grind arith

none_below : (p : Shape) (s : State) (q : ℕ) → q < p.first → byte_at p s q ≡ None
none_below p s q lt = ap (λ (b : Bool). cond b None (option_and_then (λ (b : Slab). slice_get b.bytes ((q - p.first) % p.slab)) (at (slab_of p q) s.opens))) (below q p.first lt)
  where
    below : (a b : ℕ) → a < b → nat_lt a b ≡ true
    below a b lt = grind (arith, nat_tests)

-- ---- bytes
module _ (p : Shape) (W : ℕ → Type 0) (s : State) (m : List (ℕ × Slab)) (f : ℕ) (h : AlikeSlabs p W s.opens m) where
  -- a place's bytes from the first after some on, none of which may differ
  pub piece_same : (n i o len a : ℕ) → IsPlaceOf p a n i → i * p.slot + o < p.slab → is_open s n ≡ true → ((k : ℕ) → k < len → W (a + o + k) → ⊥) → bytes_from p s (a + o) len ≡ bytes_from p (at_slabs m f s) (a + o) len
  piece_same n i o len a at_a whole open_slab apart =
      let on = opens_some s.opens n open_slab in
      let other = alike_at p W s.opens m n on.0 h on.1 in
      let r : ℕ = i * p.slot + o in
      let is : a + o ≡ slab_at p n + r = omega (arith, at_a.is) in
      bytes_in p s n r (a + o) len on.0 is whole on.1
      ∙ same_piece r len on.0.bytes other.slab.bytes other.alike.count
      (λ k lt. other.alike.each (r + k) (subst (λ (q : ℕ). W q → ⊥) (address a o k (slab_at p n) r is) (apart k lt)))
      ∙ sym (bytes_in p (at_slabs m f s) n r (a + o) len other.slab is whole other.there)
    where
      address : (a o k base r : ℕ) → a + o ≡ base + r → a + o + k ≡ base + (r + k)
      address a o k base r e = omega (arith, e)

  pub kept_same : (n i a : ℕ) → IsPlaceOf p a n i → i * p.slot < p.slab → is_open s n ≡ true → kept_canary p s a ≡ kept_canary p (at_slabs m f s) a
  kept_same n i a at_a whole open_slab =
      let on = opens_some s.opens n open_slab in
      let other = alike_at p W s.opens m n on.0 h on.1 in
      canary_at p s n (i * p.slot) a on.0 at_a.is whole on.1 ∙ other.alike.canary ∙ sym (canary_at p (at_slabs m f s) n (i * p.slot) a other.slab at_a.is whole other.there)

  none_there : (n : ℕ) → at n s.opens ≡ None → at n m ≡ None
  none_there n on = gone (at n m) (sym (open_same p s m f (alike_keys p W s.opens m h) n) ∙ ap (λ (o : Option Slab). is_some o) on)
    where
      gone : (o : Option Slab) → is_some o ≡ false → o ≡ None
      gone None e = refl
      gone (Some b) e = absurd (true≢false e)

  -- the byte at an address, where it may not differ; and whether there is one
  in_slabs : (n r : ℕ) (o : Option Slab) → at n s.opens ≡ o → (W (slab_at p n + r) → ⊥) → option_and_then (λ (b : Slab). slice_get b.bytes r) (at n s.opens) ≡ option_and_then (λ (b : Slab). slice_get b.bytes r) (at n m)
  in_slabs n r None on out = ap (λ (o : Option Slab). option_and_then (λ (b : Slab). slice_get b.bytes r) o) (on ∙ sym (none_there n on))
  in_slabs n r (Some b) on out =
      let other = alike_at p W s.opens m n b h on in
      ap (λ (o : Option Slab). option_and_then (λ (b : Slab). slice_get b.bytes r) o) on ∙ other.alike.each r out
      ∙ sym (ap (λ (o : Option Slab). option_and_then (λ (b : Slab). slice_get b.bytes r) o) other.there)

  some_there : (n r : ℕ) (o : Option Slab) → at n s.opens ≡ o → is_some (option_and_then (λ (b : Slab). slice_get b.bytes r) (at n s.opens)) ≡ is_some (option_and_then (λ (b : Slab). slice_get b.bytes r) (at n m))
  some_there n r None on = ap (λ (o : Option Slab). is_some (option_and_then (λ (b : Slab). slice_get b.bytes r) o)) (on ∙ sym (none_there n on))
  some_there n r (Some b) on =
      let other = alike_at p W s.opens m n b h on in
      ap (λ (o : Option Slab). is_some (option_and_then (λ (b : Slab). slice_get b.bytes r) o)) on ∙ some_get b.bytes other.slab.bytes r other.alike.count
      ∙ sym (ap (λ (o : Option Slab). is_some (option_and_then (λ (b : Slab). slice_get b.bytes r) o)) other.there)
    where
      some_get : (b c : List ℕ) (r : ℕ) → length b ≡ length c → is_some (slice_get b r) ≡ is_some (slice_get c r)
      some_get b c r e =
          ⊎_elim
          (λ lt. ap (λ (o : Option ℕ). is_some o) (slice_get-get_or b r 0 lt) ∙ sym (ap (λ (o : Option ℕ). is_some o) (slice_get-get_or c r 0 (omega (arith, lt, e)))))
          (λ ge. ap (λ (o : Option ℕ). is_some o) (slice_get_past b r ge) ∙ sym (ap (λ (o : Option ℕ). is_some o) (slice_get_past c r (omega (arith, ge, e)))))
          (cases_lt r (length b))

  pub byte_same : IsShape p → (q : ℕ) → (W q → ⊥) → byte_at p s q ≡ byte_at p (at_slabs m f s) q
  byte_same shape q out =
      ⊎_elim
      (λ lt. none_below p s q lt ∙ sym (none_below p (at_slabs m f s) q lt))
      (λ i. byte_of p s i.number i.row q i.is i.whole ∙ in_slabs i.number i.row (at i.number s.opens) refl (subst (λ (x : ℕ). W x → ⊥) i.is out) ∙ sym (byte_of p (at_slabs m f s) i.number i.row q i.is i.whole))
      (in_or_below p shape q)

  pub some_same : IsShape p → (q : ℕ) → is_some (byte_at p s q) ≡ is_some (byte_at p (at_slabs m f s) q)
  some_same shape q =
      ⊎_elim
      (λ lt. ap (λ (o : Option ℕ). is_some o) (none_below p s q lt ∙ sym (none_below p (at_slabs m f s) q lt)))
      (λ i. ap (λ (o : Option ℕ). is_some o) (byte_of p s i.number i.row q i.is i.whole) ∙ some_there i.number i.row (at i.number s.opens) refl ∙ sym (ap (λ (o : Option ℕ). is_some o) (byte_of p (at_slabs m f s) i.number i.row q i.is i.whole)))
      (in_or_below p shape q)

  pub trap_same : IsShape p → (a len : ℕ) → first_trap p s a len ≡ first_trap p (at_slabs m f s) a len
  trap_same shape a len = λ j. ranges.first_failing (λ q. some_same shape q j) a len

  pub read_same : IsShape p → (a len : ℕ) → ((q : ℕ) → a ≤ q → q < a + len → W q → ⊥) → bytes_read p s a len ≡ bytes_read p (at_slabs m f s) a len
  read_same shape a zero out = refl
  read_same shape a (suc len) out =
      let first : unwrap_or (byte_at p s a) 0 ≡ unwrap_or (byte_at p (at_slabs m f s) a) 0 = ap (λ (o : Option ℕ). unwrap_or o 0) (byte_same shape a (out a (omega arith) (omega arith))) in
      let rest : bytes_read p s (a + 1) len ≡ bytes_read p (at_slabs m f s) (a + 1) len = read_same shape (a + 1) len (λ q low high. out q (omega (arith, low)) (omega (arith, high))) in
      λ i. first i ∷ rest i

-- ---- what is allowed
module _ (t : Terms) (W : ℕ → Type 0) (s : State) (m : List (ℕ × Slab)) (f : ℕ) (shape : IsShape t.shape) (fit : IsSound t.shape s) (inside : (q : ℕ) → W q → IsUsable t.shape s q) (h : AlikeSlabs t.shape W s.opens m) where
  live_place : (a : ℕ) → is_live s a ≡ true → IsPlaceOf t.shape a (slab_of t.shape a) (slot_of t.shape a) × (is_open s (slab_of t.shape a) ≡ true)
  live_place a live =
      let stands = fit.placed a (omega (arith, has_times a s.live live)) in
      let read = place_read t.shape a stands.slab stands.slot (shape_places t.shape shape) stands.is_place in (
        subst (λ (n : ℕ). IsPlaceOf t.shape a n (slot_of t.shape a)) (sym read.slab) (subst (λ (i : ℕ). IsPlaceOf t.shape a stands.slab i) (sym read.slot) stands.is_place),
        subst (λ (n : ℕ). is_open s n ≡ true) (sym read.slab) stands.open_slab,
      )

  -- a usable byte of a place that is not live may not differ, nor one of a canary
  free_apart : (a n i : ℕ) → IsPlaceOf t.shape a n i → is_live s a ≡ false → (k : ℕ) → k < usable t.shape → W (a + 0 + k) → ⊥
  free_apart a n i at_a dead k lt w =
      let u = inside (a + 0 + k) w in
      let there = live_place u.slot u.live in
      ⊎_elim
      (λ same. true≢false (sym (ap (λ (x : ℕ). is_live s x) same ∙ u.live) ∙ dead))
      (λ ne. ⊎_elim
      (λ l. omega (arith, l, u.low, u.high, lt, fits t.shape shape))
      (λ r. omega (arith, r, u.low, u.high, lt, fits t.shape shape))
      (places_apart t.shape a u.slot n i (slab_of t.shape u.slot) (slot_of t.shape u.slot) shape at_a there.0 ne))
      (cases_eq a u.slot)

  canary_apart : (a : ℕ) → is_live s a ≡ true → (k : ℕ) → k < 8 → W (a + usable t.shape + k) → ⊥
  canary_apart a live k lt w =
      let u = inside (a + usable t.shape + k) w in
      let here = live_place a live in
      let there = live_place u.slot u.live in
      ⊎_elim
      (λ same. omega (arith, same, u.high))
      (λ ne. ⊎_elim
      (λ l. omega (arith, l, u.low, u.high, lt, fits t.shape shape))
      (λ r. omega (arith, r, u.low, u.high, lt, fits t.shape shape))
      (places_apart t.shape a u.slot (slab_of t.shape a) (slot_of t.shape a) (slab_of t.shape u.slot) (slot_of t.shape u.slot) shape here.0 there.0 ne))
      (cases_eq a u.slot)

  keys_same : keys s.opens ≡ keys m
  keys_same = alike_keys t.shape W s.opens m h

  pub wrong_same : (a : ℕ) → is_live s a ≡ true → wrong_canary t.shape s a ≡ wrong_canary t.shape (at_slabs m f s) a
  wrong_same a live = by (has_bytes t.shape) refl
    where
      p : Shape
      p = t.shape

      by : (b : Bool) → has_bytes p ≡ b → wrong_canary p s a ≡ wrong_canary p (at_slabs m f s) a
      by false e =
          ap (λ (x : Bool). cond (x && not (found_canary p s a == kept_canary p s a)) (Some (kept_canary p s a, found_canary p s a)) None) e
          ∙ sym (ap (λ (x : Bool). cond (x && not (found_canary p (at_slabs m f s) a == kept_canary p (at_slabs m f s) a)) (Some (kept_canary p (at_slabs m f s) a, found_canary p (at_slabs m f s) a)) None) e)
      by true e =
          let here = live_place a live in
          let n : ℕ = slab_of p a in
          let i : ℕ = slot_of p a in
          let row : i * p.slot + p.slot ≤ p.slab = omega (arith, slot_row p.slot i p.slots here.0.slot, shape.slots_fit) in
          let found : found_canary p s a ≡ found_canary p (at_slabs m f s) a =
          ap (λ (l : List ℕ). from_le_bytes w64 l) (piece_same p W s m f h n i (usable p) 8 a here.0 (omega (arith, row, fits p shape)) here.1 (canary_apart a live)) in
          let kept : kept_canary p s a ≡ kept_canary p (at_slabs m f s) a = kept_same p W s m f h n i a here.0 (omega (arith, row, shape.slot_least)) here.1 in
          λ j. cond (has_bytes p && not (found j == kept j)) (Some (kept j, found j)) None

  live_block : (a : ℕ) → IsLiveBlock t.shape s a → IsLiveBlock t.shape (at_slabs m f s) a
  live_block a b = record { place = b.place; given = b.given; live = b.live }

  picks_same : (c : Choices) (a : ℕ) → Picks t.shape s (opened t.shape c.opened c.canary s) c a → Picks t.shape (at_slabs m f s) (opened t.shape c.opened c.canary (at_slabs m f s)) c a
  picks_same c a pick =
      let p : Shape = t.shape in
      let now : State = opened p c.opened c.canary s in
      let m' : List (ℕ × Slab) = opened_slabs p c.opened c.canary m in
      let keys_now : keys now.opens ≡ keys m' = alike_keys p W now.opens m' (opened_alike p W c.opened c.canary s m h) in
      let there : Picks p (at_slabs m f s) (at_slabs m' f now) c a = record {
        place = pick.place;
        source = source_same p s m f keys_same c.opened (slab_of p a) pick.source;
        open_slab = sym (open_same p now m' f keys_now (slab_of p a)) ∙ pick.open_slab;
        free = pick.free;
        canary = pick.canary;
        choices = pick.choices;
      } in
      subst (λ (x : State). Picks p (at_slabs m f s) x c a) (sym (opened_same p c.opened c.canary m f s)) there

  finds_same : (c : Choices) (a : ℕ) → Picks t.shape s (opened t.shape c.opened c.canary s) c a
      → reuse_finds t.config t.shape (opened t.shape c.opened c.canary s) a ≡ reuse_finds t.config t.shape (opened t.shape c.opened c.canary (at_slabs m f s)) a
  finds_same c a pick =
      let p : Shape = t.shape in
      let now : State = opened p c.opened c.canary s in
      let m' : List (ℕ × Slab) = opened_slabs p c.opened c.canary m in
      let at_a = picked_place p s now c a pick in
      let n : ℕ = slab_of p a in
      let i : ℕ = slot_of p a in
      let row : i * p.slot + p.slot ≤ p.slab = omega (arith, slot_row p.slot i p.slots at_a.slot, shape.slots_fit) in
      let dead : is_live s a ≡ false = not_taken (is_live s a) _ (sym (taken_opened p c.opened c.canary s a) ∙ pick.free) in
      let from_start : a + 0 ≡ a = omega arith in
      let same : usable_bytes p now a ≡ usable_bytes p (at_slabs m' f now) a =
      subst (λ (x : ℕ). bytes_from p now x (usable p) ≡ bytes_from p (at_slabs m' f now) x (usable p)) from_start
      (piece_same p W now m' f (opened_alike p W c.opened c.canary s m h) n i 0 (usable p) a at_a (omega (arith, row, shape.slot_least)) pick.open_slab (free_apart a n i at_a dead)) in
      (λ j. cond t.config.check_reuse (first_nonzero (same j)) None)
      ∙ ap (λ (x : State). reuse_finds t.config p x a) (sym (opened_same p c.opened c.canary m f s))
    where
      not_taken : (a b : Bool) → (a || b) ≡ false → a ≡ false
      not_taken true b e = e
      not_taken false b e = refl

  freed_same : (before now : ℕ) (c : Choices) (a : ℕ) (stated : Option ℕ) → AllowsFreed t s before now c a stated → AllowsFreed t (at_slabs m f s) before now c a stated
  freed_same before now c a stated allows =
      let p : Shape = t.shape in
      let s₁ : State = takes_back p a s in
      let m₁ : List (ℕ × Slab) = overlaid_slabs p a (zeros (usable p)) m in
      let s₂ : State = releases c.released s₁ in
      let keys₂ : keys s₂.opens ≡ keys m₁ =
      ap (λ (l : List (ℕ × Slab)). keys l) (releases_opens c.released s₁) ∙ keys_overlaid p a (zeros (usable p)) s.opens ∙ keys_same ∙ sym (keys_overlaid p a (zeros (usable p)) m) in
      let after : Empties t (at_slabs m₁ f s₂) before now c (surplus p (at_slabs m₁ f s₂) c.released) =
      subst (λ (o : Option ℕ). Empties t (at_slabs m₁ f s₂) before now c o) (surplus_same p s₂ m₁ f keys₂ c.released)
      (may_empty t s₂ m₁ f before now c (surplus p s₂ c.released) allows.emptied) in
      record {
        block = live_block a allows.block;
        size = allows.size;
        canary = λ told. sym (wrong_same a allows.block.live) ∙ allows.canary told;
        release = may_release p s₁ m₁ f c.released allows.release;
        emptied = subst (λ (x : State). Empties t x before now c (surplus p x c.released)) (sym (releases_same c.released m₁ f s₁)) after;
        choices = allows.choices;
      }

  -- the call reads no byte that may differ
  abbrev pub ReadsSame : Call → Type 0
  ReadsSame (Fetch a len) = (q : ℕ) → a ≤ q → q < a + len → W q → ⊥
  ReadsSame call = ⊤

  pub allows_same : (before now : ℕ) (c : Choices) (call : Call) (reply : Reply) → ReadsSame call → Allows t s before now c call reply → Allows t (at_slabs m f s) before now c call reply
  allows_same before now c (Allot asked align) (Given a size) reads x = (picks_same c a x.0, x.1, λ told. sym (finds_same c a x.0) ∙ x.2 told)
  allows_same before now c (Allot asked align) (Overwritten a at found) reads x = (picks_same c a x.0, x.1, λ told. sym (finds_same c a x.0) ∙ x.2 told)
  allows_same before now c (Allot asked align) Exhausted reads x = (none_serves t.shape s m f keys_same x.0, x.1, x.2)
  allows_same before now c (Allot asked align) PagesFailed reads x = (none_serves t.shape s m f keys_same x.0, x.1, x.2, x.3, x.4)
  allows_same before now c (GiveBack a stated) NoSlot reads x = x
  allows_same before now c (GiveBack a stated) Unused reads x = x
  allows_same before now c (GiveBack a stated) DoubleFree reads x = x
  allows_same before now c (GiveBack a stated) (WrongSize block other) reads x = (live_block a x.0, x.1, x.2)
  allows_same before now c (GiveBack a stated) (Canary kept found) reads x = (live_block a x.0, x.1, x.2, λ told. sym (wrong_same a x.0.live) ∙ x.3 told, x.4)
  allows_same before now c (GiveBack a stated) Freed reads x = freed_same before now c a stated x
  allows_same before now c (Measure a) NoSlot reads x = x
  allows_same before now c (Measure a) Unused reads x = x
  allows_same before now c (Measure a) DoubleFree reads x = x
  allows_same before now c (Measure a) (Usable size) reads x = (live_block a x.0, x.1, x.2)
  allows_same before now c (Fetch a len) (Bytes runs) reads x = (x.0, λ told. (sym (trap_same t.shape W s m f h shape a len) ∙ (x.1 told).0, (x.1 told).1 ∙ read_same t.shape W s m f h shape a len reads), x.2)
  allows_same before now c (Fetch a len) (Trap q) reads x = (λ told. sym (trap_same t.shape W s m f h shape a len) ∙ x.0 told, x.1)
  allows_same before now c (Fill a runs) Filled reads x = (λ told. sym (trap_same t.shape W s m f h shape a (length (expand runs))) ∙ x.0 told, x.1)
  allows_same before now c (Fill a runs) (Trap q) reads x = (λ told. sym (trap_same t.shape W s m f h shape a (length (expand runs))) ∙ x.0 told, x.1)
  allows_same before now c call reply reads x = absurd x
