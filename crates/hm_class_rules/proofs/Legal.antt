-- Laws of all legal histories.
use Rattle.std.proofs.Common.{◌≡◌, ◌≢◌, ◌⊎◌, inl, inr, ⊎_elim, ℕ, zero, suc, ◌+◌, ◌*◌, ◌<◌, ◌≤◌, Bool, true, false, cond, not, ◌&&◌, nat_lt, List, [], ◌∷◌, length, Option, Some, None, sym, ◌∙◌, ap, subst, refl, arith, true≢false}
use Rattle.std.specs.List.{list_all, range_with_len}
use Rattle.std.proofs.lemmas.Bool.{cases_lt, and_parts}
use Rattle.std.proofs.lemmas.Nat.{rows}
use Rattle.std.proofs.lemmas.Option.{none-some, same_Some}
use Rattle.hm_model.specs.declared.entry.Entry.{Entry}
use Rattle.hm_model.specs.declared.entry.Call.{Call}
use Rattle.hm_model.specs.declared.entry.Call.TheVariants.{Allot, GiveBack, Fill}
use Rattle.hm_model.specs.declared.entry.Reply.{Reply}
use Rattle.hm_model.specs.declared.entry.Reply.TheVariants.{Given, Overwritten, Freed, Filled}
use Rattle.hm_model.specs.declared.entry.Choices.{Choices}
use Rattle.hm_sizes.specs.declared.shape.Shape.{Shape}
use Rattle.hm_model.specs.Machine.{Legal_push, Legal_split, legal_keeps}
use Rattle.hm_model.specs.Maps.{among}
use Rattle.hm_class_rules.specs.State.{State, start, is_open, is_taken, is_free, is_empty, empty_slabs, unopened}
use Rattle.hm_sizes.proofs.PlaceTest.{place_is, slot_row}
use Rattle.hm_sizes.specs.Shapes.{place, slab_of, slot_of, IsPlaceOf}
use Rattle.hm_model.specs.Runs.{expand}
use Rattle.hm_class_rules.specs.Steps.{opened, takes_back, releases, unparks, retires, purges, changed, step}
use Rattle.hm_class_rules.specs.Rules.{Terms, Allows, Allowed, state, Source, Picks, AllowsFreed, Empties, surplus, Unparks}
use Rattle.hm_sizes.specs.Shapes.{IsShape}
use Rattle.hm_class_rules.specs.Laws.{uses, IsSound, Sound, Prefixes, OneMore, OneLess, Apart}
use Rattle.hm_class_rules.proofs.Sound.{free_uses, sound_faults, sound_write, sound_gives, sound_condemns, sound_takes_back, sound_releases, sound_unparks, sound_retires, sound_opened, has_times}

-- ---- prefixes
pub prefixes : Prefixes
prefixes t es fs legal = (Legal_split (step t.shape) (Allowed t) start es fs legal).0

pub one_more : OneMore
one_more t es e legal allowed = Legal_push (step t.shape) (Allowed t) start es e legal allowed

pub one_less : OneLess
one_less t es e legal = let r = Legal_split (step t.shape) (Allowed t) start es (e ∷ []) legal in (r.0, r.1.0)

-- ---- every step keeps the lists sound
pub source_new : (p : Shape) (s : State) (o : Option ℕ) (n m : ℕ) → Source p s o n → o ≡ Some m → unopened p s.shut s.next ≡ Some m
source_new p s None n m source e = absurd (none-some m e)
source_new p s (Some k) n m source e = source.2 ∙ e

pub surplus_empty : (p : Shape) (s : State) (o : Option ℕ) (m : ℕ) → surplus p s o ≡ Some m → is_empty p s m ≡ true
surplus_empty p s None m e = absurd (none-some m e)
surplus_empty p s (Some b) m e =
    elim (is_empty p s (slab_of p b)) as (λ x. is_empty p s (slab_of p b) ≡ x → cond (x && nat_lt 131072 (length (empty_slabs p s) * p.slab)) (Some (slab_of p b)) None ≡ Some m → is_empty p s m ≡ true) [
      | false ↦ λ is h. absurd (none-some m h)
      | true ↦ λ is. elim (nat_lt 131072 (length (empty_slabs p s) * p.slab)) as (λ y. cond y (Some (slab_of p b)) None ≡ Some m → is_empty p s m ≡ true) [
        | true ↦ λ h. subst (λ (k : ℕ). is_empty p s k ≡ true) (same_Some (slab_of p b) m h) is
        | false ↦ λ h. absurd (none-some m h)
      ]
    ] refl e

-- an empty slab is open, since it has a slot
pub empty_open : (p : Shape) (s : State) (m : ℕ) → IsShape p → is_empty p s m ≡ true → is_open s m ≡ true
empty_open p s m shape e = (and_parts (is_open s m) (not (is_taken s (place p m 0))) (first (is_free p s m) p.slots shape.slots_some e)).0
  where
    first : (f : ℕ → Bool) (n : ℕ) → 1 ≤ n → list_all f (range_with_len 0 n) ≡ true → f 0 ≡ true
    first f zero some e = absurd (omega arith)
    first f (suc n) some e = (and_parts (f 0) (list_all f (range_with_len (0 + 1) n)) e).0

out_unpark : (p : Shape) (s : State) (u : Option ℕ) → ((v : ℕ) → u ≡ Some v → among v s.parked ≡ true) → IsSound p s → IsSound p (unparks u s)
out_unpark p s None was h = h
out_unpark p s (Some v) was h = sound_unparks p s v (was v refl) h

same_empty : (p : Shape) (s : State) (u : Option ℕ) (m : ℕ) → is_empty p s m ≡ true → is_empty p (unparks u s) m ≡ true
same_empty p s None m e = e
same_empty p s (Some v) m e = e

out_retire : (p : Shape) (s : State) (r : Option ℕ) → IsShape p → ((m : ℕ) → r ≡ Some m → is_empty p s m ≡ true) → IsSound p s → IsSound p (retires r s)
out_retire p s None shape is h = h
out_retire p s (Some m) shape is h = sound_retires p s m (empty_open p s m shape (is m refl)) (is m refl) h

out_purge : (p : Shape) (s : State) (q : Option ℕ) → IsSound p s → IsSound p (purges p q s)
out_purge p s None h = h
out_purge p s (Some m) h = sound_write p s _ _ h

unparks_one : (most : ℕ) (parked : List ℕ) (u : Option ℕ) (v : ℕ) → Unparks most parked u → u ≡ Some v → among v parked ≡ true
unparks_one most parked None v a e = absurd (none-some v e)
unparks_one most parked (Some w) v a e = subst (λ (k : ℕ). among k parked ≡ true) (same_Some w v e) a.0

unparked_was : (t : Terms) (s : State) (before now : ℕ) (c : Choices) (o : Option ℕ) → Empties t s before now c o → (v : ℕ) → c.unparked ≡ Some v → among v s.parked ≡ true
unparked_was t s before now c None a v e = absurd (none-some v (sym a.2 ∙ e))
unparked_was t s before now c (Some m) a v e =
    ⊎_elim (λ l. unparks_one t.config.park_length s.parked c.unparked v l.2 e) (λ r. absurd (none-some v (sym r.2 ∙ e))) a

pub retired_was : (t : Terms) (s : State) (before now : ℕ) (c : Choices) (o : Option ℕ) → Empties t s before now c o → (m : ℕ) → c.retired ≡ Some m → o ≡ Some m
retired_was t s before now c None a m e = absurd (none-some m (sym a.0 ∙ e))
retired_was t s before now c (Some k) a m e = ⊎_elim (λ l. sym l.0 ∙ e) (λ r. absurd (none-some m (sym r.0 ∙ e))) a

sound_freed : (t : Terms) (s : State) (before now : ℕ) (c : Choices) (a : ℕ) (stated : Option ℕ) → IsShape t.shape → IsSound t.shape s → AllowsFreed t s before now c a stated
    → IsSound t.shape (purges t.shape c.purged (retires c.retired (unparks c.unparked (releases c.released (takes_back t.shape a s)))))
sound_freed t s before now c a stated shape h allows =
    let p : Shape = t.shape in
    let s₂ : State = releases c.released (takes_back p a s) in
    let h₂ = sound_releases p (takes_back p a s) c.released (sound_takes_back p s a h allows.block.live) in
    let h₃ = out_unpark p s₂ c.unparked (unparked_was t s₂ before now c (surplus p s₂ c.released) allows.emptied) h₂ in
    out_purge p _ c.purged (out_retire p (unparks c.unparked s₂) c.retired shape
    (λ m e. same_empty p s₂ c.unparked m (surplus_empty p s₂ c.released m (retired_was t s₂ before now c (surplus p s₂ c.released) allows.emptied m e)))
    h₃)

pub picked_place : (p : Shape) (s now : State) (c : Choices) (a : ℕ) → Picks p s now c a → IsPlaceOf p a (slab_of p a) (slot_of p a)
picked_place p s now c a k = place_is p a (slab_of p a) (slot_of p a) k.place

-- what was picked is in an open slab, and was in no list
pub picked_uses : (p : Shape) (s now : State) (c : Choices) (a : ℕ) (k : Picks p s now c a) → (is_open now (slab_of p a) ≡ true) × (uses now a ≡ 0)
picked_uses p s now c a k = (k.open_slab, free_uses now a (ap (λ (b : Bool). not b) k.free))

sound_changed : (t : Terms) (s : State) (before now : ℕ) (c : Choices) (call : Call) (reply : Reply) → IsShape t.shape → IsSound t.shape s → Allows t s before now c call reply → IsSound t.shape (changed t.shape c call reply s)
sound_changed t s before now c (Allot asked align) (Given a size) shape h allows =
    let k = allows.0 in
    let u = picked_uses t.shape s (opened t.shape c.opened c.canary s) c a k in
    sound_gives t.shape (opened t.shape c.opened c.canary s) (slab_of t.shape a) (slot_of t.shape a) a asked (sound_opened t.shape s c.opened c.canary shape h (λ n. source_new t.shape s c.opened (slab_of t.shape a) n k.source)) (picked_place t.shape s (opened t.shape c.opened c.canary s) c a k) u.0 u.1
sound_changed t s before now c (Allot asked align) (Overwritten a place found) shape h allows =
    let k = allows.0 in
    let u = picked_uses t.shape s (opened t.shape c.opened c.canary s) c a k in
    sound_condemns t.shape (opened t.shape c.opened c.canary s) (slab_of t.shape a) (slot_of t.shape a) a (sound_opened t.shape s c.opened c.canary shape h (λ n. source_new t.shape s c.opened (slab_of t.shape a) n k.source)) (picked_place t.shape s (opened t.shape c.opened c.canary s) c a k) u.0 u.1
sound_changed t s before now c (GiveBack a stated) Freed shape h allows = sound_freed t s before now c a stated shape h allows
sound_changed t s before now c (Fill a runs) Filled shape h allows = sound_write t.shape s a (expand runs) h
sound_changed t s before now c call reply shape h allows = h

pub sound_step : (t : Terms) (s : State) (e : Entry) → IsShape t.shape → IsSound t.shape s → Allowed t s e → IsSound t.shape (step t.shape s e)
sound_step t s e shape h allowed = sound_faults t.shape _ e.faults_after (sound_changed t s e.faults_before e.faults_after e.choices e.call e.reply shape h allowed.allows)

pub sound_start : (p : Shape) → IsShape p → IsSound p start
sound_start p shape = record {
  once = λ a. omega arith;
  placed = λ a u. absurd (omega arith);
  was_given = λ a l. absurd (true≢false (sym l));
  slab_once = λ n. omega arith;
  below_next = λ n u. absurd (omega arith);
  below_limit = λ n u. absurd (omega arith);
  no_guard = λ n u. absurd (omega arith);
  next_no_guard = λ g. omega (arith, shape.guards_some, g);
}

pub sound : Sound
sound t es shape legal = legal_keeps (step t.shape) (Allowed t) (IsSound t.shape) (λ s e h allowed. sound_step t s e shape h allowed) start es (sound_start t.shape shape) legal

-- ---- live slots
pub slab_row : (first slab m n : ℕ) → m < n → (first + m * slab) + slab ≤ first + n * slab
slab_row first slab m n lt = grind (arith, rows)

pub places_apart : (p : Shape) (a b n i m j : ℕ) → IsShape p → IsPlaceOf p a n i → IsPlaceOf p b m j → a ≢ b → (a + p.slot ≤ b) ⊎ (b + p.slot ≤ a)
places_apart p a b n i m j shape x y ne =
    ⊎_elim
    (λ lt. inl (omega (arith, slab_row p.first p.slab n m lt, slot_row p.slot i p.slots x.slot, shape.slots_fit, x.is, y.is)))
    (λ ge. ⊎_elim
    (λ lt. inr (omega (arith, slab_row p.first p.slab m n lt, slot_row p.slot j p.slots y.slot, shape.slots_fit, x.is, y.is)))
    (λ le. in_slab (omega arith))
    (cases_lt m n))
    (cases_lt n m)
  where
    both : (i j : ℕ) → j ≤ i → i ≤ j → i ≡ j
    both i j p q = omega arith

    in_slab : n ≡ m → (a + p.slot ≤ b) ⊎ (b + p.slot ≤ a)
    in_slab e =
        let at_b : b ≡ place p n j = y.is ∙ ap (λ (k : ℕ). place p k j) (sym e) in
        ⊎_elim
        (λ lt. inl (omega (arith, slot_row p.slot i j lt, x.is, at_b)))
        (λ ge. ⊎_elim
        (λ lt. inr (omega (arith, slot_row p.slot j i lt, x.is, at_b)))
        (λ le. absurd (ne (x.is ∙ ap (λ (k : ℕ). place p n k) (both i j ge le) ∙ sym at_b)))
        (cases_lt j i))
        (cases_lt i j)

pub apart : Apart
apart t es a b shape legal x y ne =
    let h = sound t es shape legal in
    let s : State = state t es in
    let ra = h.placed a (omega (arith, has_times a s.live x)) in
    let rb = h.placed b (omega (arith, has_times b s.live y)) in
    places_apart t.shape a b ra.slab ra.slot rb.slab rb.slot shape ra.is_place rb.is_place ne
