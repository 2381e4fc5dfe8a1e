-- The entries that the calls add are allowed.
use Rattle.std.proofs.Common.{◌≡◌, ◌≢◌, ◌⊎◌, inl, inr, ⊎_elim, ℕ, ◌+◌, ◌*◌, ◌<◌, ◌≤◌, Bool, true, false, cond, not, ◌||◌, ◌&&◌, ◌==◌, nat_lt, List, [], ◌∷◌, length, slice_get, Option, Some, None, is_some, option_map, sym, ◌∙◌, ap, subst, refl, arith, true≢false}
use Rattle.std.specs.Option.{option_map_or}
use Rattle.std.specs.Int.{from_le_bytes}
use mir.Syntax.{w64}
use Rattle.std.proofs.lemmas.Bool.{and_parts}
use Rattle.std.proofs.lemmas.Bool.Decides.{nat_tests}
use Rattle.std.proofs.lemmas.Option.{none-some, same_Some}
use Rattle.hm_outside.specs.PageRuns.{PageRuns, IsHeld, Reads}
use Rattle.hm_model.specs.Maps.{among, at}
use Rattle.hm_model.specs.declared.entry.Who.{Who}
use Rattle.hm_model.specs.declared.entry.Call.{Call}
use Rattle.hm_model.specs.declared.entry.Reply.{Reply}
use Rattle.hm_model.specs.declared.entry.Choices.{Choices}
use Rattle.hm_model.specs.declared.entry.Draws.{Draws}
use Rattle.hm_model.specs.Entries.{AreDraws}
use Rattle.hm_model.proofs.Lists.{times_among}
use Rattle.hm_sizes.proofs.PlaceTest.{place_is}
use Rattle.hm_sizes.specs.declared.shape.Shape.{Shape}
use Rattle.hm_sizes.specs.Shapes.{IsShape, IsPlaceOf, IsGuard, place, slab_of, slot_of, has_bytes, usable}
use Rattle.hm_class_rules.specs.State.{State, Slab, is_open, is_live, is_taken, is_partial, is_empty, unopened}
use Rattle.hm_class_rules.specs.Kinds.{Kind, Partial, Empty, Neither, same_kind}
use Rattle.hm_class_rules.specs.Bytes.{first_nonzero, usable_bytes, kept_canary, found_canary}
use Rattle.hm_class_rules.specs.Rules.{Terms, Allows, Allowed, Asks, Source, IsLiveBlock, IsNoSlot, IsUnused, IsDoubleFree, wrong_canary}
use Rattle.hm_class_rules.specs.Laws.{IsSound, uses}
use Rattle.hm_class_rules.proofs.Delay.{among_here}
use Rattle.hm_class_rules.proofs.Sound.{has_times}
use Rattle.hm_class_rules.proofs.Changes.{kind_partial, kind_empty}
use Rattle.hm_slab_meta.specs.Uses.{SlotUse, was_given}
use Rattle.hm_class.specs.declared.slabs.Slot.{Slot}
use Rattle.hm_model.specs.declared.entry.Reply.TheVariants as reply
use Rattle.hm_class.specs.Uses.{numbers_of, Uses, SlabUse, lives, occupied, has_available, is_partly, is_unused, has_occupied, kind_of, kind_at, slab_in, canary_at, taken_uses, with_slab, fresh_slab}
use Rattle.hm_class.specs.Sources.{Refuses, IsLiveAt}
use Rattle.hm_model.specs.Calls.{entry_of}
use Rattle.hm_class.specs.Judgements.{other_number}
use Rattle.hm_class.specs.Kept.{Shows}
use Rattle.hm_class.specs.Region.{HoldsSlabs}
use Rattle.hm_class.proofs.Paged.{held_in, reads_bytes}
use Rattle.hm_class.proofs.Places.{slab_of_place, place_test, place_within, place_same, usable_within}
use Rattle.hm_class.proofs.Used.{found, slab_new}
use Rattle.hm_class.proofs.Shown.{kind_is, by_false, available_test}

-- an entry is allowed where its call asks and is answered as the rules say
pub allowed_of : {t : Terms} {s : State} {who : Who} (call : Call) (answer : Reply) (choices : Choices) (draws : Draws) {before now : ℕ} → AreDraws draws → Asks t.shape call → before ≡ s.faults → before ≤ now → Allows t s before now choices call answer
    → Allowed t s (entry_of who call answer choices draws before now)
allowed_of call answer choices draws are asks is later allows = record { draws = are; asks = asks; follows = is; later = later; allows = allows }

-- ---- places
-- the slots of open slabs are places
pub open_place : (p : Shape) (s : State) (n i : ℕ) → IsSound p s → is_open s n ≡ true → i < p.slots → IsPlaceOf p (place p n i) n i
open_place p s n i h on lt =
    let used = has_times n s.opens on in
    record { below = h.below_limit n (omega (arith, used)); no_guard = h.no_guard n (omega (arith, used)); slot = lt; is = refl }

-- ---- a slab that serves
-- an open slab with an available slot
pub record IsServing (all : Uses) (n : ℕ) : Type 0 where
  pub slab : SlabUse
  pub is_slab : slab_in all n ≡ Some slab
  pub on : slab.opened ≡ true
  pub has : has_available slab.slots ≡ true

by_kind : (o x y : Bool) → cond (not o) Neither (cond x Partial (cond y Empty Neither)) ≢ Neither → (o ≡ true) × ((x ≡ true) ⊎ (y ≡ true))
by_kind false x y ne = absurd (ne refl)
by_kind true true y ne = (refl, inl refl)
by_kind true false true ne = (refl, inr refl)
by_kind true false false ne = absurd (ne refl)

pub serving_of : (all : Uses) (n : ℕ) → kind_at all n ≢ Neither → IsServing all n
serving_of all n ne = of (slab_in all n) refl
  where
    of : (o : Option SlabUse) → slab_in all n ≡ o → IsServing all n
    of None is = absurd (ne (ap (λ (o : Option SlabUse). option_map_or kind_of o Neither) is))
    of (Some b) is =
        let r = by_kind b.opened (is_partly b) (is_unused b) (λ e. ne (ap (λ (o : Option SlabUse). option_map_or kind_of o Neither) is ∙ e)) in
        record {
          slab = b;
          is_slab = is;
          on = r.0;
          has = ⊎_elim (λ (e : is_partly b ≡ true). (and_parts (has_occupied b.slots) (has_available b.slots) e).1) (λ (e : is_unused b ≡ true). (and_parts (not (has_occupied b.slots)) (has_available b.slots) e).1) r.1;
        }

partial_serves : Partial ≢ Neither
partial_serves e = true≢false (ap (λ (k : Kind). same_kind Partial k) e)

empty_serves : Empty ≢ Neither
empty_serves e = true≢false (ap (λ (k : Kind). same_kind Empty k) e)

pub source_serves : (p : Shape) (all : Uses) (s : State) (n : ℕ) → IsShape p → Shows p all s → Source p s None n → IsServing all n
source_serves p all s n shape h source =
    serving_of all n (λ e. ⊎_elim
    (λ (partial : is_partial p s n ≡ true). partial_serves (sym (kind_partial p s n partial) ∙ kind_is p all s n shape h ∙ e))
    (λ (empty : is_empty p s n ≡ true). empty_serves (sym (kind_empty p s n empty) ∙ kind_is p all s n shape h ∙ e))
    (⊎_elim (λ (a : is_partial p s n ≡ true). inl a) (λ r. inr r.1) source))

-- ---- a slab that is opened
-- an address of a slab that is not open is not taken
taken_used : (s : State) (a : ℕ) → is_taken s a ≡ true → 1 ≤ uses s a
taken_used s a e =
    of (is_live s a) (among a s.quarantined) (among a s.condemned) refl refl refl e
  where
    of : (x y z : Bool) → is_live s a ≡ x → among a s.quarantined ≡ y → among a s.condemned ≡ z → (x || (y || z)) ≡ true → 1 ≤ uses s a
    of true y z live quarantined condemned e = omega (arith, has_times a s.live live)
    of false true z live quarantined condemned e = omega (arith, times_among a s.quarantined quarantined)
    of false false true live quarantined condemned e = omega (arith, times_among a s.condemned condemned)
    of false false false live quarantined condemned e = absurd (true≢false (sym e))

pub not_taken : (p : Shape) (s : State) (n i : ℕ) → IsShape p → IsSound p s → is_open s n ≡ false → i < p.slots → is_taken s (place p n i) ≡ false
not_taken p s n i shape h off lt = by_false (is_taken s (place p n i)) (λ e.
    (let r = h.placed (place p n i) (taken_used s (place p n i) e) in
    let same = place_same p n i r.slab r.slot shape lt r.is_place.slot r.is_place.is in
    true≢false (sym r.open_slab ∙ ap (λ (m : ℕ). is_open s m) (sym same.0) ∙ off)))

-- the slab that is opened next
pub record IsNew (p : Shape) (all : Uses) (s : State) (n : ℕ) : Type 0 where
  pub off : is_open s n ≡ false
  pub below : n < p.limit
  pub no_guard : IsGuard p n → ⊥
  pub there : is_some (slab_in (taken_uses (numbers_of p) s.shut all) n) ≡ true

fresh_next : (next limit n : ℕ) → cond (nat_lt next limit) (Some next) None ≡ Some n → (n ≡ next) × (next < limit)
fresh_next next limit n e = of (nat_lt next limit) refl e
  where
    below : (a b : ℕ) → nat_lt a b ≡ true → a < b
    below a b e = grind (arith, nat_tests)

    of : (t : Bool) → nat_lt next limit ≡ t → cond t (Some next) None ≡ Some n → (n ≡ next) × (next < limit)
    of true lt e = (sym (same_Some next n e), below next limit lt)
    of false ge e = absurd (none-some n e)

closed : (s : State) (n : ℕ) → (is_open s n ≡ true → ⊥) → is_open s n ≡ false
closed s n no_open = by_false (is_open s n) no_open

pub new_slab_is : (p : Shape) (all : Uses) (s : State) (n : ℕ) → IsSound p s → Shows p all s → unopened p s.shut s.next ≡ Some n → IsNew p all s n
new_slab_is p all s n sound h e = of s.shut refl e
  where
    of : (shut : List ℕ) → s.shut ≡ shut → unopened p shut s.next ≡ Some n → IsNew p all s n
    of [] none e =
        let r = fresh_next s.next p.limit n e in
        record {
          off = closed s n (λ on. absurd (omega (arith, sound.below_next n (omega (arith, has_times n s.opens on)), r.0)));
          below = omega (arith, r.0, r.1);
          no_guard = subst (λ (k : ℕ). IsGuard p k → ⊥) (sym r.0) sound.next_no_guard;
          there = ap (λ (l : List ℕ). is_some (slab_in (taken_uses (numbers_of p) l all) n)) none ∙ ap (λ (m : ℕ). is_some (slab_in (with_slab p.guard_interval all (fresh_slab p.slots)) m)) (r.0 ∙ h.next) ∙ ap (λ (o : Option SlabUse). is_some o) (slab_new p.guard_interval all (fresh_slab p.slots));
        }
    of (m ∷ ms) is e =
        let same : m ≡ n = same_Some m n e in
        let at_n : among n s.shut ≡ true = ap (λ (l : List ℕ). among n l) is ∙ ap (λ (k : ℕ). among n (k ∷ ms)) same ∙ among_here n ms in
        record {
          off = closed s n (λ on. absurd (omega (arith, sound.slab_once n, has_times n s.opens on, times_among n s.shut at_n)));
          below = sound.below_limit n (omega (arith, times_among n s.shut at_n));
          no_guard = sound.no_guard n (omega (arith, times_among n s.shut at_n));
          there = ap (λ (l : List ℕ). is_some (slab_in (taken_uses (numbers_of p) l all) n)) is ∙ h.shut n at_n;
        }

-- where its first slot is not occupied a slab has an available one
pub has_one : (slots : List SlotUse) → 1 ≤ length slots → option_map_or occupied (slice_get slots 0) false ≡ false → has_available slots ≡ true
has_one [] some e = absurd (omega arith)
has_one (u ∷ us) some e = ap (λ (b : Bool). b || has_available us) (sym (available_test u) ∙ ap (λ (b : Bool). not b) e)

-- ---- the bytes of a slot
-- a slot with bytes lies in its slab, its usable bytes and then its canary
pub usable_held : (p : Shape) (s : State) (n i : ℕ) (runs : PageRuns) → IsShape p → has_bytes p ≡ true → is_open s n ≡ true → i < p.slots → HoldsSlabs p s.opens runs → IsHeld runs (place p n i) (usable p)
usable_held p s n i runs shape own on lt h =
    let u = usable_within p shape own in
    held_in s n (i * p.slot) (usable p) own on refl (omega (arith, place_within p i shape lt, u.0)) u.1 h

pub canary_held : (p : Shape) (s : State) (n i : ℕ) (runs : PageRuns) → IsShape p → has_bytes p ≡ true → is_open s n ≡ true → i < p.slots → HoldsSlabs p s.opens runs → IsHeld runs (place p n i + usable p) 8
canary_held p s n i runs shape own on lt h =
    let u = usable_within p shape own in
    held_in s n (i * p.slot + usable p) 8 own on (omega arith) (omega (arith, place_within p i shape lt, u.0)) (omega arith) h

-- what is found among the usable bytes
pub first_found : {p : Shape} (s : State) (n i : ℕ) {runs : PageRuns} (found : Option (ℕ × ℕ)) → IsShape p → has_bytes p ≡ true → is_open s n ≡ true → i < p.slots → HoldsSlabs p s.opens runs
    → (IsHeld runs (place p n i) (usable p) → (slice : List ℕ) × Reads runs (place p n i) (usable p) slice × (found ≡ first_nonzero slice)) → first_nonzero (usable_bytes p s (place p n i)) ≡ found
first_found {p = p} s n i {runs = runs} found shape own on lt h finds =
    let r = finds (usable_held p s n i runs shape own on lt h) in
    sym (r.2 ∙ ap (λ (l : List ℕ). first_nonzero l) (reads_bytes p s (place p n i) (usable p) runs r.0 h r.1))

-- the canary of a slot's slab
pub kept_is : (p : Shape) (uses : Uses) (s : State) (n i : ℕ) → IsShape p → i < p.slots → Shows p uses s → kept_canary p s (place p n i) ≡ canary_at uses n
kept_is p uses s n i shape lt h = ap (λ (m : ℕ). option_map_or (λ (b : Slab). b.canary) (at m s.opens) 0) (slab_of_place p n i shape lt) ∙ h.canary n

-- ---- what is said of an address
module _ (p : Shape) (uses : Uses) (s : State) (a : ℕ) (shape : IsShape p) (h : Shows p uses s) where
  pub no_slot : Refuses p uses a reply.NoSlot → IsNoSlot p s a
  no_slot nowhere at = nowhere (slab_of p a) (slot_of p a) (place_is p a (slab_of p a) (slot_of p a) at)

  pub unused : Refuses p uses a reply.Unused → IsUnused p s a
  unused r = (place_test p a r.0 r.1 shape r.2, ap (λ (q : ℕ). among q s.given) r.2.is ∙ h.given r.0 r.1 r.2.slot ∙ r.3)

  pub double_free : Refuses p uses a reply.DoubleFree → IsDoubleFree p s a
  double_free r = (
    place_test p a r.0 r.1 shape r.2,
    ap (λ (q : ℕ). among q s.given) r.2.is ∙ h.given r.0 r.1 r.2.slot ∙ r.3,
    ap (λ (q : ℕ). is_live s q) r.2.is ∙ h.live r.0 r.1 r.2.slot ∙ r.4,
  )

  -- the live block at the address
  pub live_block : (slot : Slot) → IsLiveAt p uses a slot → IsLiveBlock p s a
  live_block slot judged = record {
    place = place_test p a slot.slab slot.index shape judged.0;
    given = ap (λ (q : ℕ). among q s.given) judged.0.is ∙ h.given slot.slab slot.index judged.0.slot ∙ ap (λ (o : Option SlotUse). option_map_or was_given o false) judged.1;
    live = ap (λ (q : ℕ). is_live s q) judged.0.is ∙ h.live slot.slab slot.index judged.0.slot ∙ ap (λ (o : Option SlotUse). option_map_or lives o false) judged.1;
  }

-- the slab of a live address is open
pub live_open : (p : Shape) (s : State) (n i : ℕ) → IsShape p → IsSound p s → i < p.slots → is_live s (place p n i) ≡ true → is_open s n ≡ true
live_open p s n i shape sound lt live =
    let r = sound.placed (place p n i) (omega (arith, has_times (place p n i) s.live live)) in
    let same = place_same p n i r.slab r.slot shape lt r.is_place.slot r.is_place.is in
    ap (λ (m : ℕ). is_open s m) same.0 ∙ r.open_slab

-- ---- canaries
abbrev pub pair_with : ℕ → ℕ → ℕ × ℕ
pair_with kept n = (kept, n)

abbrev pub told_pair : ℕ → ℕ → Option (ℕ × ℕ)
told_pair kept n = Some (kept, n)

number_is : (last : List ℕ) (canary : ℕ) (own : Bool) → own ≡ true
    → cond (own && not (from_le_bytes w64 last == canary)) (told_pair canary (from_le_bytes w64 last)) None ≡ option_map (pair_with canary) (other_number last canary)
number_is last canary true e = of (from_le_bytes w64 last == canary)
  where
    of : (b : Bool) → cond (not b) (told_pair canary (from_le_bytes w64 last)) None ≡ option_map (pair_with canary) (cond b None (Some (from_le_bytes w64 last)))
    of true = refl
    of false = refl
number_is last canary false e = absurd (true≢false (sym e))

-- what is found where a slot's canary stands
pub canary_found : {p : Shape} {uses : Uses} {s : State} {n i a : ℕ} {runs : PageRuns} (found : Option ℕ) → IsShape p → has_bytes p ≡ true → IsPlaceOf p a n i → is_open s n ≡ true → Shows p uses s → HoldsSlabs p s.opens runs
    → (IsHeld runs (a + usable p) 8 → (last : List ℕ) × Reads runs (a + usable p) 8 last × (found ≡ other_number last (canary_at uses n)))
    → wrong_canary p s a ≡ option_map (pair_with (canary_at uses n)) found
canary_found {p = p} {uses = uses} {s = s} {n = n} {i = i} {a = a} {runs = runs} found shape own at on h holds finds =
    let held : IsHeld runs (a + usable p) 8 = subst (λ (q : ℕ). IsHeld runs (q + usable p) 8) (sym at.is) (canary_held p s n i runs shape own on at.slot holds) in
    let r = finds held in
    let kept : kept_canary p s a ≡ canary_at uses n = ap (λ (q : ℕ). kept_canary p s q) at.is ∙ kept_is p uses s n i shape at.slot h in
    let read : found_canary p s a ≡ from_le_bytes w64 r.0 = ap (λ (l : List ℕ). from_le_bytes w64 l) (sym (reads_bytes p s (a + usable p) 8 runs r.0 holds r.1)) in
    ap (λ (k : ℕ). cond (has_bytes p && not (found_canary p s a == k)) (told_pair k (found_canary p s a)) None) kept
    ∙ ap (λ (f : ℕ). cond (has_bytes p && not (f == canary_at uses n)) (told_pair (canary_at uses n) f) None) read
    ∙ number_is r.0 (canary_at uses n) (has_bytes p) own
    ∙ ap (λ (o : Option ℕ). option_map (pair_with (canary_at uses n)) o) (sym r.2)
