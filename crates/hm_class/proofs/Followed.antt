-- How the slots follow the state, step by step.
use Rattle.std.proofs.Common.{◌≡◌, ◌≢◌, ◌⊎◌, inl, inr, ⊎_elim, ℕ, ◌+◌, ◌<◌, ◌==◌, Bool, true, false, cond, ◌||◌, List, [], ◌∷◌, ◌++◌, length, slice_get, Option, Some, None, is_some, sym, ◌∙◌, ap, subst, refl, arith, true≢false}
use Rattle.std.specs.Option.{option_and_then, option_map_or}
use Rattle.std.specs.Int.{to_le_bytes}
use mir.Syntax.{w64}
use Rattle.std.proofs.lemmas.Bool.{cases_eq}
use Rattle.std.proofs.lemmas.List.{length-replicate, length-set}
use Rattle.std.proofs.lemmas.Option.{same_Some}
use Rattle.hm_base.specs.Lists.{zeros}
use Rattle.hm_sizes.specs.declared.shape.Shape.{Shape}
use Rattle.hm_sizes.specs.Shapes.{IsShape, place, after, usable}
use Rattle.hm_model.specs.Maps.{among, at, has, put, removed}
use Rattle.hm_model.proofs.Lists.{same_eq, other_eq}
use Rattle.hm_class_rules.specs.State.{State, Slab, is_open, is_live}
use Rattle.hm_class_rules.specs.Steps.{new_slab, taken_new, gives, condemns, takes_back, releases, retires, unparks}
use Rattle.hm_class_rules.specs.Bytes.{kept_canary, write}
use Rattle.hm_class_rules.proofs.Changes.{among_apart}
use Rattle.hm_class_rules.proofs.Delay.{among_here}
use Rattle.hm_class_rules.proofs.Fronts.{among_filter}
use Rattle.hm_class_rules.proofs.Whole.{at_removed}
use Rattle.hm_slab_meta.specs.Uses.{SlotUse}
use Rattle.hm_slab_meta.specs.Uses.{Never, Free, Live, Quarantined, Condemned, was_given}
use Rattle.hm_class.specs.Uses.{numbers_of, Uses, SlabUse, lives, is_condemned, is_quarantined, occupied, slab_in, use_at, passes_at, changed, with_use, with_open, with_shut, with_slab, with_slot, opened_slab, shut_slab, fresh_slab, taken_uses}
use Rattle.hm_class.specs.Kept.{Shows}
use Rattle.hm_class.proofs.Entered.{has_removed_same, has_removed_other, has_put_same, has_put_other, at_put_same, at_put_other, has_overlaid, canary_overlaid}
use Rattle.hm_class.proofs.Places.{place_same}
use Rattle.hm_class.proofs.Used.{use_here, use_there, use_beside, length_changed, each_slab, slab_new, slab_old, length_with_slab, new_slot, slab_past}

-- ---- the count of faults
pub shows_count : (p : Shape) (uses : Uses) (s : State) (faults : ℕ) → Shows p uses s → Shows p uses (record s { faults = faults })
shows_count p uses s faults h = record {
  opens = h.opens;
  slots = h.slots;
  canary = h.canary;
  live = h.live;
  quarantined = h.quarantined;
  condemned = h.condemned;
  given = h.given;
  parked = h.parked;
  shut = h.shut;
  next = h.next;
}

-- ---- a slab changes
module _ (uses : Uses) (n : ℕ) (f : SlabUse → SlabUse) {b : SlabUse} (is : slab_in uses n ≡ Some b) where
  -- the same slabs are there
  pub some_changed : (m : ℕ) → is_some (slab_in (changed uses n f) m) ≡ is_some (slab_in uses m)
  some_changed = each_slab uses n f b is (λ m o. is_some o ≡ is_some (slab_in uses m)) (ap (λ (o : Option SlabUse). is_some o) (sym is)) (λ m ne. refl)

  -- a number of each slab that stays
  pub told_changed : {X : Type 0} (tell : SlabUse → X) (none : X) → tell (f b) ≡ tell b → (m : ℕ) → option_map_or tell (slab_in (changed uses n f) m) none ≡ option_map_or tell (slab_in uses m) none
  told_changed tell none same = each_slab uses n f b is (λ m o. option_map_or tell o none ≡ option_map_or tell (slab_in uses m) none)
      (same ∙ ap (λ (o : Option SlabUse). option_map_or tell o none) (sym is)) (λ m ne. refl)

  pub whole_changed : (k : ℕ) → length (f b).slots ≡ length b.slots → ((m : ℕ) (x : SlabUse) → slab_in uses m ≡ Some x → length x.slots ≡ k)
      → (m : ℕ) (x : SlabUse) → slab_in (changed uses n f) m ≡ Some x → length x.slots ≡ k
  whole_changed k same whole = each_slab uses n f b is (λ m o. (x : SlabUse) → o ≡ Some x → length x.slots ≡ k)
      (λ x e. ap (λ (y : SlabUse). length y.slots) (sym (same_Some (f b) x e)) ∙ same ∙ whole n b is) (λ m ne. whole m)

  -- where its slots stay all do
  pub uses_kept : (f b).slots ≡ b.slots → (m j : ℕ) → use_at (changed uses n f) m j ≡ use_at uses m j
  uses_kept same m j = each_slab uses n f b is (λ m o. option_and_then (λ (b : SlabUse). slice_get b.slots j) o ≡ use_at uses m j)
      (ap (λ (l : List SlotUse). slice_get l j) same ∙ ap (λ (o : Option SlabUse). option_and_then (λ (b : SlabUse). slice_get b.slots j) o) (sym is)) (λ m ne. refl) m

-- ---- one slot changes
-- slab n is there, with as many slots as the shape says, and i is one of them
pub record HasSlot (p : Shape) (uses : Uses) (n i : ℕ) (b : SlabUse) : Type 0 where
  pub shape : IsShape p
  pub is_slab : slab_in uses n ≡ Some b
  pub long : length b.slots ≡ p.slots
  pub within : i < p.slots

pub slot_shown : {p : Shape} {uses : Uses} {s : State} {n i : ℕ} {b : SlabUse} → IsShape p → Shows p uses s → slab_in uses n ≡ Some b → i < p.slots → HasSlot p uses n i b
slot_shown {n = n} {b = b} shape h is lt = record { shape = shape; is_slab = is; long = h.slots n b is; within = lt }

-- what is said of each place is the test of its slot's use
abbrev Tells : Shape → (SlotUse → Bool) → (ℕ → Bool) → Uses → Type 0
Tells p test says uses = (m j : ℕ) → j < p.slots → says (place p m j) ≡ passes_at test uses m j

module _ {p : Shape} {uses : Uses} {n i : ℕ} {b : SlabUse} (slot : HasSlot p uses n i b) (u : SlotUse) where
  -- a place is that slot, or another that is used as before
  changes : (m j : ℕ) → j < p.slots → ((m ≡ n) × (j ≡ i)) ⊎ ((place p n i ≢ place p m j) × (use_at (with_use uses n i u) m j ≡ use_at uses m j))
  changes m j lt =
      ⊎_elim
      (λ same. ⊎_elim
      (λ same'. inl (same, same'))
      (λ ne. inr (
        (λ e. ne (sym (place_same p n i m j slot.shape slot.within lt e).1)),
        subst (λ (k : ℕ). use_at (with_use uses n i u) k j ≡ use_at uses k j) (sym same) (use_beside uses n i u b slot.is_slab j ne),
      ))
      (cases_eq j i))
      (λ ne. inr ((λ e. ne (sym (place_same p n i m j slot.shape slot.within lt e).0)), use_there uses n i u b slot.is_slab m j ne))
      (cases_eq m n)

  -- what is said of places, where it is said of the one that changed and of the others
  each_place : (test : SlotUse → Bool) (says said : ℕ → Bool) → says (place p n i) ≡ test u → ((q : ℕ) → place p n i ≢ q → says q ≡ said q)
      → Tells p test said uses → Tells p test says (with_use uses n i u)
  each_place test says said here there old m j lt =
      let uses' : Uses = with_use uses n i u in
      let now : use_at uses' n i ≡ Some u = use_here uses n i u b slot.is_slab (omega (arith, slot.within, slot.long)) in
      ⊎_elim
      (λ same. ap (λ (q : ℕ). says (place p q j)) same.0 ∙ ap (λ (q : ℕ). says (place p n q)) same.1 ∙ here
      ∙ ap (λ (o : Option SlotUse). option_map_or test o false) (sym now)
      ∙ ap (λ (q : ℕ). passes_at test uses' n q) (sym same.1) ∙ ap (λ (q : ℕ). passes_at test uses' q j) (sym same.0))
      (λ other. there (place p m j) other.0 ∙ old m j lt ∙ ap (λ (o : Option SlotUse). option_map_or test o false) (sym other.1))
      (changes m j lt)

-- what changes where the slot at address a is used so
pub record IsChanged (a : ℕ) (u : SlotUse) (s s' : State) : Type 0 where
  pub opens : (n : ℕ) → is_open s' n ≡ is_open s n
  pub canary : (n : ℕ) → option_map_or (λ (b : Slab). b.canary) (at n s'.opens) 0 ≡ option_map_or (λ (b : Slab). b.canary) (at n s.opens) 0
  pub live_here : is_live s' a ≡ lives u
  pub live_there : (q : ℕ) → a ≢ q → is_live s' q ≡ is_live s q
  pub quarantined_here : among a s'.quarantined ≡ is_quarantined u
  pub quarantined_there : (q : ℕ) → a ≢ q → among q s'.quarantined ≡ among q s.quarantined
  pub condemned_here : among a s'.condemned ≡ is_condemned u
  pub condemned_there : (q : ℕ) → a ≢ q → among q s'.condemned ≡ among q s.condemned
  pub given_here : among a s'.given ≡ was_given u
  pub given_there : (q : ℕ) → a ≢ q → among q s'.given ≡ among q s.given
  pub next : s'.next ≡ s.next
  pub parked : s'.parked ≡ s.parked
  pub shut : s'.shut ≡ s.shut

pub shows_changed : {p : Shape} {uses : Uses} {s s' : State} {n i : ℕ} {u : SlotUse} {b : SlabUse} → HasSlot p uses n i b → Shows p uses s → IsChanged (place p n i) u s s' → Shows p (with_use uses n i u) s'
shows_changed {p = p} {uses = uses} {s = s} {s' = s'} {n = n} {i = i} {u = u} {b = b} slot h c =
    let is = slot.is_slab in
    let f : SlabUse → SlabUse = with_slot i u in
    record {
      opens = λ m. c.opens m ∙ h.opens m ∙ sym (told_changed uses n f is (λ (b : SlabUse). b.opened) false refl m);
      slots = whole_changed uses n f is p.slots (length-set b.slots i u) h.slots;
      canary = λ m. c.canary m ∙ h.canary m ∙ sym (told_changed uses n f is (λ (b : SlabUse). b.canary) 0 refl m);
      live = each_place slot u lives (λ q. is_live s' q) (λ q. is_live s q) c.live_here c.live_there h.live;
      quarantined = each_place slot u is_quarantined (λ q. among q s'.quarantined) (λ q. among q s.quarantined) c.quarantined_here c.quarantined_there h.quarantined;
      condemned = each_place slot u is_condemned (λ q. among q s'.condemned) (λ q. among q s.condemned) c.condemned_here c.condemned_there h.condemned;
      given = each_place slot u was_given (λ q. among q s'.given) (λ q. among q s.given) c.given_here c.given_there h.given;
      parked = λ m e. some_changed uses n f is m ∙ h.parked m (ap (λ (l : List ℕ). among m l) (sym c.parked) ∙ e);
      shut = λ m e. some_changed uses n f is m ∙ h.shut m (ap (λ (l : List ℕ). among m l) (sym c.shut) ∙ e);
      next = c.next ∙ h.next ∙ sym (length_changed uses n f b is);
    }

-- ---- the slot of an address
pub available_is : (u : SlotUse) → occupied u ≡ false → (lives u ≡ false) × (is_quarantined u ≡ false) × (is_condemned u ≡ false)
available_is Never e = (refl, refl, refl)
available_is Free e = (refl, refl, refl)
available_is Live e = absurd (true≢false e)
available_is Quarantined e = absurd (true≢false e)
available_is (Condemned g) e = absurd (true≢false e)

-- what is said of a slot that is there
pub at_place : (uses : Uses) (n i : ℕ) (u : SlotUse) (test : SlotUse → Bool) (said : Bool) → use_at uses n i ≡ Some u → said ≡ passes_at test uses n i → said ≡ test u
at_place uses n i u test said is says = says ∙ ap (λ (o : Option SlotUse). option_map_or test o false) is

gives_changed : (p : Shape) (s : State) (a asked : ℕ) → among a s.quarantined ≡ false → among a s.condemned ≡ false → IsChanged a Live s (gives p a asked s)
gives_changed p s a asked quarantined condemned = record {
  opens = λ n. has_overlaid p (a + usable p) (to_le_bytes w64 (kept_canary p s a)) n s.opens;
  canary = λ n. canary_overlaid p (a + usable p) (to_le_bytes w64 (kept_canary p s a)) n s.opens;
  live_here = has_put_same a asked s.live;
  live_there = λ q ne. has_put_other q a asked s.live ne;
  quarantined_here = quarantined;
  quarantined_there = λ q ne. refl;
  condemned_here = condemned;
  condemned_there = λ q ne. refl;
  given_here = among_here a s.given;
  given_there = λ q ne. among_apart a q s.given ne;
  next = refl;
  parked = refl;
  shut = refl;
}

condemns_changed : (s : State) (a : ℕ) (given : Bool) → is_live s a ≡ false → among a s.quarantined ≡ false → among a s.given ≡ given → IsChanged a (Condemned given) s (condemns a s)
condemns_changed s a given live quarantined was = record {
  opens = λ n. refl;
  canary = λ n. refl;
  live_here = live;
  live_there = λ q ne. refl;
  quarantined_here = quarantined;
  quarantined_there = λ q ne. refl;
  condemned_here = among_here a s.condemned;
  condemned_there = λ q ne. among_apart a q s.condemned ne;
  given_here = was;
  given_there = λ q ne. refl;
  next = refl;
  parked = refl;
  shut = refl;
}

holds_changed : (p : Shape) (s : State) (a : ℕ) → among a s.condemned ≡ false → among a s.given ≡ true → IsChanged a Quarantined s (takes_back p a s)
holds_changed p s a condemned given = record {
  opens = λ n. has_overlaid p a (zeros (usable p)) n s.opens;
  canary = λ n. canary_overlaid p a (zeros (usable p)) n s.opens;
  live_here = has_removed_same a s.live;
  live_there = λ q ne. has_removed_other q a s.live ne;
  quarantined_here = among_here a s.quarantined;
  quarantined_there = λ q ne. among_apart a q s.quarantined ne;
  condemned_here = condemned;
  condemned_there = λ q ne. refl;
  given_here = given;
  given_there = λ q ne. refl;
  next = refl;
  parked = refl;
  shut = refl;
}

released_changed : (s : State) (b : ℕ) → is_live s b ≡ false → among b s.condemned ≡ false → among b s.given ≡ true → IsChanged b Free s (releases (Some b) s)
released_changed s b live condemned given = record {
  opens = λ n. refl;
  canary = λ n. refl;
  live_here = live;
  live_there = λ q ne. refl;
  quarantined_here = among_filter b b s.quarantined ∙ ap (λ (c : Bool). cond c false (among b s.quarantined)) (same_eq b b refl);
  quarantined_there = λ q ne. among_filter b q s.quarantined ∙ ap (λ (c : Bool). cond c false (among q s.quarantined)) (other_eq q b (λ e. ne (sym e)));
  condemned_here = condemned;
  condemned_there = λ q ne. refl;
  given_here = given;
  given_there = λ q ne. refl;
  next = refl;
  parked = refl;
  shut = refl;
}

module _ {p : Shape} {uses : Uses} {s : State} {n i : ℕ} {b : SlabUse} {v : SlotUse} (slot : HasSlot p uses n i b) (was : use_at uses n i ≡ Some v) (h : Shows p uses s) where
  lt : i < p.slots
  lt = slot.within

  pub shows_given : (asked : ℕ) → occupied v ≡ false → Shows p (with_use uses n i Live) (gives p (place p n i) asked s)
  shows_given asked free =
      let off = available_is v free in
      shows_changed slot h
      (gives_changed p s (place p n i) asked (at_place uses n i v is_quarantined _ was (h.quarantined n i lt) ∙ off.1) (at_place uses n i v is_condemned _ was (h.condemned n i lt) ∙ off.2))

  pub shows_condemned : occupied v ≡ false → Shows p (with_use uses n i (Condemned (was_given v))) (condemns (place p n i) s)
  shows_condemned free =
      let off = available_is v free in
      shows_changed slot h
      (condemns_changed s (place p n i) (was_given v) (at_place uses n i v lives _ was (h.live n i lt) ∙ off.0) (at_place uses n i v is_quarantined _ was (h.quarantined n i lt) ∙ off.1) (at_place uses n i v was_given _ was (h.given n i lt)))

  pub shows_quarantined : v ≡ Live → Shows p (with_use uses n i Quarantined) (takes_back p (place p n i) s)
  shows_quarantined live =
      shows_changed slot h
      (holds_changed p s (place p n i) (at_place uses n i v is_condemned _ was (h.condemned n i lt) ∙ ap is_condemned live) (at_place uses n i v was_given _ was (h.given n i lt) ∙ ap was_given live))

  pub shows_released : v ≡ Quarantined → Shows p (with_use uses n i Free) (releases (Some (place p n i)) s)
  shows_released quarantined =
      shows_changed slot h
      (released_changed s (place p n i) (at_place uses n i v lives _ was (h.live n i lt) ∙ ap lives quarantined) (at_place uses n i v is_condemned _ was (h.condemned n i lt) ∙ ap is_condemned quarantined)
      (at_place uses n i v was_given _ was (h.given n i lt) ∙ ap was_given quarantined))

-- ---- bytes are written
pub shows_written : (p : Shape) (uses : Uses) (s : State) (a : ℕ) (w : List ℕ) → Shows p uses s → Shows p uses (write p a w s)
shows_written p uses s a w h = record {
  opens = λ n. has_overlaid p a w n s.opens ∙ h.opens n;
  slots = h.slots;
  canary = λ n. canary_overlaid p a w n s.opens ∙ h.canary n;
  live = h.live;
  quarantined = h.quarantined;
  condemned = h.condemned;
  given = h.given;
  parked = h.parked;
  shut = h.shut;
  next = h.next;
}

-- ---- a slab is opened, or shut
abbrev opens_with : State → List (ℕ × Slab) → State
opens_with s opens = record s { opens = opens }

module _ {p : Shape} {uses : Uses} {s : State} (n : ℕ) (f : SlabUse → SlabUse) {b : SlabUse} (is : slab_in uses n ≡ Some b) (same : (f b).slots ≡ b.slots) (h : Shows p uses s) where
  kept_places : (test : SlotUse → Bool) (m j : ℕ) → passes_at test uses m j ≡ passes_at test (changed uses n f) m j
  kept_places test m j = ap (λ (o : Option SlotUse). option_map_or test o false) (sym (uses_kept uses n f is same m j))

  shows_opens : (opens : List (ℕ × Slab)) → has n opens ≡ (f b).opened → option_map_or (λ (b : Slab). b.canary) (at n opens) 0 ≡ (f b).canary → ((m : ℕ) → m ≢ n → at m opens ≡ at m s.opens)
      → Shows p (changed uses n f) (opens_with s opens)
  shows_opens opens on canary there = record {
    opens = each_slab uses n f b is (λ m o. has m opens ≡ option_map_or (λ (b : SlabUse). b.opened) o false) on (λ m ne. ap (λ (o : Option Slab). is_some o) (there m ne) ∙ h.opens m);
    slots = whole_changed uses n f is p.slots (ap (λ (l : List SlotUse). length l) same) h.slots;
    canary = each_slab uses n f b is (λ m o. option_map_or (λ (b : Slab). b.canary) (at m opens) 0 ≡ option_map_or (λ (b : SlabUse). b.canary) o 0) canary
        (λ m ne. ap (λ (o : Option Slab). option_map_or (λ (b : Slab). b.canary) o 0) (there m ne) ∙ h.canary m);
    live = λ m j lt. h.live m j lt ∙ kept_places lives m j;
    quarantined = λ m j lt. h.quarantined m j lt ∙ kept_places is_quarantined m j;
    condemned = λ m j lt. h.condemned m j lt ∙ kept_places is_condemned m j;
    given = λ m j lt. h.given m j lt ∙ kept_places was_given m j;
    parked = λ m e. some_changed uses n f is m ∙ h.parked m e;
    shut = λ m e. some_changed uses n f is m ∙ h.shut m e;
    next = h.next ∙ sym (length_changed uses n f b is);
  }

pub shows_opened : (p : Shape) (uses : Uses) (s : State) (n : ℕ) (x : Slab) (b : SlabUse) → slab_in uses n ≡ Some b → Shows p uses s → Shows p (with_open uses n x.canary) (record s { opens = put n x s.opens })
shows_opened p uses s n x b is h =
    shows_opens n (opened_slab x.canary) is refl h (put n x s.opens) (has_put_same n x s.opens)
    (ap (λ (o : Option Slab). option_map_or (λ (b : Slab). b.canary) o 0) (at_put_same n n x s.opens refl))
    (λ m ne. at_put_other n m x s.opens (λ e. ne (sym e)))

at_gone : (n : ℕ) (m : List (ℕ × Slab)) → at n (removed n m) ≡ None
at_gone n m = none (at n (removed n m)) (has_removed_same n m)
  where
    none : (o : Option Slab) → is_some o ≡ false → o ≡ None
    none None e = refl
    none (Some b) e = absurd (true≢false e)

pub shows_retired : (p : Shape) (uses : Uses) (s : State) (n : ℕ) (b : SlabUse) → slab_in uses n ≡ Some b → Shows p uses s → Shows p (with_shut uses n) (retires (Some n) s)
shows_retired p uses s n b is h =
    let h' : Shows p (with_shut uses n) (record s { opens = removed n s.opens }) =
    shows_opens n shut_slab is refl h (removed n s.opens) (has_removed_same n s.opens)
    (ap (λ (o : Option Slab). option_map_or (λ (b : Slab). b.canary) o 0) (at_gone n s.opens))
    (λ m ne. at_removed n m s.opens (λ e. ne (sym e))) in
    record {
      opens = h'.opens;
      slots = h'.slots;
      canary = h'.canary;
      live = h'.live;
      quarantined = h'.quarantined;
      condemned = h'.condemned;
      given = h'.given;
      parked = λ m e. ⊎_elim
          (λ (same : n ≡ m). subst (λ (k : ℕ). is_some (slab_in (with_shut uses n) k) ≡ true) same (some_changed uses n shut_slab is n ∙ ap (λ (o : Option SlabUse). is_some o) is))
          (λ (ne : n ≢ m). h'.parked m (sym (among_apart n m s.parked ne) ∙ e))
          (cases_eq n m);
      shut = h'.shut;
      next = h'.next;
    }

or_among : (m u : ℕ) (xs : List ℕ) → among m (xs ++ u ∷ []) ≡ true → (among m xs ≡ true) ⊎ (u ≡ m)
or_among m u [] e = ⊎_elim (λ (same : u ≡ m). inr same) (λ (ne : u ≢ m). absurd (true≢false (sym e ∙ among_apart u m [] ne))) (cases_eq u m)
or_among m u (x ∷ xs) e =
    ⊎_elim
    (λ (same : x ≡ m). inl (ap (λ (b : Bool). b || among m xs) (same_eq x m same)))
    (λ (ne : x ≢ m). ⊎_elim (λ (there : among m xs ≡ true). inl (among_apart x m xs ne ∙ there)) (λ (is : u ≡ m). inr is) (or_among m u xs (sym (among_apart x m (xs ++ u ∷ []) ne) ∙ e)))
    (cases_eq x m)

pub shows_unparked : (p : Shape) (uses : Uses) (s : State) (u : Option ℕ) → ((m : ℕ) → u ≡ Some m → among m s.parked ≡ true) → Shows p uses s → Shows p uses (unparks u s)
shows_unparked p uses s None was h = h
shows_unparked p uses s (Some u) was h = record {
  opens = h.opens;
  slots = h.slots;
  canary = h.canary;
  live = h.live;
  quarantined = h.quarantined;
  condemned = h.condemned;
  given = h.given;
  parked = λ m e. h.parked m (left (m == u) (among m s.parked) (sym (among_filter u m s.parked) ∙ e));
  shut = λ m e. ⊎_elim (h.shut m) (λ (same : u ≡ m). h.parked m (was m (ap (λ (k : ℕ). Some k) same))) (or_among m u s.shut e);
  next = h.next;
}
  where
    left : (c x : Bool) → cond c false x ≡ true → x ≡ true
    left true x e = absurd (true≢false (sym e))
    left false x e = e

-- ---- a slab comes from those that are shut, or is a fresh one
shows_fresh : (p : Shape) (uses : Uses) (s : State) → Shows p uses s → Shows p (with_slab p.guard_interval uses (fresh_slab p.slots)) (record s { next = after p s.next })
shows_fresh p uses s h =
    let x : SlabUse = fresh_slab p.slots in
    let n : ℕ = length uses in
    let past : slab_in uses n ≡ None = slab_past uses n (omega arith) in
    let each : (Says : ℕ → Option SlabUse → Type 0) → Says n (Some x) → ((m : ℕ) → m ≢ n → Says m (slab_in uses m)) → (m : ℕ) → Says m (slab_in (with_slab p.guard_interval uses x) m) =
    λ Says here beside m. ⊎_elim
    (λ (e : m ≡ n). subst (λ (k : ℕ). Says k (slab_in (with_slab p.guard_interval uses x) k)) (sym e) (subst (λ (o : Option SlabUse). Says n o) (sym (slab_new p.guard_interval uses x)) here))
    (λ (ne : m ≢ n). subst (λ (o : Option SlabUse). Says m o) (sym (slab_old p.guard_interval uses x m ne)) (beside m ne))
    (cases_eq m n) in
    let same_at : (f : SlotUse → Bool) → f Never ≡ false → (m j : ℕ) → j < p.slots → passes_at f uses m j ≡ passes_at f (with_slab p.guard_interval uses x) m j =
    λ f never m j lt. each (λ k o. passes_at f uses k j ≡ option_map_or f (option_and_then (λ (b : SlabUse). slice_get b.slots j) o) false)
    (ap (λ (o : Option SlabUse). option_map_or f (option_and_then (λ (b : SlabUse). slice_get b.slots j) o) false) past ∙ sym never
    ∙ ap (λ (o : Option SlotUse). option_map_or f o false) (sym (new_slot p.slots j lt)))
    (λ k ne. refl) m in
    let there : (m : ℕ) → is_some (slab_in uses m) ≡ true → is_some (slab_in (with_slab p.guard_interval uses x) m) ≡ true =
    λ m. each (λ k o. is_some (slab_in uses k) ≡ true → is_some o ≡ true) (λ e. refl) (λ k ne e. e) m in
    record {
      opens = each (λ m o. is_open s m ≡ option_map_or (λ (b : SlabUse). b.opened) o false) (h.opens n ∙ ap (λ (o : Option SlabUse). option_map_or (λ (b : SlabUse). b.opened) o false) past) (λ m ne. h.opens m);
      slots = each (λ m o. (y : SlabUse) → o ≡ Some y → length y.slots ≡ p.slots) (λ y e. ap (λ (z : SlabUse). length z.slots) (sym (same_Some x y e)) ∙ length-replicate p.slots Never) (λ m ne. h.slots m);
      canary = each (λ m o. option_map_or (λ (b : Slab). b.canary) (at m s.opens) 0 ≡ option_map_or (λ (b : SlabUse). b.canary) o 0) (h.canary n ∙ ap (λ (o : Option SlabUse). option_map_or (λ (b : SlabUse). b.canary) o 0) past) (λ m ne. h.canary m);
      live = λ m j lt. h.live m j lt ∙ same_at lives refl m j lt;
      quarantined = λ m j lt. h.quarantined m j lt ∙ same_at is_quarantined refl m j lt;
      condemned = λ m j lt. h.condemned m j lt ∙ same_at is_condemned refl m j lt;
      given = λ m j lt. h.given m j lt ∙ same_at was_given refl m j lt;
      parked = λ m e. there m (h.parked m e);
      shut = λ m e. there m (h.shut m e);
      next = ap (λ (m : ℕ). after p m) h.next ∙ sym (length_with_slab p.guard_interval uses x);
    }

shows_taken : (p : Shape) (uses : Uses) (s : State) (shut : List ℕ) → s.shut ≡ shut → Shows p uses s → Shows p (taken_uses (numbers_of p) shut uses) (taken_new p shut s)
shows_taken p uses s [] e h = shows_fresh p uses s h
shows_taken p uses s (m ∷ ms) e h = record {
  opens = h.opens;
  slots = h.slots;
  canary = h.canary;
  live = h.live;
  quarantined = h.quarantined;
  condemned = h.condemned;
  given = h.given;
  parked = h.parked;
  shut = λ k is. h.shut k (ap (λ (l : List ℕ). among k l) e ∙ ap (λ (b : Bool). (m == k) || b) is ∙ or_true (m == k));
  next = h.next;
}
  where
    or_true : (b : Bool) → (b || true) ≡ true
    or_true true = refl
    or_true false = refl

new_opens : (p : Shape) (shut : List ℕ) (s : State) → (taken_new p shut s).opens ≡ s.opens
new_opens p [] s = refl
new_opens p (m ∷ ms) s = refl

pub shows_new : (p : Shape) (uses : Uses) (s : State) (n canary : ℕ) (b : SlabUse) → slab_in (taken_uses (numbers_of p) s.shut uses) n ≡ Some b → Shows p uses s
    → Shows p (with_open (taken_uses (numbers_of p) s.shut uses) n canary) (record (taken_new p s.shut s) { opens = put n (new_slab p canary) s.opens })
shows_new p uses s n canary b is h =
    subst (λ (l : List (ℕ × Slab)). Shows p (with_open (taken_uses (numbers_of p) s.shut uses) n canary) (record (taken_new p s.shut s) { opens = put n (new_slab p canary) l })) (new_opens p s.shut s)
    (shows_opened p (taken_uses (numbers_of p) s.shut uses) (taken_new p s.shut s) n (new_slab p canary) b is (shows_taken p uses s s.shut refl h))
