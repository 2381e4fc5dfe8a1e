-- A block was taken back: what is kept follows.
use Rattle.std.proofs.Common.{◌≡◌, ℕ, zero, suc, ◌<◌, ◌≤◌, Bool, true, false, IsTrue, IfSome, cond, not, ◌||◌, ◌&&◌, List, [], ◌∷◌, length, slice_get, slice_set, Option, Some, None, sym, ◌∙◌, ap, subst, refl, arith, true≢false}
use Rattle.std.specs.List.{list_any}
use Rattle.std.specs.Option.{option_map_or}
use Rattle.std.proofs.lemmas.List.{length-replicate}
use Rattle.std.proofs.lemmas.Option.{none-some, same_Some}
use Rattle.hm_choice.specs.Stream.{next_word}
use Rattle.hm_quarantine.specs.Quarantine.{let_go}
use Rattle.hm_outside.specs.declared.pages.Pages as pages
use Rattle.hm_base.specs.Lists.{zeros}
use Rattle.hm_outside.specs.PageRuns.{PageRuns, IsHeld}
use Rattle.hm_model.specs.Maps.{among}
use Rattle.hm_model.proofs.Lists.{times_among}
use Rattle.hm_model.specs.declared.entry.Entry.{Entry}
use Rattle.hm_sizes.specs.Shapes.{place, slab_of, slot_of, has_bytes, usable}
use Rattle.hm_class_rules.specs.State.{State, is_open, is_live}
use Rattle.hm_class_rules.specs.Kinds.{Kind, Partial, Empty, Neither, kind}
use Rattle.hm_class_rules.specs.Steps.{takes_back}
use Rattle.hm_class_rules.specs.Laws.{IsSound, bytes_of_slab}
use Rattle.hm_class_rules.specs.Rules.{Releases, state}
use Rattle.hm_class_rules.proofs.Sound.{sound_takes_back}
use Rattle.hm_class_rules.proofs.Whole.{whole_write}
use Rattle.hm_slab_meta.specs.Uses.{SlotUse, Never, Free, Live, Quarantined, Condemned, is_available}
use Rattle.hm_class.specs.declared.slabs.Slot.{Slot}
use Rattle.hm_class.specs.Sources.{IsLiveAt}
use Rattle.hm_class.specs.Uses.{Uses, SlabUse, lives, occupied, has_occupied, has_available, is_quarantined, kind_of, kind_at, use_at, passes_at, with_slot, with_use}
use Rattle.hm_class.specs.Frees.{index_of_word, CanRelease, Quarantines}
use Rattle.hm_class.specs.Region.{HoldsSlabs}
use Rattle.hm_class.specs.declared.identity.Identity.{Identity}
use Rattle.hm_class.specs.declared.store.Store.{Store}
use Rattle.hm_class.specs.Kept.{Shows, IsKept, terms_in}
use Rattle.hm_class.proofs.Followed.{slot_shown, shows_quarantined}
use Rattle.hm_class.proofs.Freed.{index_fits}
use Rattle.hm_class.proofs.Paged.{holds_write, holds_without, slab_page_run}
use Rattle.hm_class.proofs.Permitted.{usable_held, live_open}
use Rattle.hm_class.proofs.Places.{slab_of_place, slot_of_place}
use Rattle.hm_class.proofs.Shown.{kind_is, available_test}
use Rattle.hm_class.proofs.Used.{found, each_slab}
use Rattle.hm_class.proofs.Entries.{sound_now, allows_now, kept_now}

-- ---- a slot that is quarantined is occupied, as it was
module _ (test : SlotUse → Bool) where
  any_set : (us : List SlotUse) (i : ℕ) (u v : SlotUse) → slice_get us i ≡ Some v → test u ≡ test v → list_any test (slice_set us i u) ≡ list_any test us
  any_set [] i u v is same = refl
  any_set (x ∷ us) zero u v is same = ap (λ (b : Bool). b || list_any test us) (same ∙ ap test (sym (same_Some x v is)))
  any_set (x ∷ us) (suc i) u v is same = ap (λ (b : Bool). test x || b) (any_set us i u v is same)

abbrev kind_parts : Bool → Bool → Bool → Kind
kind_parts opened some none = cond (not opened) Neither (cond (some && none) Partial (cond (not some && none) Empty Neither))

kind_set : (b : SlabUse) (i : ℕ) (u v : SlotUse) → slice_get b.slots i ≡ Some v → occupied u ≡ occupied v → kind_of (with_slot i u b) ≡ kind_of b
kind_set b i u v is same =
    let o : has_occupied (slice_set b.slots i u) ≡ has_occupied b.slots = any_set occupied b.slots i u v is same in
    let a : has_available (slice_set b.slots i u) ≡ has_available b.slots = any_set is_available b.slots i u v is (sym (available_test u) ∙ ap (λ (x : Bool). not x) same ∙ available_test v) in
    ap (λ (x : Bool). kind_parts b.opened x (has_available (slice_set b.slots i u))) o ∙ ap (λ (x : Bool). kind_parts b.opened (has_occupied b.slots) x) a

pub kind_quarantined : (all : Uses) (n i : ℕ) (u v : SlotUse) → use_at all n i ≡ Some v → occupied u ≡ occupied v → (m : ℕ) → kind_at (with_use all n i u) m ≡ kind_at all m
kind_quarantined all n i u v was same =
    let f = found all n i v was in
    each_slab all n (with_slot i u) f.slab f.is_slab (λ m o. option_map_or kind_of o Neither ≡ kind_at all m)
    (kind_set f.slab i u v f.is_use same ∙ ap (λ (o : Option SlabUse). option_map_or kind_of o Neither) (sym f.is_slab)) (λ m ne. refl)

-- ---- the slot is quarantined
module _ {told : Bool} {owner : Option ℕ} {runs : PageRuns} {faults : ℕ} {region : Identity} {es : List Entry} {store : Store}
    (kept : IsKept told owner runs faults region es store)
    {P : Type 0} {meaning : pages.Ghosts P} {begun half : P} {store₁ : Store} {a : ℕ} {live : Slot} {result : Option ℕ × Option ℕ} (told_is : meaning.told begun ≡ told) (runs_is : meaning.runs begun ≡ runs)
    (at_live : IsLiveAt region.shape store.slabs.slabs a live) (quarantines : Quarantines meaning store store₁ begun half region.shape a live result) where
  abbrev first : State
  first = state (terms_in told region) es

  abbrev taken : State
  taken = takes_back region.shape a first

  pub was_live : is_live first a ≡ true
  was_live = ap (λ (q : ℕ). is_live first q) at_live.0.is ∙ kept.follows.shows.live live.slab live.index at_live.0.slot ∙ ap (λ (o : Option SlotUse). option_map_or lives o false) at_live.1

  pub quarantined_shows : Shows region.shape store₁.slabs.slabs taken
  quarantined_shows =
      let f = found store.slabs.slabs live.slab live.index Live at_live.1 in
      subst (λ (q : ℕ). Shows region.shape store₁.slabs.slabs (takes_back region.shape q first)) (sym at_live.0.is)
      (subst (λ (u : Uses). Shows region.shape u (takes_back region.shape (place region.shape live.slab live.index) first)) (sym quarantines.slabs) (shows_quarantined (slot_shown region.served.shape kept.follows.shows f.is_slab at_live.0.slot) at_live.1 kept.follows.shows refl))

  was_open : is_open first live.slab ≡ true
  was_open = live_open region.shape first live.slab live.index region.served.shape (sound_now kept) at_live.0.slot (ap (λ (q : ℕ). is_live first q) (sym at_live.0.is) ∙ was_live)

  pub quarantined_slabs : IsTrue told → HoldsSlabs region.shape taken.opens (meaning.runs half)
  quarantined_slabs y = of (has_bytes region.shape) refl
    where
      w : List ℕ
      w = zeros (usable region.shape)

      before : HoldsSlabs region.shape first.opens (meaning.runs begun)
      before = subst (λ (r : PageRuns). HoldsSlabs region.shape first.opens r) (sym runs_is) (kept.slabs y)

      of : (own : Bool) → has_bytes region.shape ≡ own → HoldsSlabs region.shape taken.opens (meaning.runs half)
      of true own = holds_write a (usable region.shape) w (meaning.runs half) region.served.shape (length-replicate (usable region.shape) 0) before
          (quarantines.cleared.some own (told_is ∙ y) (subst (λ (q : ℕ). IsHeld (meaning.runs begun) q (usable region.shape)) (sym at_live.0.is) (usable_held region.shape first live.slab live.index (meaning.runs begun) region.served.shape own was_open at_live.0.slot before)))
      of false off = subst (λ (r : PageRuns). HoldsSlabs region.shape taken.opens r) (sym (quarantines.cleared.none off (told_is ∙ y)))
          (holds_without region.shape first.opens taken.opens (meaning.runs begun) off (whole_write (bytes_of_slab region.shape) region.shape a w first.opens before.whole) before)

  pub quarantined_sound : IsSound region.shape taken
  quarantined_sound = sound_takes_back region.shape first a (sound_now kept) was_live

  pub kind_then : (m : ℕ) → kind region.shape first m ≡ kind_at store₁.slabs.slabs m
  kind_then m = kind_is region.shape store.slabs.slabs first m region.served.shape kept.follows.shows ∙ sym (ap (λ (u : Uses). kind_at u m) quarantines.slabs ∙ kind_quarantined store.slabs.slabs live.slab live.index Quarantined Live at_live.1 refl m)

  -- what leaves the quarantine
  pub release_now : Releases region.shape taken (let_go store.quarantine a (index_of_word region.shape (next_word store.stream)))
  release_now = (allows_now kept).release a (index_of_word region.shape (next_word store.stream)) was_live (index_fits region.shape store.stream)

  -- the slot of what is released
  pub record IsReleased (b : ℕ) : Type 0 where
    pub from : region.shape.first ≤ b
    pub slot : slot_of region.shape b < region.shape.slots
    pub is_place : b ≡ place region.shape (slab_of region.shape b) (slot_of region.shape b)
    pub open_slab : is_open taken (slab_of region.shape b) ≡ true
    pub below : slab_of region.shape b < region.shape.limit
    pub used : use_at store₁.slabs.slabs (slab_of region.shape b) (slot_of region.shape b) ≡ Some Quarantined

  quarantined_use : (all : Uses) (m j : ℕ) → passes_at is_quarantined all m j ≡ true → use_at all m j ≡ Some Quarantined
  quarantined_use all m j e = of (use_at all m j) e
    where
      of : (o : Option SlotUse) → option_map_or is_quarantined o false ≡ true → o ≡ Some Quarantined
      of None e = absurd (true≢false (sym e))
      of (Some Never) e = absurd (true≢false (sym e))
      of (Some Free) e = absurd (true≢false (sym e))
      of (Some Live) e = absurd (true≢false (sym e))
      of (Some Quarantined) e = refl
      of (Some (Condemned g)) e = absurd (true≢false (sym e))

  pub is_released : (b : ℕ) → among b taken.quarantined ≡ true → IsReleased b
  is_released b at_b =
      let r = quarantined_sound.placed b (omega (arith, times_among b taken.quarantined at_b)) in
      let slab : slab_of region.shape b ≡ r.slab = ap (λ (q : ℕ). slab_of region.shape q) r.is_place.is ∙ slab_of_place region.shape r.slab r.slot region.served.shape r.is_place.slot in
      let slot : slot_of region.shape b ≡ r.slot = ap (λ (q : ℕ). slot_of region.shape q) r.is_place.is ∙ slot_of_place region.shape r.slab r.slot region.served.shape r.is_place.slot in
      record {
        from = omega (arith, r.is_place.is);
        slot = omega (arith, slot, r.is_place.slot);
        is_place = r.is_place.is ∙ ap (λ (m : ℕ). place region.shape m r.slot) (sym slab) ∙ ap (λ (j : ℕ). place region.shape (slab_of region.shape b) j) (sym slot);
        open_slab = ap (λ (m : ℕ). is_open taken m) slab ∙ r.open_slab;
        below = omega (arith, slab, r.is_place.below);
        used = ap (λ (m : ℕ). use_at store₁.slabs.slabs m (slot_of region.shape b)) slab ∙ ap (λ (j : ℕ). use_at store₁.slabs.slabs r.slab j) slot
            ∙ quarantined_use store₁.slabs.slabs r.slab r.slot (sym (quarantined_shows.quarantined r.slab r.slot r.is_place.slot) ∙ ap (λ (q : ℕ). among q taken.quarantined) (sym r.is_place.is) ∙ at_b);
      }

  pub can_release : (b : ℕ) → among b taken.quarantined ≡ true → CanRelease meaning region store₁.slabs half b
  can_release b at_b =
      let r = is_released b at_b in
      record {
        from = r.from;
        quarantined = r.used;
        slab = record {
          below = r.below;
          on = sym (quarantined_shows.opens (slab_of region.shape b)) ∙ r.open_slab;
          page_run = λ own y. slab_page_run region.shape taken.opens (slab_of region.shape b) (meaning.runs half) own r.open_slab (quarantined_slabs (sym told_is ∙ sym quarantines.cleared.pages.told ∙ y));
          parking = ap (λ (l : List (Option ℕ)). length l) quarantines.lists.parking ∙ (kept_now kept).parking_length;
        };
      }

  at_released : (o : Option ℕ) (b : ℕ) → Releases region.shape taken o → o ≡ Some b → among b taken.quarantined ≡ true
  at_released None b r e = absurd (none-some b e)
  at_released (Some x) b r e = ap (λ (q : ℕ). among q taken.quarantined) (sym (same_Some x b e)) ∙ r.0

  pub release_ready : IfSome result.0 (CanRelease meaning region store₁.slabs half)
  release_ready = of result.0 quarantines.released
    where
      of : (o : Option ℕ) → o ≡ let_go store.quarantine a (index_of_word region.shape (next_word store.stream)) → IfSome o (CanRelease meaning region store₁.slabs half)
      of None e = tt
      of (Some b) e = can_release b (at_released (let_go store.quarantine a (index_of_word region.shape (next_word store.stream))) b release_now (sym e))
