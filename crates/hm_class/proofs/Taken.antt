-- A slot was picked: the entry of an allotment is allowed, its choices are drawn, and what is kept follows.
use Rattle.std.proofs.Common.{◌≡◌, ℕ, ◌+◌, ◌-◌, ◌<◌, ◌≤◌, Bool, true, false, IsTrue, cond, List, [], ◌∷◌, ◌++◌, length, Option, Some, None, sym, ◌∙◌, ap, subst, refl, arith}
use Rattle.std.specs.Option.{option_map_or}
use Rattle.std.proofs.lemmas.Option.{none-some}
use Rattle.std.specs.Int.{to_le_bytes}
use mir.Syntax.{w64}
use Rattle.hm_outside.specs.declared.pages.Pages as pages
use Rattle.hm_outside.specs.PageRuns.{PageRuns, IsHeld, Reads, Writes}
use Rattle.hm_model.specs.declared.entry.Entry.{Entry}
use Rattle.hm_model.specs.declared.entry.Who.{Who}
use Rattle.hm_model.specs.declared.entry.Call.TheVariants.{Allot}
use Rattle.hm_model.specs.declared.entry.Reply.{Reply}
use Rattle.hm_model.specs.declared.entry.Reply.TheVariants as reply
use Rattle.hm_model.specs.declared.entry.Choices.{Choices}
use Rattle.hm_model.specs.declared.entry.Draws.{Draws}
use Rattle.hm_model.specs.Entries.{AreDraws}
use Rattle.hm_sizes.specs.declared.config.Config.{Config}
use Rattle.hm_sizes.specs.declared.shape.Shape.{Shape}
use Rattle.hm_sizes.specs.Shapes.{IsShape, place, has_bytes, usable, class_size_of}
use Rattle.hm_sizes.specs.Sizes.{raised}
use Rattle.hm_class_rules.specs.State.{State, is_open}
use Rattle.hm_class_rules.specs.Kinds.{Kind, Partial, Empty, kind}
use Rattle.hm_class_rules.specs.Steps.{opened, gives, condemns}
use Rattle.hm_class_rules.specs.Bytes.{first_nonzero, usable_bytes, bytes_from, overlaid_slabs}
use Rattle.hm_class_rules.specs.Draws.{Picked, event_of, after_words}
use Rattle.hm_class_rules.specs.Rules.{Terms, Picks, state, reuse_finds}
use Rattle.hm_class_rules.specs.Stepped.{IsSteppedEntry, listed}
use Rattle.hm_class_rules.specs.Laws.{bytes_of_slab}
use Rattle.hm_class_rules.proofs.Whole.{whole_write}
use Rattle.hm_slab_meta.specs.Uses.{SlotUse}
use Rattle.hm_slab_meta.specs.Uses.{Live, Condemned, was_given}
use Rattle.hm_class.specs.Uses.{numbers_of, Uses, SlabUse, slab_in, lives, occupied, kind_at, use_at, passes_at, canary_at, with_use, live_count}
use Rattle.hm_model.specs.Calls.{entry_of}
use Rattle.hm_class.specs.Gives.{Gives, Stains, Seals}
use Rattle.hm_class.specs.Finds.{slot_in}
use Rattle.hm_class.specs.Region.{HoldsSlabs}
use Rattle.hm_class.specs.declared.identity.Identity.{Identity}
use Rattle.hm_class.specs.declared.store.Store.{Store}
use Rattle.hm_class.specs.Kept.{Shows, AreFull, IsKept, terms_in, cells_of}
use Rattle.hm_class.proofs.Counts.{weight}
use Rattle.hm_class.proofs.Entered.{length_removed}
use Rattle.hm_class.proofs.Followed.{HasSlot, slot_shown, shows_count, shows_given, shows_condemned, available_is}
use Rattle.hm_class.proofs.Listed.{next_picked}
use Rattle.hm_class.proofs.Paged.{holds_write, holds_without}
use Rattle.hm_class.proofs.Permitted.{allowed_of, first_found, kept_is, canary_held}
use Rattle.hm_class.proofs.Places.{slab_of_place}
use Rattle.hm_class.proofs.Used.{found, counted}
use Rattle.hm_class.proofs.Entries.{pushed}

-- where there are no usable bytes none is found
no_usable : (p : Shape) (s : State) (a : ℕ) → has_bytes p ≡ false → first_nonzero (usable_bytes p s a) ≡ None
no_usable p s a off =
    let none : usable p ≡ 0 = ap (λ (b : Bool). cond b (p.slot - 8) 0) off in
    ap (λ (n : ℕ). first_nonzero (bytes_from p s a n)) none

-- ---- what is found, and what is written
-- slot i of open slab n, the slots and the state that shows them, and the pages that hold the slabs where they tell
pub record IsToGive {P : Type 0} (meaning : pages.Ghosts P) (p : Shape) (all : Uses) (s : State) (n i : ℕ) (told : Bool) (mid : P) : Type 0 where
  pub tell : IsTrue told → IsTrue (meaning.told mid)
  pub shape : IsShape p
  pub on : is_open s n ≡ true
  pub within : i < p.slots
  pub shows : Shows p all s
  pub slabs : IsTrue told → HoldsSlabs p s.opens (meaning.runs mid)

module _ {P : Type 0} {meaning : pages.Ghosts P} {p : Shape} {all : Uses} {s : State} {n i : ℕ} {told : Bool} {mid : P} (slot : IsToGive meaning p all s n i told mid) where
  pub found_told : (c : Config) (a : ℕ) (found : Option (ℕ × ℕ)) → a ≡ place p n i → Stains meaning c p mid a found → IsTrue told → reuse_finds c p s a ≡ found
  found_told c a found is stains t = checked c.check_reuse refl
    where
      of : (own : Bool) → c.check_reuse ≡ true → has_bytes p ≡ own → first_nonzero (usable_bytes p s a) ≡ found
      of true checks own = ap (λ (x : ℕ). first_nonzero (usable_bytes p s x)) is ∙ first_found s n i found slot.shape own slot.on slot.within (slot.slabs t)
          (subst (λ (x : ℕ). IsHeld (meaning.runs mid) x (usable p) → (slice : List ℕ) × Reads (meaning.runs mid) x (usable p) slice × (found ≡ first_nonzero slice)) is (stains.some checks own (slot.tell t)))
      of false checks off = no_usable p s a off ∙ sym (stains.none off)

      checked : (checks : Bool) → c.check_reuse ≡ checks → cond checks (first_nonzero (usable_bytes p s a)) None ≡ found
      checked true checks = of (has_bytes p) checks refl
      checked false unchecked = sym (stains.unchecked unchecked)

  -- where something is found, reuse is checked
  pub is_checked : (c : Config) (a : ℕ) (found : ℕ × ℕ) → Stains meaning c p mid a (Some found) → c.check_reuse ≡ true
  is_checked c a found stains = of c.check_reuse refl
    where
      of : (checks : Bool) → c.check_reuse ≡ checks → c.check_reuse ≡ true
      of true checks = checks
      of false unchecked = absurd (none-some found (sym (stains.unchecked unchecked)))

  -- the pages with the slot's canary
  pub given_slabs : (now : P) (a asked : ℕ) → a ≡ place p n i → Seals meaning p mid now a (canary_at all n) → IsTrue told → HoldsSlabs p (gives p (place p n i) asked s).opens (meaning.runs now)
  given_slabs now a asked is seals t = of (has_bytes p) refl
    where
      q : ℕ
      q = place p n i

      w : List ℕ
      w = to_le_bytes w64 (canary_at all n)

      same : HoldsSlabs p (overlaid_slabs p (q + usable p) w s.opens) (meaning.runs now) → HoldsSlabs p (gives p q asked s).opens (meaning.runs now)
      same h = subst (λ (k : ℕ). HoldsSlabs p (overlaid_slabs p (q + usable p) (to_le_bytes w64 k) s.opens) (meaning.runs now)) (sym (kept_is p all s n i slot.shape slot.within slot.shows)) h

      of : (own : Bool) → has_bytes p ≡ own → HoldsSlabs p (gives p q asked s).opens (meaning.runs now)
      of true own = same (holds_write (q + usable p) 8 w (meaning.runs now) slot.shape refl (slot.slabs t)
          (subst (λ (x : ℕ). Writes (meaning.runs mid) (x + usable p) 8 w (meaning.runs now)) is (seals.some own (slot.tell t) (subst (λ (x : ℕ). IsHeld (meaning.runs mid) (x + usable p) 8) (sym is) (canary_held p s n i (meaning.runs mid) slot.shape own slot.on slot.within (slot.slabs t))))))
      of false off = same (subst (λ (r : PageRuns). HoldsSlabs p (overlaid_slabs p (q + usable p) w s.opens) r) (sym (seals.none off (slot.tell t)))
          (holds_without p s.opens (overlaid_slabs p (q + usable p) w s.opens) (meaning.runs mid) off (whole_write (bytes_of_slab p) p (q + usable p) w s.opens (slot.slabs t).whole) (slot.slabs t)))

-- ---- how many are live
more_live : (all all' : Uses) (n i : ℕ) (u v : SlotUse) → use_at all n i ≡ Some v → all' ≡ with_use all n i u → live_count all' + weight lives v ≡ live_count all + weight lives u
more_live all all' n i u v was items = omega (arith, ap live_count items, counted lives all n i u v was)

-- ---- a slot of slab n is given, or condemned
-- slot i of slab n was picked, and its slab went to the list of its kind
pub record IsPicked {P : Type 0} (meaning : pages.Ghosts P) (told : Bool) (faults : ℕ) (region : Identity) (es : List Entry) (store : Store) (mid now : P) (store₁ store' : Store) (n i : ℕ) (kind₀ : Kind) (b : SlabUse) (choices : Choices) (draws : Draws) (who : Who) (asked f f' : ℕ) (v : SlotUse) : Type 0 where
  pub tell : IsTrue told → IsTrue (meaning.told mid)
  pub asks : raised asked ≤ class_size_of region.shape
  pub is : f ≡ faults
  pub later : f ≤ f'
  pub lt : i < region.shape.slots
  pub is_slab : slab_in store₁.slabs.slabs n ≡ Some b
  pub was : use_at store₁.slabs.slabs n i ≡ Some v
  pub free : occupied v ≡ false
  pub on : is_open (opened region.shape choices.opened choices.canary (state (terms_in told region) es)) n ≡ true
  pub shows : Shows region.shape store₁.slabs.slabs (opened region.shape choices.opened choices.canary (state (terms_in told region) es))
  pub slabs : IsTrue told → HoldsSlabs region.shape (opened region.shape choices.opened choices.canary (state (terms_in told region) es)).opens (meaning.runs mid)
  pub live_all : length (opened region.shape choices.opened choices.canary (state (terms_in told region) es)).live ≤ live_count store₁.slabs.slabs
  pub shut : store'.slabs.lists.retired ≡ (opened region.shape choices.opened choices.canary (state (terms_in told region) es)).shut
  pub partial : store'.slabs.lists.partial ≡ listed Partial n kind₀ (kind_at store'.slabs.slabs n) store.slabs.lists.partial
  pub empty : store'.slabs.lists.empty ≡ listed Empty n kind₀ (kind_at store'.slabs.slabs n) store.slabs.lists.empty
  pub full : AreFull store'.slabs.slabs store'.slabs.lists.full
  pub numbers : store'.slabs.numbers ≡ numbers_of region.shape
  pub was_kind : kind region.shape (state (terms_in told region) es) n ≡ kind₀
  pub are : AreDraws draws
  pub taken : after_words store.stream draws.used ≡ store'.stream
  pub quarantine : store'.quarantine ≡ store.quarantine
  pub parking : store'.slabs.parking ≡ store.slabs.parking
  pub picks : Picks region.shape (state (terms_in told region) es) (opened region.shape choices.opened choices.canary (state (terms_in told region) es)) choices (place region.shape n i)
  pub stepped : (r : Reply) → event_of (Allot asked 1) r ≡ Picked (place region.shape n i) → IsSteppedEntry (terms_in told region) (cells_of (state (terms_in told region) es) store) (entry_of who (Allot asked 1) r choices draws f f')

module _ {told : Bool} {owner : Option ℕ} {runs : PageRuns} {faults : ℕ} {region : Identity} {es : List Entry} {store : Store}
    (kept : IsKept told owner runs faults region es store)
    {P : Type 0} {meaning : pages.Ghosts P} {mid now : P} {store₁ store' : Store} {n i : ℕ} {kind₀ : Kind} {b : SlabUse} {choices : Choices} {draws : Draws} {who : Who} {asked f f' : ℕ} {v : SlotUse}
    (ready : IsPicked meaning told faults region es store mid now store₁ store' n i kind₀ b choices draws who asked f f' v) where
  abbrev then : State
  then = opened region.shape choices.opened choices.canary (state (terms_in told region) es)

  to_give : IsToGive meaning region.shape store₁.slabs.slabs then n i told mid
  to_give = record { tell = ready.tell; shape = region.served.shape; on = ready.on; within = ready.lt; shows = ready.shows; slabs = ready.slabs }

  has_slot : HasSlot region.shape store₁.slabs.slabs n i b
  has_slot = slot_shown region.served.shape ready.shows ready.is_slab ready.lt

  pub kept_gives : (o : Reply) → Gives meaning region store₁.slabs store'.slabs mid now (slot_in n i) o
      → IsKept told owner (meaning.runs now) f' region (es ++ entry_of who (Allot asked 1) o choices draws f f' ∷ []) store'
  kept_gives (reply.Given a size) g =
      let t : Terms = terms_in told region in
      let q : ℕ = place region.shape n i in
      let e : Entry = entry_of who (Allot asked 1) (reply.Given q size) choices draws f f' in
      let off = available_is v ready.free in
      let dead : weight lives v ≡ 0 = ap (λ (b : Bool). cond {A = ℕ} b 1 0) off.0 in
      let shows' : Shows region.shape store'.slabs.slabs (record (gives region.shape q asked then) { faults = f' }) = shows_count region.shape store'.slabs.slabs (gives region.shape q asked then) f'
      (subst (λ (u : Uses). Shows region.shape u (gives region.shape q asked then)) (sym g.slabs) (shows_given has_slot ready.was ready.shows asked ready.free)) in
      subst (λ (x : ℕ). IsKept told owner (meaning.runs now) f' region (es ++ entry_of who (Allot asked 1) (reply.Given x size) choices draws f f' ∷ []) store') (sym g.addr_is)
      (pushed kept store' e
      (allowed_of (Allot asked 1) (reply.Given q size) choices draws ready.are (ready.asks, refl) (ready.is ∙ kept.count) ready.later
      (ready.picks, g.size_is, λ y. ap (λ (x : ℕ). reuse_finds region.config region.shape then x) (sym g.addr_is) ∙ found_told to_give region.config a None g.addr_is g.clean y))
      (ready.stepped (reply.Given q size) refl) refl
      (record {
        shows = shows';
        shut = ready.shut;
        full = ready.full;
        numbers = ready.numbers;
        live_all = omega (arith, ready.live_all, more_live store₁.slabs.slabs store'.slabs.slabs n i Live v ready.was g.slabs, dead, length_removed q then.live);
      })
      (given_slabs to_give now a asked g.addr_is g.written)
      (next_picked t (state t es) e store store' region.served.shape refl (slab_of_place region.shape n i region.served.shape ready.lt) shows' (record {
        was = ready.was_kind;
        taken = ready.taken;
        partial = ready.partial;
        empty = ready.empty;
        quarantine = ready.quarantine;
        parking = ready.parking;
      })))
  kept_gives (reply.Overwritten a at found) g =
      let t : Terms = terms_in told region in
      let q : ℕ = place region.shape n i in
      let e : Entry = entry_of who (Allot asked 1) (reply.Overwritten q at found) choices draws f f' in
      let off = available_is v ready.free in
      let dead : weight lives v ≡ 0 = ap (λ (b : Bool). cond {A = ℕ} b 1 0) off.0 in
      let given : passes_at was_given store₁.slabs.slabs n i ≡ was_given v = ap (λ (o : Option SlotUse). option_map_or was_given o false) ready.was in
      let items : store'.slabs.slabs ≡ with_use store₁.slabs.slabs n i (Condemned (was_given v)) = g.slabs ∙ ap (λ (b : Bool). with_use store₁.slabs.slabs n i (Condemned b)) given in
      let shows' : Shows region.shape store'.slabs.slabs (record (condemns q then) { faults = f' }) = shows_count region.shape store'.slabs.slabs (condemns q then) f'
      (subst (λ (u : Uses). Shows region.shape u (condemns q then)) (sym items) (shows_condemned has_slot ready.was ready.shows ready.free)) in
      subst (λ (x : ℕ). IsKept told owner (meaning.runs now) f' region (es ++ entry_of who (Allot asked 1) (reply.Overwritten x at found) choices draws f f' ∷ []) store') (sym g.addr_is)
      (pushed kept store' e
      (allowed_of (Allot asked 1) (reply.Overwritten q at found) choices draws ready.are (ready.asks, refl) (ready.is ∙ kept.count) ready.later (
        ready.picks,
        is_checked to_give region.config a (at, found) g.stained,
        λ y. ap (λ (x : ℕ). reuse_finds region.config region.shape then x) (sym g.addr_is) ∙ found_told to_give region.config a (Some (at, found)) g.addr_is g.stained y,
      ))
      (ready.stepped (reply.Overwritten q at found) refl) refl
      (record {
        shows = shows';
        shut = ready.shut;
        full = ready.full;
        numbers = ready.numbers;
        live_all = omega (arith, ready.live_all, more_live store₁.slabs.slabs store'.slabs.slabs n i (Condemned (was_given v)) v ready.was items, dead);
      })
      (λ y. subst (λ (r : PageRuns). HoldsSlabs region.shape then.opens r) (sym (g.same (ready.tell y))) (ready.slabs y))
      (next_picked t (state t es) e store store' region.served.shape refl (slab_of_place region.shape n i region.served.shape ready.lt) shows' (record {
        was = ready.was_kind;
        taken = ready.taken;
        partial = ready.partial;
        empty = ready.empty;
        quarantine = ready.quarantine;
        parking = ready.parking;
      })))
  kept_gives other g = absurd g
