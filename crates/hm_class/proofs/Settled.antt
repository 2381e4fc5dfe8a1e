-- What left the quarantine is released: what is kept follows.
use Rattle.std.proofs.Common.{◌≡◌, ◌≢◌, inl, inr, ℕ, ◌+◌, ◌*◌, ◌^◌, ◌<◌, ◌≤◌, ◌==◌, Bool, true, false, IsTrue, cond, not, ◌&&◌, nat_lt, List, [], ◌∷◌, ◌++◌, length, slice_set, slice_index_or, Option, Some, None, sym, ◌∙◌, ap, subst, refl, arith}
use Rattle.std.specs.FinMap as map
use Rattle.std.proofs.lemmas.Option.{none-some, same_Some, slice_get_within}
use Rattle.hm_choice.specs.Stream.{Words, next_word, after_word, drawn}
use Rattle.hm_quarantine.specs.Quarantine.{let_go, kept_with}
use Rattle.hm_outside.specs.declared.pages.Pages as pages
use Rattle.hm_base.specs.Lists.{zeros}
use Rattle.hm_outside.specs.PageRuns.{PageRuns}
use Rattle.hm_model.specs.Maps.{among, at, removed}
use Rattle.hm_model.specs.declared.entry.Entry.{Entry}
use Rattle.hm_model.specs.declared.entry.Who.{Who}
use Rattle.hm_model.specs.declared.entry.Call.TheVariants.{GiveBack}
use Rattle.hm_model.specs.declared.entry.Reply.TheVariants as reply
use Rattle.hm_sizes.specs.declared.shape.Shape.{Shape}
use Rattle.hm_sizes.specs.Shapes.{slab_at, slab_of, slot_of, has_bytes, usable}
use Rattle.hm_class_rules.specs.State.{State, Slab, is_open, is_live, is_empty, empty_slabs}
use Rattle.hm_class_rules.specs.Kinds.{Kind, Partial, Empty, kind, same_kind}
use Rattle.hm_class_rules.specs.Steps.{takes_back, releases, unparks, retires, purges, step}
use Rattle.hm_class_rules.specs.Bytes.{found_canary, kept_canary}
use Rattle.hm_class_rules.specs.Rules.{Terms, Releases, Empties, Unparks, surplus, state, wrong_canary}
use Rattle.hm_class_rules.specs.Stepped.{listed, touched, parking_with}
use Rattle.hm_class_rules.specs.DrawnLaws.{AreKept}
use Rattle.hm_class_rules.specs.Draws.{Returned, parking_index}
use Rattle.hm_class_rules.proofs.Emptied.{one_more_empty}
use Rattle.hm_class_rules.proofs.Changes.{kind_empty}
use Rattle.hm_class_rules.proofs.Alike.{drawn_below}
use Rattle.hm_class_rules.proofs.Streams.{next_below}
use Rattle.hm_class.specs.declared.event.Emptied.{Emptied}
use Rattle.hm_class.specs.declared.event.Emptied.TheVariants as emptied
use Rattle.hm_slab_meta.specs.Uses.{Free, Live, Quarantined}
use Rattle.hm_class.specs.Slabs.{Slabs}
use Rattle.hm_class.specs.declared.slabs.Slot.{Slot}
use Rattle.hm_class.specs.Uses.{numbers_of, open_at, Uses, SlabUse, lives, kind_at, slab_in, use_at, with_slot, with_use, with_shut, shut_slab, live_count}
use Rattle.hm_class.specs.Slabs.{SameLists, Parks, list_of}
use Rattle.hm_slab_lists.specs.Lists.{Lists, gone, placed}
use Rattle.hm_slab_lists.specs.Table.{unparked}
use Rattle.hm_class.proofs.Filing.{Stands, Relisted, with_unparked, placed_relisted, placed_full, retired_partial, retired_empty, retired_shut, retired_full, same_full}
use Rattle.hm_model.specs.Calls.{entry_of, no_choices}
use Rattle.hm_class.specs.Events.{freed_choices, freed_draws}
use Rattle.hm_class.specs.Frees as frees
use Rattle.hm_class.specs.Frees.{array_word, index_of_word, array_stream, Quarantines, Settles, is_surplus, freed_uses}
use Rattle.hm_class.specs.Region.{HoldsSlabs}
use Rattle.hm_class.specs.declared.identity.Identity.{Identity}
use Rattle.hm_class.specs.declared.store.Store.{Store}
use Rattle.hm_class.specs.Kept.{Shows, AreFull, IsKept, terms_in, cells_of}
use Rattle.hm_class.proofs.Alike.{AreAlike}
use Rattle.hm_class.proofs.Entered.{length_taken, has_removed_same, has_overlaid}
use Rattle.hm_class.proofs.Followed.{shows_count, slot_shown, shows_released, shows_retired, shows_unparked, shows_written}
use Rattle.hm_class.proofs.Freed.{released_is, draws_are, stepped_freed, after_freed, stream_after, IsNextWord, IsUnparked, index_drawn, parking_drawn}
use Rattle.hm_class.proofs.Listed.{next_freed, listed_same, empty_kind}
use Rattle.hm_class.proofs.Paged.{holds_retired, holds_purged}
use Rattle.hm_class.proofs.Permitted.{allowed_of, told_pair}
use Rattle.hm_class.proofs.Shown.{kind_is, kind_shut}
use Rattle.hm_class.proofs.Used.{found, counted, count_changed, use_here, slab_beside, open_changed}
use Rattle.hm_class.proofs.Returned.{was_live, quarantined_shows, quarantined_slabs, kind_then, release_now, IsReleased, is_released}
use Rattle.hm_class.proofs.Permitted.{live_block, canary_found, live_open}
use Rattle.hm_class.specs.Judgements.{Accepts}
use Rattle.hm_class.proofs.Entries.{pushed, stands_now, sound_now, allows_now, kept_now}

first_of : (x y : Bool) → (x && y) ≡ true → x ≡ true
first_of true y e = refl
first_of false y e = e

-- the slot that is free is there
freed_use : (all : Uses) (n i : ℕ) → use_at all n i ≡ Some Quarantined → use_at (with_use all n i Free) n i ≡ Some Free
freed_use all n i was = let f = found all n i Quarantined was in use_here all n i Free f.slab f.is_slab (slice_get_within f.slab.slots i Quarantined f.is_use)

was_parked : (most : ℕ) (parked : List ℕ) (u : Option ℕ) → Unparks most parked u → (m : ℕ) → u ≡ Some m → among m parked ≡ true
was_parked most parked None allowed m e = absurd (none-some m e)
was_parked most parked (Some u) allowed m e = ap (λ (k : ℕ). among k parked) (sym (same_Some u m e)) ∙ allowed.0

shut_with : (u : Option ℕ) (s : State) → with_unparked s.shut u ≡ (unparks u s).shut
shut_with None s = refl
shut_with (Some u) s = refl

unparked_live : (u : Option ℕ) (s : State) → (unparks u s).live ≡ s.live
unparked_live None s = refl
unparked_live (Some u) s = refl

unparked_opens : (u : Option ℕ) (s : State) → (unparks u s).opens ≡ s.opens
unparked_opens None s = refl
unparked_opens (Some u) s = refl

shut_live : (all : Uses) (n : ℕ) (b : SlabUse) → slab_in all n ≡ Some b → live_count (with_shut all n) ≡ live_count all
shut_live all n b is = omega (arith, count_changed all n shut_slab b is lives)

abbrev pub entry_freed : Shape → Words → Who → ℕ → Option ℕ → Option ℕ → Emptied → ℕ → ℕ → Entry
entry_freed p stream who a stated released e f f' = entry_of who (GiveBack a stated) reply.Freed (freed_choices released e) (freed_draws (array_word p (next_word stream)) e) f f'

chosen_is : (released : Option ℕ) (e : Emptied) → freed_choices released e ≡ record no_choices { released = (freed_choices released e).released; retired = (freed_choices released e).retired; purged = (freed_choices released e).purged; unparked = (freed_choices released e).unparked }
chosen_is released emptied.Kept = refl
chosen_is released (emptied.Retired d w u) = refl
chosen_is released (emptied.Purged d) = refl

clean_without : (p : Shape) (s : State) (a : ℕ) → has_bytes p ≡ false → wrong_canary p s a ≡ None
clean_without p s a off = ap (λ (b : Bool). cond (b && not (found_canary p s a == kept_canary p s a)) (told_pair (kept_canary p s a) (found_canary p s a)) None) off

-- the free of the live slot at a: its block is accepted, the slot went into quarantine, and faults are counted f before
-- and f' after it
pub record IsFree {P : Type 0} (meaning : pages.Ghosts P) (region : Identity) (store store₁ : Store) (begun half : P) (a : ℕ) (slot : Slot) (stated : Option ℕ) (result : Option ℕ × Option ℕ) (f f' : ℕ) : Type 0 where
  pub accepts : Accepts meaning region.shape store.slabs begun a stated slot
  pub quarantines : Quarantines meaning store store₁ begun half region.shape a slot result
  pub count : f ≡ meaning.faults begun
  pub later : f ≤ f'

module _ {P : Type 0} {meaning : pages.Ghosts P} {begun half : P} {region : Identity} {es : List Entry} {store store₁ : Store} {a : ℕ} {slot : Slot} {stated : Option ℕ} {result : Option ℕ × Option ℕ} {f f' : ℕ}
    (kept : IsKept (meaning.told begun) (meaning.owner begun) (meaning.runs begun) (meaning.faults begun) region es store) (free : IsFree meaning region store store₁ begun half a slot stated result f f')
    (now : P) (store' : Store) (who : Who) where
  abbrev t : Terms
  t = terms_in (meaning.told begun) region

  abbrev first : State
  first = state (terms_in (meaning.told begun) region) es

  abbrev taken : State
  taken = takes_back region.shape a first

  clean : IsTrue (meaning.told begun) → wrong_canary region.shape first a ≡ None
  clean y = of (has_bytes region.shape) refl
    where
      slabs : HoldsSlabs region.shape first.opens (meaning.runs begun)
      slabs = kept.slabs y

      on : is_open first slot.slab ≡ true
      on = live_open region.shape first slot.slab slot.index region.served.shape (sound_now kept) free.accepts.judged.0.slot
          (ap (λ (q : ℕ). is_live first q) (sym free.accepts.judged.0.is) ∙ (live_block region.shape store.slabs.slabs first a region.served.shape kept.follows.shows slot free.accepts.judged).live)

      of : (own : Bool) → has_bytes region.shape ≡ own → wrong_canary region.shape first a ≡ None
      of true own = canary_found None region.served.shape own free.accepts.judged.0 on kept.follows.shows slabs (free.accepts.canary own y)
      of false off = clean_without region.shape first a off

  abbrev Ends : Option ℕ → Emptied → Type 0
  Ends released e = IsKept (meaning.told begun) (meaning.owner begun) (meaning.runs now) f' region (es ++ entry_freed region.shape store.stream who a stated released e f f' ∷ []) store'

  -- the slabs, the pages and the lists follow: slab m, which was `before`, is `then`, and the state is the last one
  record Settled (released : Option ℕ) (e : Emptied) (last : State) (m : ℕ) (before then : Kind) : Type 0 where
    let_is : released ≡ let_go store.quarantine a (index_of_word region.shape (next_word store.stream))
    after : step region.shape first (entry_freed region.shape store.stream who a stated released e f f') ≡ record last { faults = f' }
    empties : Empties t (releases released taken) f f' (freed_choices released e) (surplus region.shape (releases released taken) released)
    word : IsNextWord store.stream (region.shape.array == 0) e
    unparked : IsUnparked t (cells_of first store) e
    shows : Shows region.shape store'.slabs.slabs last
    shut : store'.slabs.lists.retired ≡ last.shut
    full : AreFull store'.slabs.slabs store'.slabs.lists.full
    numbers : store'.slabs.numbers ≡ numbers_of region.shape
    live : length last.live ≤ live_count store'.slabs.slabs
    slabs : IsTrue (meaning.told begun) → HoldsSlabs region.shape last.opens (meaning.runs now)
    slab : touched region.shape released (Returned a) ≡ m
    was : kind region.shape first m ≡ before
    is : kind region.shape last m ≡ then
    partial : store'.slabs.lists.partial ≡ listed Partial m before then store.slabs.lists.partial
    empty : store'.slabs.lists.empty ≡ listed Empty m before then store.slabs.lists.empty
    stream : store'.stream ≡ stream_after (array_stream region.shape store.stream) e
    parking : store'.slabs.parking ≡ parking_with (parking_index t (freed_draws (array_word region.shape (next_word store.stream)) e)) (freed_choices released e).retired store.slabs.parking
    quarantine : store'.quarantine ≡ kept_with store.quarantine a (index_of_word region.shape (next_word store.stream))

  finish : {released : Option ℕ} {e : Emptied} {last : State} {m : ℕ} {before then : Kind} → Settled released e last m before then → Ends released e
  finish {released = released} {e = e} {last = last} {m = m} s =
      let x : Entry = entry_freed region.shape store.stream who a stated released e f f' in
      let same : (freed_choices released e).released ≡ released = released_is released e in
      let release : Releases region.shape taken released = subst (λ (o : Option ℕ). Releases region.shape taken o) (sym s.let_is)
      (release_now kept refl refl free.accepts.judged free.quarantines) in
      pushed kept store' x
      (allowed_of (GiveBack a stated) reply.Freed (freed_choices released e) (freed_draws (array_word region.shape (next_word store.stream)) e) (draws_are region.shape store.stream e) tt (free.count ∙ kept.count) free.later (record {
        block = live_block region.shape store.slabs.slabs first a region.served.shape kept.follows.shows slot free.accepts.judged;
        size = free.accepts.size;
        canary = clean;
        release = subst (λ (o : Option ℕ). Releases region.shape taken o) (sym same) release;
        emptied = subst (λ (o : Option ℕ). Empties t (releases o taken) f f' (freed_choices released e) (surplus region.shape (releases o taken) o)) (sym same) s.empties;
        choices = chosen_is released e;
      }))
      (stepped_freed t (cells_of first store) who a stated released e s.word s.unparked s.let_is) refl
      (record {
        shows = subst (λ (z : State). Shows region.shape store'.slabs.slabs z) (sym s.after) (shows_count region.shape store'.slabs.slabs last f' s.shows);
        shut = s.shut ∙ ap (λ (z : State). z.shut) (sym s.after);
        full = s.full;
        numbers = s.numbers;
        live_all = omega (arith, s.live, ap (λ (z : State). length z.live) s.after);
      })
      (λ y. subst (λ (z : State). HoldsSlabs region.shape z.opens (meaning.runs now)) (sym s.after) (s.slabs y))
      (next_freed t first x store store' refl (record {
        slab = ap (λ (o : Option ℕ). touched region.shape o (Returned a)) same ∙ s.slab;
        was = s.was;
        now = ap (λ (z : State). kind region.shape z m) s.after ∙ s.is;
        taken = after_freed region.shape store.stream e ∙ sym s.stream;
        partial = s.partial;
        empty = s.empty;
        quarantine = s.quarantine ∙ ap (λ (i : ℕ). kept_with store.quarantine a i) (sym (index_drawn region.shape store.stream e));
        parking = s.parking;
      }))

  -- the slots with the freed one quarantined
  shows₁ : Shows region.shape store₁.slabs.slabs taken
  shows₁ = quarantined_shows kept refl refl free.accepts.judged free.quarantines

  slabs₁ : IsTrue (meaning.told begun) → HoldsSlabs region.shape taken.opens (meaning.runs half)
  slabs₁ = quarantined_slabs kept refl refl free.accepts.judged free.quarantines

  kind₁ : (m : ℕ) → kind region.shape first m ≡ kind_at store₁.slabs.slabs m
  kind₁ = kind_then kept refl refl free.accepts.judged free.quarantines

  live : is_live first a ≡ true
  live = was_live kept refl refl free.accepts.judged free.quarantines

  live_taken : length taken.live ≤ live_count store₁.slabs.slabs
  live_taken = omega (arith, kept.follows.live_all, ap live_count free.quarantines.slabs, counted lives store.slabs.slabs slot.slab slot.index Quarantined Live free.accepts.judged.1, length_taken a first.live live)

  -- what was open is open, and slabs are what they were
  open₁ : (m : ℕ) → is_open taken m ≡ is_open first m
  open₁ m = has_overlaid region.shape a (zeros (usable region.shape)) m first.opens

  same_kind₁ : (m : ℕ) → kind_at store.slabs.slabs m ≡ kind_at store₁.slabs.slabs m
  same_kind₁ m = sym (kind_is region.shape store.slabs.slabs first m region.served.shape kept.follows.shows) ∙ kind₁ m

  full₁ : AreFull store₁.slabs.slabs store.slabs.lists.full
  full₁ m at =
      let is = kept.follows.full m at in
      (sym (shows₁.opens m) ∙ open₁ m ∙ kept.follows.shows.opens m ∙ is.0, sym (same_kind₁ m) ∙ is.1)

  -- nothing left the quarantine
  pub kept_quarantined : (e : Emptied) → None ≡ let_go store.quarantine a (index_of_word region.shape (next_word store.stream)) → e ≡ emptied.Kept → store'.slabs.slabs ≡ store₁.slabs.slabs → SameLists store₁.slabs store'.slabs → (IsTrue (meaning.told begun) → meaning.runs now ≡ meaning.runs half) → store'.stream ≡ array_stream region.shape store.stream → store'.slabs.parking ≡ store.slabs.parking
      → store'.quarantine ≡ store₁.quarantine → Ends None e
  kept_quarantined e none e_is same same_lists same_runs words parking quarantine =
      let m : ℕ = slab_of region.shape a in
      let ka : Kind = kind region.shape first m in
      let all_lists : store'.slabs.lists ≡ store.slabs.lists = same_lists.lists ∙ free.quarantines.lists.lists in
      subst (λ (x : Emptied). Ends None x) (sym e_is)
      (finish {e = emptied.Kept} {last = taken} {m = m} (record {
        let_is = none;
        after = refl;
        empties = (refl, refl, refl);
        word = tt;
        unparked = tt;
        shows = subst (λ (u : Uses). Shows region.shape u taken) (sym same) shows₁;
        shut = ap (λ (l : Lists). l.retired) all_lists ∙ kept.follows.shut;
        full = same_full store₁.slabs.slabs store'.slabs.slabs store.slabs.lists.full store'.slabs.lists.full same (ap (λ (l : Lists). l.full) all_lists) full₁;
        numbers = same_lists.numbers ∙ free.quarantines.lists.numbers ∙ kept.follows.numbers;
        live = omega (arith, live_taken, ap live_count same);
        slabs = λ y. subst (λ (r : PageRuns). HoldsSlabs region.shape taken.opens r) (sym (same_runs y)) (slabs₁ y);
        slab = refl;
        was = refl;
        is = kind_is region.shape store₁.slabs.slabs taken m region.served.shape shows₁ ∙ sym (kind₁ m);
        partial = ap (λ (l : Lists). l.partial) all_lists ∙ sym (listed_same Partial ka m store.slabs.lists.partial);
        empty = ap (λ (l : Lists). l.empty) all_lists ∙ sym (listed_same Empty ka m store.slabs.lists.empty);
        stream = words;
        parking = parking;
        quarantine = quarantine ∙ free.quarantines.quarantine_is;
      }))

  -- ---- slot b left the quarantine
  module _ (b : ℕ) (let_is : Some b ≡ let_go store.quarantine a (index_of_word region.shape (next_word store.stream))) where
    abbrev m : ℕ
    m = slab_of region.shape b

    abbrev freed : State
    freed = releases (Some b) taken

    abbrev uses₂ : Uses
    uses₂ = freed_uses region.shape b store₁.slabs.slabs

    release : Releases region.shape taken (Some b)
    release = subst (λ (o : Option ℕ). Releases region.shape taken o) (sym let_is)
        (release_now kept refl refl free.accepts.judged free.quarantines)

    place_b : IsReleased kept refl refl free.accepts.judged free.quarantines b
    place_b = is_released kept refl refl free.accepts.judged free.quarantines b release.0

    shows₂ : Shows region.shape uses₂ freed
    shows₂ =
        let r = place_b in
        let g = found store₁.slabs.slabs m (slot_of region.shape b) Quarantined r.used in
        subst (λ (q : ℕ). Shows region.shape uses₂ (releases (Some q) taken)) (sym r.is_place) (shows_released (slot_shown region.served.shape shows₁ g.is_slab r.slot) r.used shows₁ refl)

    -- whether the slab is one too many
    surplus_is : is_surplus region.shape uses₂ (length store₁.slabs.lists.empty) m ≡ (is_empty region.shape freed m && nat_lt 131072 (length (empty_slabs region.shape freed) * region.shape.slab))
    surplus_is =
        ap (λ (x : Bool). x && nat_lt 131072 ((length store₁.slabs.lists.empty + 1) * region.shape.slab)) (ap (λ (x : Kind). same_kind x Empty) (sym (kind_is region.shape uses₂ freed m region.served.shape shows₂)) ∙ empty_kind region.shape freed m)
        ∙ of (is_empty region.shape freed m) refl
      where
        now_kept : AreKept t first (cells_of first store)
        now_kept = kept_now kept

        of : (x : Bool) → is_empty region.shape freed m ≡ x → (x && nat_lt 131072 ((length store₁.slabs.lists.empty + 1) * region.shape.slab)) ≡ (x && nat_lt 131072 (length (empty_slabs region.shape freed) * region.shape.slab))
        of true e = ap (λ (n : ℕ). nat_lt 131072 (n * region.shape.slab))
            (omega (arith, one_more_empty region.shape first a b region.served.shape (sound_now kept) live release e, now_kept.empty_count, ap (λ (l : Lists). length l.empty) free.quarantines.lists.lists))
        of false e = refl

    surplus_when : (x : Bool) → is_surplus region.shape uses₂ (length store₁.slabs.lists.empty) m ≡ x → surplus region.shape freed (Some b) ≡ cond x (Some m) None
    surplus_when x e = ap (λ (y : Bool). cond y (Some m) None) (sym surplus_is ∙ e)

    free_live : live_count uses₂ ≡ live_count store₁.slabs.slabs
    free_live = omega (arith, counted lives store₁.slabs.slabs m (slot_of region.shape b) Free Quarantined place_b.used)

    -- where the slab stands
    stands : Stands store.slabs.lists m (kind_at store₁.slabs.slabs m)
    stands = subst (λ (x : Kind). Stands store.slabs.lists m x) (same_kind₁ m) (stands_now kept m (sym (open₁ m) ∙ place_b.open_slab))

    -- the slabs before the lists follow
    module _ (mid : Slabs) (mid_slabs : mid.slabs ≡ uses₂) (mid_lists : SameLists store₁.slabs mid) where
      all_mid : mid.lists ≡ store.slabs.lists
      all_mid = mid_lists.lists ∙ free.quarantines.lists.lists

      beside₂ : (n : ℕ) → n ≢ m → slab_in uses₂ n ≡ slab_in store₁.slabs.slabs n
      beside₂ n ne =
          let g = found store₁.slabs.slabs m (slot_of region.shape b) Quarantined place_b.used in
          slab_beside store₁.slabs.slabs m (with_slot (slot_of region.shape b) Free) g.slab g.is_slab n ne

      open₂ : open_at uses₂ m ≡ true
      open₂ =
          let g = found store₁.slabs.slabs m (slot_of region.shape b) Quarantined place_b.used in
          open_changed store₁.slabs.slabs m (with_slot (slot_of region.shape b) Free) g.slab g.is_slab refl ∙ sym (shows₁.opens m) ∙ place_b.open_slab

      -- it goes to the list of its kind
      module _ (ka : Kind) (joins : frees.Joins m mid.slabs mid store'.slabs) (is_ka : kind_at uses₂ m ≡ ka) where
        lists_are : store'.slabs.lists ≡ placed (list_of ka) m store.slabs.lists
        lists_are = joins.lists ∙ ap (λ (u : Uses). placed (list_of (kind_at u m)) m mid.lists) mid_slabs
            ∙ ap (λ (x : Kind). placed (list_of x) m mid.lists) is_ka ∙ ap (λ (l : Lists). placed (list_of ka) m l) all_mid

        slabs_are : store'.slabs.slabs ≡ uses₂
        slabs_are = joins.slabs ∙ mid_slabs

        relisted : Relisted store.slabs.lists (placed (list_of ka) m store.slabs.lists) m (kind_at store₁.slabs.slabs m) ka
        relisted = placed_relisted store.slabs.lists m (kind_at store₁.slabs.slabs m) ka stands

        joined_full : AreFull store'.slabs.slabs store'.slabs.lists.full
        joined_full = subst (λ (u : Uses). AreFull u store'.slabs.lists.full) (sym slabs_are) (subst (λ (l : Lists). AreFull uses₂ l.full) (sym lists_are)
            (placed_full store₁.slabs.slabs uses₂ ka stands full₁ open₂ is_ka beside₂))

        joined_shut : store'.slabs.lists.retired ≡ first.shut
        joined_shut = ap (λ (l : Lists). l.retired) lists_are ∙ relisted.retired ∙ kept.follows.shut

        joined_partial : store'.slabs.lists.partial ≡ listed Partial m (kind_at store₁.slabs.slabs m) ka store.slabs.lists.partial
        joined_partial = ap (λ (l : Lists). l.partial) lists_are ∙ relisted.partial

        joined_empty : store'.slabs.lists.empty ≡ listed Empty m (kind_at store₁.slabs.slabs m) ka store.slabs.lists.empty
        joined_empty = ap (λ (l : Lists). l.empty) lists_are ∙ relisted.empty

        joined_numbers : store'.slabs.numbers ≡ numbers_of region.shape
        joined_numbers = joins.numbers ∙ mid_lists.numbers ∙ free.quarantines.lists.numbers ∙ kept.follows.numbers

      -- it is retired
      module _ (w : ℕ) (u : Option ℕ) (parks : Parks m (drawn (length mid.parking) w) mid store'.slabs) (was_there : u ≡ slice_index_or mid.parking (drawn (length mid.parking) w) None) where
        parked_lists : store'.slabs.lists ≡ unparked u (gone m store.slabs.lists)
        parked_lists = parks.lists ∙ ap (λ (o : Option ℕ). unparked o (gone m mid.lists)) (sym was_there) ∙ ap (λ (l : Lists). unparked u (gone m l)) all_mid

        parked_slabs : store'.slabs.slabs ≡ with_shut uses₂ m
        parked_slabs = parks.slabs ∙ ap (λ (l : Uses). with_shut l m) mid_slabs

        parked_beside : (n : ℕ) → n ≢ m → slab_in store'.slabs.slabs n ≡ slab_in store₁.slabs.slabs n
        parked_beside n ne =
            let f = found uses₂ m (slot_of region.shape b) Free (freed_use store₁.slabs.slabs m (slot_of region.shape b) place_b.used) in
            ap (λ (l : Uses). slab_in l n) parked_slabs ∙ slab_beside uses₂ m shut_slab f.slab f.is_slab n ne ∙ beside₂ n ne

        parked_full : AreFull store'.slabs.slabs store'.slabs.lists.full
        parked_full = subst (λ (l : Lists). AreFull store'.slabs.slabs l.full) (sym parked_lists) (retired_full store₁.slabs.slabs store'.slabs.slabs store.slabs.lists m u full₁ parked_beside)

        parked_shut : store'.slabs.lists.retired ≡ with_unparked first.shut u
        parked_shut = ap (λ (l : Lists). l.retired) parked_lists ∙ retired_shut store.slabs.lists m u (kind_at store₁.slabs.slabs m) stands
            ∙ ap (λ (l : List ℕ). with_unparked l u) kept.follows.shut

        parked_numbers : store'.slabs.numbers ≡ numbers_of region.shape
        parked_numbers = parks.numbers ∙ mid_lists.numbers ∙ free.quarantines.lists.numbers ∙ kept.follows.numbers

    pub kept_released : (e : Emptied) → frees.Releases meaning store₁ store' half now region.shape b e → f' ≡ meaning.faults now → Ends (Some b) e
    kept_released e v now_is = by_end e v.empties
      where
        mid : Slabs
        mid = v.mid

        parking : mid.parking ≡ store.slabs.parking
        parking = v.lists.parking ∙ free.quarantines.lists.parking

        over : Bool → Type 0
        over x = is_surplus region.shape mid.slabs (length mid.lists.empty) m ≡ x

        surplus_by : (x : Bool) → over x → is_surplus region.shape uses₂ (length store₁.slabs.lists.empty) m ≡ x
        surplus_by x e = ap (λ (u : Uses). is_surplus region.shape u (length store₁.slabs.lists.empty) m) (sym v.slabs)
            ∙ ap (λ (l : Lists). is_surplus region.shape mid.slabs (length l.empty) m) (sym v.lists.lists) ∙ e

        by_end : (e : Emptied) → frees.Empties meaning (record store₁ { slabs = mid }) store' half now region.shape m e → Ends (Some b) e
        by_end emptied.Kept w =
            let ka : Kind = kind_at uses₂ m in
            let j = w.1.joins in
            let q = w.1.keeps in
            finish {e = emptied.Kept} {last = freed} {m = m} (record {
              let_is = let_is;
              after = refl;
              empties = subst (λ (o : Option ℕ). Empties t freed f f' (freed_choices (Some b) emptied.Kept) o) (sym (surplus_when false (surplus_by false w.0))) (refl, refl, refl);
              word = tt;
              unparked = tt;
              shows = subst (λ (u : Uses). Shows region.shape u freed) (sym (slabs_are mid v.slabs v.lists ka j refl)) shows₂;
              shut = joined_shut mid v.slabs v.lists ka j refl;
              full = joined_full mid v.slabs v.lists ka j refl;
              numbers = joined_numbers mid v.slabs v.lists ka j refl;
              live = omega (arith, live_taken, ap live_count (slabs_are mid v.slabs v.lists ka j refl), free_live);
              slabs = λ y. subst (λ (r : PageRuns). HoldsSlabs region.shape taken.opens r) (sym (q.page_runs_same (free.quarantines.cleared.pages.told ∙ y))) (slabs₁ y);
              slab = refl;
              was = kind₁ m;
              is = kind_is region.shape uses₂ freed m region.served.shape shows₂;
              partial = joined_partial mid v.slabs v.lists ka j refl;
              empty = joined_empty mid v.slabs v.lists ka j refl;
              stream = q.stream_is ∙ free.quarantines.stream_is;
              parking = q.parking_is ∙ parking;
              quarantine = q.quarantine_same ∙ free.quarantines.quarantine_is;
            })
        by_end (emptied.Retired d w u) x =
            let j = x.1 in
            let r = place_b in
            let g = found uses₂ m (slot_of region.shape b) Free (freed_use store₁.slabs.slabs m (slot_of region.shape b) r.used) in
            let length_is : length mid.parking ≡ region.config.park_length =
            ap (λ (l : List (Option ℕ)). length l) parking ∙ (kept_now kept).parking_length in
            let some : 0 < region.config.park_length = omega (arith, region.served.valid.park_some) in
            let word_low : w < 2 ^ 32 = subst (λ (x : ℕ). x < 2 ^ 32) (sym j.word_is) (next_below store₁.stream) in
            let here : u ≡ slice_index_or store.slabs.parking (drawn region.config.park_length w) None =
            j.unparked_is ∙ ap (λ (x : ℕ). slice_index_or mid.parking (drawn x w) None) length_is ∙ ap (λ (l : List (Option ℕ)). slice_index_or l (drawn region.config.park_length w) None) parking in
            let allowed : Unparks region.config.park_length first.parked u = subst (λ (o : Option ℕ). Unparks region.config.park_length first.parked o) (sym here)
            ((allows_now kept).unparked (drawn region.config.park_length w) (drawn_below region.config.park_length w some word_low)) in
            let s₃ : State = unparks u freed in
            let shows₃ : Shows region.shape uses₂ s₃ = shows_unparked region.shape uses₂ freed u (was_parked region.config.park_length first.parked u allowed) shows₂ in
            let slabs : store'.slabs.slabs ≡ with_shut uses₂ m = parked_slabs mid v.slabs v.lists w u j.parks j.unparked_is in
            let all : store'.slabs.lists ≡ unparked u (gone m store.slabs.lists) = parked_lists mid v.slabs v.lists w u j.parks j.unparked_is in
            subst (λ (d : ℕ). Ends (Some b) (emptied.Retired d w u)) (sym j.slab_is)
            (finish {e = emptied.Retired m w u} {last = retires (Some m) s₃} {m = m} (record {
              let_is = let_is;
              after = refl;
              empties = subst (λ (o : Option ℕ). Empties t freed f f' (freed_choices (Some b) (emptied.Retired m w u)) o) (sym (surplus_when true (surplus_by true x.0))) (inl (refl, refl, allowed));
              word = j.word_is ∙ ap next_word free.quarantines.stream_is;
              unparked = here;
              shows = subst (λ (x : Uses). Shows region.shape x (retires (Some m) s₃)) (sym slabs) (shows_retired region.shape uses₂ s₃ m g.slab g.is_slab shows₃);
              shut = parked_shut mid v.slabs v.lists w u j.parks j.unparked_is ∙ shut_with u freed;
              full = parked_full mid v.slabs v.lists w u j.parks j.unparked_is;
              numbers = parked_numbers mid v.slabs v.lists w u j.parks j.unparked_is;
              live = omega (arith, live_taken, ap live_count slabs, shut_live uses₂ m g.slab g.is_slab, free_live, ap (λ (l : List (ℕ × ℕ)). length l) (unparked_live u freed));
              slabs = λ y. subst (λ (r : PageRuns). HoldsSlabs region.shape (retires (Some m) s₃).opens r) (sym (j.dropped.0 (free.quarantines.cleared.pages.told ∙ y)))
                  (subst (λ (l : List (ℕ × Slab)). HoldsSlabs region.shape (removed m l) (cond (has_bytes region.shape) (map.remove (meaning.runs half) (slab_at region.shape m)) (meaning.runs half))) (sym (unparked_opens u freed)) (holds_retired region.shape taken.opens m (meaning.runs half) region.served.shape (slabs₁ y)));
              slab = refl;
              was = kind₁ m;
              is = kind_shut region.shape (retires (Some m) s₃) m region.served.shape (has_removed_same m s₃.opens);
              partial = ap (λ (l : Lists). l.partial) all ∙ retired_partial store.slabs.lists m u (kind_at store₁.slabs.slabs m) stands;
              empty = ap (λ (l : Lists). l.empty) all ∙ retired_empty store.slabs.lists m u (kind_at store₁.slabs.slabs m) stands;
              stream = j.stream_is ∙ ap after_word free.quarantines.stream_is;
              parking = j.parks.parking ∙ ap (λ (x : ℕ). slice_set mid.parking (drawn x w) (Some m)) length_is ∙ ap (λ (l : List (Option ℕ)). slice_set l (drawn region.config.park_length w) (Some m)) parking
                  ∙ ap (λ (i : ℕ). slice_set store.slabs.parking i (Some m)) (sym (parking_drawn t store.stream m w u));
              quarantine = j.quarantine_same ∙ free.quarantines.quarantine_is;
            }))
        by_end (emptied.Purged d) w =
            let q = w.1 in
            let j = q.joins in
            let final : State = purges region.shape (Some m) freed in
            let rose : f < f' = omega (arith, q.dropped.2, (free.count ∙ sym free.quarantines.cleared.pages.count), now_is) in
            let shows₃ : Shows region.shape uses₂ final = shows_written region.shape uses₂ freed (slab_at region.shape m) (zeros region.shape.slab) shows₂ in
            let empty₂ : kind region.shape freed m ≡ Empty = kind_empty region.shape freed m (first_of _ _ (sym surplus_is ∙ surplus_by true w.0)) in
            let is : kind_at uses₂ m ≡ Empty = sym (kind_is region.shape uses₂ freed m region.served.shape shows₂) ∙ empty₂ in
            subst (λ (d : ℕ). Ends (Some b) (emptied.Purged d)) (sym q.slab_is)
            (finish {e = emptied.Purged m} {last = final} {m = m} (record {
              let_is = let_is;
              after = refl;
              empties = subst (λ (o : Option ℕ). Empties t freed f f' (freed_choices (Some b) (emptied.Purged m)) o) (sym (surplus_when true (surplus_by true w.0))) (inr (refl, refl, refl, q.dropped.0, rose));
              word = tt;
              unparked = tt;
              shows = subst (λ (x : Uses). Shows region.shape x final) (sym (slabs_are mid v.slabs v.lists Empty j is)) shows₃;
              shut = joined_shut mid v.slabs v.lists Empty j is;
              full = joined_full mid v.slabs v.lists Empty j is;
              numbers = joined_numbers mid v.slabs v.lists Empty j is;
              live = omega (arith, live_taken, ap live_count (slabs_are mid v.slabs v.lists Empty j is), free_live);
              slabs = λ y. subst (λ (r : PageRuns). HoldsSlabs region.shape final.opens r) (sym (q.dropped.1 (free.quarantines.cleared.pages.told ∙ y))) (holds_purged region.shape taken.opens m (meaning.runs half) region.served.shape q.dropped.0 place_b.open_slab (slabs₁ y));
              slab = refl;
              was = kind₁ m;
              is = kind_is region.shape uses₂ final m region.served.shape shows₃ ∙ is;
              partial = joined_partial mid v.slabs v.lists Empty j is;
              empty = joined_empty mid v.slabs v.lists Empty j is;
              stream = q.stream_is ∙ free.quarantines.stream_is;
              parking = q.parking_is ∙ parking;
              quarantine = q.quarantine_same ∙ free.quarantines.quarantine_is;
            }))

  -- what was released, if anything
  pub kept_ended : (released : Option ℕ) (e : Emptied) → released ≡ let_go store.quarantine a (index_of_word region.shape (next_word store.stream)) → Settles meaning store₁ store' half now region.shape released e
      → f' ≡ meaning.faults now → Ends released e
  kept_ended None e let_is v now_is = kept_quarantined e let_is v.0 v.1 v.2 (λ y. v.3.page_runs_same (free.quarantines.cleared.pages.told ∙ y)) (v.3.stream_is ∙ free.quarantines.stream_is) (v.3.parking_is ∙ free.quarantines.lists.parking) v.3.quarantine_same
  kept_ended (Some b) e let_is v now_is = kept_released b let_is e v now_is

  -- what is released was not live, and no fault is taken back
  pub live_ended : (released : Option ℕ) (e : Emptied) → released ≡ let_go store.quarantine a (index_of_word region.shape (next_word store.stream)) → Settles meaning store₁ store' half now region.shape released e
      → live_count store'.slabs.slabs + 1 ≡ live_count store.slabs.slabs
  live_ended released e let_is v = omega (arith, same released e let_is v, ap live_count free.quarantines.slabs, counted lives store.slabs.slabs slot.slab slot.index Quarantined Live free.accepts.judged.1)
    where
      same : (released : Option ℕ) (e : Emptied) → released ≡ let_go store.quarantine a (index_of_word region.shape (next_word store.stream)) → Settles meaning store₁ store' half now region.shape released e → live_count store'.slabs.slabs ≡ live_count store₁.slabs.slabs
      same None e let_is v = ap live_count v.1
      same (Some b) e let_is v = by_end e v.empties
        where
          by_end : (e : Emptied) → frees.Empties meaning (record store₁ { slabs = v.mid }) store' half now region.shape (slab_of region.shape b) e → live_count store'.slabs.slabs ≡ live_count store₁.slabs.slabs
          by_end emptied.Kept w = ap live_count (w.1.joins.slabs ∙ v.slabs) ∙ free_live b let_is
          by_end (emptied.Retired d w u) x =
              let g = found (uses₂ b let_is) (slab_of region.shape b) (slot_of region.shape b) Free (freed_use store₁.slabs.slabs (slab_of region.shape b) (slot_of region.shape b) (place_b b let_is).used) in
              ap live_count (x.1.parks.slabs ∙ ap (λ (l : Uses). with_shut l (slab_of region.shape b)) v.slabs) ∙ shut_live (uses₂ b let_is) (slab_of region.shape b) g.slab g.is_slab ∙ free_live b let_is
          by_end (emptied.Purged d) w = ap live_count (w.1.joins.slabs ∙ v.slabs) ∙ free_live b let_is

pub settled_later : {P : Type 0} (meaning : pages.Ghosts P) (p : Shape) (old new : Store) (half now : P) (released : Option ℕ) (e : Emptied) → Settles meaning old new half now p released e
    → meaning.faults half ≤ meaning.faults now
settled_later meaning p old new half now None e v = omega (arith, v.3.count_same)
settled_later meaning p old new half now (Some b) e v = by_end e v.empties
  where
    by_end : (e : Emptied) → frees.Empties meaning (record old { slabs = v.mid }) new half now p (slab_of p b) e → meaning.faults half ≤ meaning.faults now
    by_end emptied.Kept w = omega (arith, w.1.keeps.count_same)
    by_end (emptied.Retired d w u) x = x.1.dropped.1
    by_end (emptied.Purged d) w = omega (arith, w.1.dropped.2)

pub settled_alike : {P : Type 0} (meaning : pages.Ghosts P) (p : Shape) (old new : Store) (half now : P) (released : Option ℕ) (e : Emptied) → Settles meaning old new half now p released e
    → AreAlike meaning half now
settled_alike meaning p old new half now None e v = (v.3.told_same, v.3.owner_same)
settled_alike meaning p old new half now (Some b) e v = by_end e v.empties
  where
    by_end : (e : Emptied) → frees.Empties meaning (record old { slabs = v.mid }) new half now p (slab_of p b) e → AreAlike meaning half now
    by_end emptied.Kept w = (w.1.keeps.told_same, w.1.keeps.owner_same)
    by_end (emptied.Retired d w u) x = (x.1.dropped.2, x.1.dropped.3)
    by_end (emptied.Purged d) w = (w.1.dropped.3, w.1.dropped.4)
