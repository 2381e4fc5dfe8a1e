-- An allotment: what is kept follows, whatever it comes to.
use Rattle.std.proofs.Common.{◌≡◌, ℕ, ◌<◌, ◌≤◌, Bool, true, false, IsTrue, ◌&&◌, List, [], ◌∷◌, ◌++◌, length, get_or, slice_get, Option, Some, is_some, sym, ◌∙◌, ap, subst, refl, arith}
use Rattle.std.specs.Option.{option_and_then, option_map_or}
use Rattle.std.proofs.lemmas.Option.{slice_get-get_or}
use Rattle.hm_outside.specs.declared.pages.Pages as pages
use Rattle.hm_outside.specs.PageRuns.{PageRuns}
use Rattle.hm_model.specs.declared.entry.Entry.{Entry}
use Rattle.hm_model.specs.declared.entry.Who.{Who}
use Rattle.hm_model.specs.declared.entry.Call.TheVariants.{Allot}
use Rattle.hm_model.specs.declared.entry.Reply.{Reply}
use Rattle.hm_model.specs.declared.entry.Choices.{Choices}
use Rattle.hm_model.specs.declared.entry.Draws.{Draws}
use Rattle.hm_model.specs.Entries.{AreDraws}
use Rattle.hm_sizes.specs.Shapes.{IsGuard, place, slab_of, has_bytes, class_size_of}
use Rattle.hm_sizes.specs.Sizes.{raised}
use Rattle.hm_class_rules.specs.State.{State, is_open, is_taken}
use Rattle.hm_class_rules.specs.Kinds.{Kind, Partial, Empty, kind}
use Rattle.hm_class_rules.specs.Steps.{opened}
use Rattle.hm_class_rules.specs.Drawn.{first_free}
use Rattle.hm_class_rules.specs.Draws.{Picked, event_of, after_words}
use Rattle.hm_class_rules.specs.Rules.{Source, state}
use Rattle.hm_class_rules.specs.Stepped.{IsSteppedEntry, listed}
use Rattle.hm_slab_meta.specs.Uses.{SlotUse, Never, first_from}
use Rattle.hm_class.specs.Uses.{numbers_of, open_at, SlabUse, occupied, use_at, kind_at, live_count}
use Rattle.hm_model.specs.Calls.{entry_of, no_choices}
use Rattle.hm_class.specs.Finds.{GivesOf, start_from, start_stream}
use Rattle.hm_class.specs.Region.{HoldsSlabs}
use Rattle.hm_class.specs.declared.identity.Identity.{Identity}
use Rattle.hm_class.specs.declared.store.Store.{Store}
use Rattle.hm_class.specs.Kept.{Shows, AreFull, IsKept, terms_in, cells_of}
use Rattle.hm_slab_lists.specs.Lists.{Lists}
use Rattle.hm_class.proofs.Drawn.{start_below}
use Rattle.hm_class.proofs.Filing.{Stands, placed_relisted, placed_full}
use Rattle.hm_class.proofs.Permitted.{IsServing}
use Rattle.hm_class.proofs.Serving.{gives_slot, given_open, given_beside}
use Rattle.hm_class.proofs.Picked.{picked, is_first, not_occupied}
use Rattle.hm_class.proofs.Places.{place_test, slab_of_place}
use Rattle.hm_class.proofs.Shown.{taken_is}
use Rattle.hm_class.proofs.Taken.{IsPicked, kept_gives}

-- slab n is open, an allotment picks a slot of it, and these are its words and choices
pub record IsToServe {P : Type 0} (meaning : pages.Ghosts P) (told : Bool) (faults : ℕ) (region : Identity) (es : List Entry) (store : Store) (mid now : P) (store₁ store' : Store) (n : ℕ) (kind₀ : Kind) (choices : Choices) (draws : Draws) (who : Who) (asked f f' : ℕ) (before : Kind) : Type 0 where
  pub tell : IsTrue told → IsTrue (meaning.told mid)
  pub asks : raised asked ≤ class_size_of region.shape
  pub is : f ≡ faults
  pub later : f ≤ f'
  pub serves : IsServing store₁.slabs.slabs n
  pub below : n < region.shape.limit
  pub no_guard : IsGuard region.shape n → ⊥
  pub on : is_open (opened region.shape choices.opened choices.canary (state (terms_in told region) es)) n ≡ true
  pub shows : Shows region.shape store₁.slabs.slabs (opened region.shape choices.opened choices.canary (state (terms_in told region) es))
  pub slabs : IsTrue told → HoldsSlabs region.shape (opened region.shape choices.opened choices.canary (state (terms_in told region) es)).opens (meaning.runs mid)
  pub live_all : length (opened region.shape choices.opened choices.canary (state (terms_in told region) es)).live ≤ live_count store₁.slabs.slabs
  pub shut : store₁.slabs.lists.retired ≡ (opened region.shape choices.opened choices.canary (state (terms_in told region) es)).shut
  pub stands : Stands store₁.slabs.lists n before
  pub full : AreFull store₁.slabs.slabs store₁.slabs.lists.full
  pub numbers : store₁.slabs.numbers ≡ numbers_of region.shape
  pub partial : (after : Kind) → listed Partial n before after store₁.slabs.lists.partial ≡ listed Partial n kind₀ after store.slabs.lists.partial
  pub empty : (after : Kind) → listed Empty n before after store₁.slabs.lists.empty ≡ listed Empty n kind₀ after store.slabs.lists.empty
  pub was_kind : kind region.shape (state (terms_in told region) es) n ≡ kind₀
  pub are : AreDraws draws
  pub taken : after_words store.stream draws.used ≡ start_stream region.config store₁.stream
  pub quarantine : store₁.quarantine ≡ store.quarantine
  pub parking : store₁.slabs.parking ≡ store.slabs.parking
  pub source : Source region.shape (state (terms_in told region) es) choices.opened n
  pub has_canary : is_some choices.canary ≡ (has_bytes region.shape && is_some choices.opened)
  pub chosen : choices ≡ record no_choices { canary = choices.canary; opened = choices.opened }
  pub stepped : (a : ℕ) → slab_of region.shape a ≡ n → first_free region.shape (opened region.shape choices.opened choices.canary (state (terms_in told region) es)) n (start_from region.config region.shape store₁.stream) ≡ Some a → (r : Reply) → event_of (Allot asked 1) r ≡ Picked a → IsSteppedEntry (terms_in told region) (cells_of (state (terms_in told region) es) store) (entry_of who (Allot asked 1) r choices draws f f')

module _ {told : Bool} {owner : Option ℕ} {runs : PageRuns} {faults : ℕ} {region : Identity} {es : List Entry} {store : Store}
    (kept : IsKept told owner runs faults region es store)
    {P : Type 0} {meaning : pages.Ghosts P} {mid now : P} {store₁ store' : Store} {n : ℕ} {kind₀ : Kind} {choices : Choices} {draws : Draws} {who : Who} {asked f f' : ℕ} {before : Kind}
    (ready : IsToServe meaning told faults region es store mid now store₁ store' n kind₀ choices draws who asked f f' before) where
  pub kept_serve : (o : Reply) → GivesOf meaning store₁ store' mid now region n o
      → IsKept told owner (meaning.runs now) f' region (es ++ entry_of who (Allot asked 1) o choices draws f f' ∷ []) store'
  kept_serve o v =
      let then : State = opened region.shape choices.opened choices.canary (state (terms_in told region) es) in
      let i : ℕ = v.index in
      let after : Kind = kind_at store'.slabs.slabs n in
      let m = placed_relisted store₁.slabs.lists n before after ready.stands in
      let on₁ : open_at store₁.slabs.slabs n ≡ true = ap (λ (o : Option SlabUse). option_map_or (λ (b : SlabUse). b.opened) o false) ready.serves.is_slab ∙ ready.serves.on in
      let b : SlabUse = ready.serves.slab in
      let start : ℕ = start_from region.config region.shape store₁.stream in
      let some : 0 < region.shape.slots = omega (arith, region.served.shape.slots_some) in
      let start_lt : start < region.shape.slots = start_below region.config region.shape store₁.stream some in
      let whole : length b.slots ≡ region.shape.slots = ready.shows.slots n b ready.serves.is_slab in
      let first : first_from start b.slots ≡ Some i = sym (ap (λ (o : Option SlabUse). option_and_then (λ (b : SlabUse). first_from start b.slots) o) ready.serves.is_slab) ∙ v.first in
      let r = is_first b.slots start i (omega (arith, start_lt, whole)) first in
      let u : SlotUse = get_or b.slots i Never in
      let lt : i < region.shape.slots = omega (arith, r.within, whole) in
      let was : use_at store₁.slabs.slabs n i ≡ Some u = ap (λ (o : Option SlabUse). option_and_then (λ (b : SlabUse). slice_get b.slots i) o) ready.serves.is_slab ∙ slice_get-get_or b.slots i Never r.within in
      let free : occupied u ≡ false = not_occupied u r.available in
      let slab : slab_of region.shape (place region.shape n i) ≡ n = slab_of_place region.shape n i region.served.shape lt in
      let here : first_free region.shape then n start ≡ Some (place region.shape n i) = picked n start i ready.shows ready.serves.is_slab ready.serves.on start_lt v.first in
      let untaken : is_taken then (place region.shape n i) ≡ false = taken_is region.shape store₁.slabs.slabs then n i ready.shows lt ∙ ap (λ (o : Option SlotUse). option_map_or occupied o false) was ∙ free in
      let slot = gives_slot meaning region n i store₁.slabs store'.slabs mid now o v.gives in
      let facts : IsPicked meaning told faults region es store mid now store₁ store' n i kind₀ b choices draws who asked f f' u = record {
        tell = ready.tell;
        asks = ready.asks;
        is = ready.is;
        later = ready.later;
        lt = lt;
        is_slab = ready.serves.is_slab;
        was = was;
        free = free;
        on = ready.on;
        shows = ready.shows;
        slabs = ready.slabs;
        live_all = ready.live_all;
        shut = (ap (λ (l : Lists). l.retired) v.lists ∙ m.retired ∙ ready.shut);
        partial = (ap (λ (l : Lists). l.partial) v.lists ∙ m.partial ∙ ready.partial after);
        empty = (ap (λ (l : Lists). l.empty) v.lists ∙ m.empty ∙ ready.empty after);
        full = (subst (λ (l : Lists). AreFull store'.slabs.slabs l.full) (sym v.lists) (placed_full store₁.slabs.slabs store'.slabs.slabs after ready.stands ready.full
            (given_open slot on₁) refl (given_beside slot on₁)));
        numbers = (v.numbers ∙ ready.numbers);
        was_kind = ready.was_kind;
        are = ready.are;
        taken = (ready.taken ∙ sym v.stream_is);
        quarantine = (v.quarantine_same ∙ ready.quarantine);
        parking = (v.parking ∙ ready.parking);
        picks = (record {
          place = place_test region.shape (place region.shape n i) n i region.served.shape (record { below = ready.below; no_guard = ready.no_guard; slot = lt; is = refl });
          source = subst (λ (m : ℕ). Source region.shape (state (terms_in told region) es) choices.opened m) (sym slab) ready.source;
          open_slab = subst (λ (m : ℕ). is_open then m ≡ true) (sym slab) ready.on;
          free = untaken;
          canary = ready.has_canary;
          choices = ready.chosen;
        });
        stepped = (λ answer picks. ready.stepped (place region.shape n i) slab here answer picks);
      } in
      kept_gives kept facts o v.gives
