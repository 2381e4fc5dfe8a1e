-- Allotting: what was found can be served, and what is kept follows.
use Rattle.std.proofs.Common.{◌≡◌, ℕ, ◌<◌, ◌^◌, Bool, true, false, IfSome, List, length, slice_get, Option, Some, is_some, unwrap_or, sym, ◌∙◌, ap, subst, refl, arith}
use Rattle.std.specs.Option.{option_and_then, option_map_or}
use Rattle.hm_outside.specs.declared.pages.Pages as pages
use Rattle.hm_outside.specs.PageRuns.{PageRuns, MeetsNone}
use Rattle.hm_model.specs.declared.entry.Entry.{Entry}
use Rattle.hm_sizes.specs.declared.shape.Shape.{Shape}
use Rattle.hm_sizes.specs.Shapes.{place, slab_at}
use Rattle.hm_class_rules.specs.State.{State, is_open, is_taken, unopened, unopened_below}
use Rattle.hm_class_rules.specs.Steps.{opened}
use Rattle.hm_class_rules.specs.Rules.{state}
use Rattle.hm_class_rules.proofs.Changes.{taken_opened}
use Rattle.hm_class.specs.declared.next_slab.NextSlab.{NextSlab}
use Rattle.hm_class.specs.declared.next_slab.NextSlab.TheVariants as next
use Rattle.hm_class.specs.declared.identity.Identity.{Identity}
use Rattle.hm_class.specs.declared.store.Store.{Store}
use Rattle.hm_class.specs.Slabs.{Slabs}
use Rattle.hm_class.specs.Uses.{Numbers, open_at, numbers_of, Uses, SlabUse, occupied, slab_in, taken_uses, with_open, opened_slab, live_count}
use Rattle.hm_class.specs.Finds.{Finds, CanOpen, CanPick, CanServe}
use Rattle.hm_class.specs.Events.{canary_value}
use Rattle.hm_class.specs.Sources.{new_of, front_of}
use Rattle.hm_class.specs.Kept.{Shows, IsKept, terms_in}
use Rattle.hm_class.proofs.Followed.{shows_new}
use Rattle.hm_class.proofs.Paged.{meets_none}
use Rattle.hm_class.proofs.Permitted.{IsNew, new_slab_is, IsServing, source_serves, open_place, not_taken, has_one}
use Rattle.hm_class.proofs.Picked.{has_first}
use Rattle.hm_class.proofs.Shown.{taken_is}
use Rattle.hm_class.proofs.Used.{some_slab, slab_changed}
use Rattle.hm_class.proofs.Entries.{sound_now, allows_now}

-- a slab that serves can be picked from
can_pick : (p : Shape) (k : Slabs) (all : Uses) (s : State) (n : ℕ) → k.slabs ≡ all → n < p.limit → Shows p all s → IsServing all n → live_count k.slabs < 2 ^ 63 → CanPick p k n
can_pick p k all s n items below h serves few =
    let whole : length serves.slab.slots ≡ p.slots = h.slots n serves.slab serves.is_slab in
    let is : slab_in k.slabs n ≡ Some serves.slab = ap (λ (u : Uses). slab_in u n) items ∙ serves.is_slab in
    record {
      below = below;
      on = ap (λ (u : Uses). open_at u n) items ∙ ap (λ (o : Option SlabUse). option_map_or (λ (b : SlabUse). b.opened) o false) serves.is_slab ∙ serves.on;
      whole = subst (λ (o : Option SlabUse). IfSome o (λ (b : SlabUse). length b.slots ≡ p.slots)) (sym is) whole;
      first = λ i lt. has_first p k.slabs n i serves.slab is whole lt serves.has;
      few = few;
    }

-- the slab that is opened next
pub unopened_is : (p : Shape) (k : Slabs) (o : Option ℕ) → k.numbers ≡ numbers_of p → new_of k ≡ o → unopened p k.lists.retired (length k.slabs) ≡ o
unopened_is p k o numbers e =
    ap (λ (q : Numbers). unopened_below q.limit k.lists.retired (length k.slabs)) (sym numbers) ∙ e

module _ {told : Bool} {owner : Option ℕ} {runs : PageRuns} {faults : ℕ} {region : Identity} {es : List Entry} {store : Store}
    (kept : IsKept told owner runs faults region es store) where
  abbrev now_is : State
  now_is = state (terms_in told region) es

  pub is_new : (n : ℕ) → new_of store.slabs ≡ Some n → IsNew region.shape store.slabs.slabs now_is n
  is_new n e = new_slab_is region.shape store.slabs.slabs now_is n (sound_now kept) kept.follows.shows
      (ap (λ (l : List ℕ). unopened region.shape l now_is.next) (sym kept.follows.shut) ∙ ap (λ (m : ℕ). unopened region.shape store.slabs.lists.retired m) kept.follows.shows.next ∙ unopened_is region.shape store.slabs (Some n) kept.follows.numbers e)

  pub can_open : {P : Type 0} (meaning : pages.Ghosts P) (begun : P) → meaning.told begun ≡ told → meaning.runs begun ≡ runs → (n : ℕ) → new_of store.slabs ≡ Some n → CanOpen meaning region.shape store.slabs begun n
  can_open meaning begun told_is runs_is n e = let r = is_new n e in record {
    below = r.below;
    there = ap (λ (q : Numbers). is_some (slab_in (taken_uses q store.slabs.lists.retired store.slabs.slabs) n)) kept.follows.numbers
        ∙ ap (λ (l : List ℕ). is_some (slab_in (taken_uses (numbers_of region.shape) l store.slabs.slabs) n)) kept.follows.shut ∙ r.there;
    apart = λ y. subst (λ (x : PageRuns). MeetsNone x (slab_at region.shape n) region.shape.slab) (sym runs_is) (meets_none region.shape now_is.opens n runs region.served.shape r.off (kept.slabs (sym told_is ∙ y)));
  }

  -- ---- the open slab that serves
  pub serving : (n : ℕ) → front_of store.slabs ≡ Some n → IsServing store.slabs.slabs n
  serving n e = source_serves region.shape store.slabs.slabs now_is n region.served.shape kept.follows.shows ((allows_now kept).source n e)

  pub serving_open : (n : ℕ) → front_of store.slabs ≡ Some n → is_open now_is n ≡ true
  serving_open n e = let r = serving n e in kept.follows.shows.opens n ∙ ap (λ (o : Option SlabUse). option_map_or (λ (b : SlabUse). b.opened) o false) r.is_slab ∙ r.on

  -- ---- the slab that was opened
  module _ (n : ℕ) (canary : Option ℕ) (e : new_of store.slabs ≡ Some n) where
    abbrev then : State
    then = opened region.shape (Some n) canary now_is

    abbrev then_uses : Uses
    then_uses = with_open (taken_uses (numbers_of region.shape) now_is.shut store.slabs.slabs) n (unwrap_or canary 0)

    pub then_items : (k₁ : Slabs) → k₁.slabs ≡ with_open (taken_uses store.slabs.numbers store.slabs.lists.retired store.slabs.slabs) n (unwrap_or canary 0) → k₁.slabs ≡ then_uses
    then_items k₁ is =
        is ∙ ap (λ (q : Numbers). with_open (taken_uses q store.slabs.lists.retired store.slabs.slabs) n (unwrap_or canary 0)) kept.follows.numbers
        ∙ ap (λ (l : List ℕ). with_open (taken_uses (numbers_of region.shape) l store.slabs.slabs) n (unwrap_or canary 0)) kept.follows.shut

    slab_there : (b : SlabUse) × (slab_in (taken_uses (numbers_of region.shape) now_is.shut store.slabs.slabs) n ≡ Some b)
    slab_there = some_slab (slab_in (taken_uses (numbers_of region.shape) now_is.shut store.slabs.slabs) n) (is_new n e).there

    pub opened_shows : Shows region.shape then_uses then
    opened_shows = shows_new region.shape store.slabs.slabs now_is n (unwrap_or canary 0) slab_there.0 slab_there.1 kept.follows.shows

    pub opened_free : (i : ℕ) → i < region.shape.slots → is_taken then (place region.shape n i) ≡ false
    opened_free i lt = taken_opened region.shape (Some n) canary now_is (place region.shape n i)
        ∙ not_taken region.shape now_is n i region.served.shape (sound_now kept) (is_new n e).off lt

    opened_is : slab_in then_uses n ≡ Some (opened_slab (unwrap_or canary 0) slab_there.0)
    opened_is = slab_changed (taken_uses (numbers_of region.shape) now_is.shut store.slabs.slabs) n (opened_slab (unwrap_or canary 0)) slab_there.0 slab_there.1

    pub opened_serves : IsServing then_uses n
    opened_serves =
        let b : SlabUse = opened_slab (unwrap_or canary 0) slab_there.0 in
        let whole : length b.slots ≡ region.shape.slots = opened_shows.slots n b opened_is in
        let some : 0 < region.shape.slots = omega (arith, region.served.shape.slots_some) in
        record {
          slab = b;
          is_slab = opened_is;
          on = refl;
          has = has_one b.slots (omega (arith, whole, some))
              (sym (ap (λ (o : Option SlabUse). option_map_or occupied (option_and_then (λ (b : SlabUse). slice_get b.slots 0) o) false) opened_is) ∙ sym (taken_is region.shape then_uses then n 0 opened_shows some) ∙ opened_free 0 some);
        }

    pub opened_open : is_open then n ≡ true
    opened_open = opened_shows.opens n ∙ ap (λ (o : Option SlabUse). option_map_or (λ (b : SlabUse). b.opened) o false) opened_is

  -- what was found can be served
  pub can_serve : {P : Type 0} (meaning : pages.Ghosts P) (begun mid : P) (store₁ : Store) (n : NextSlab) → Finds meaning store store₁ begun mid region.shape n → live_count store₁.slabs.slabs < 2 ^ 63 → CanServe region.shape store₁.slabs n
  can_serve meaning begun mid store₁ (next.Open n) f few =
      can_pick region.shape store₁.slabs store.slabs.slabs now_is n f.1.0.slabs
      (open_place region.shape now_is n 0 (sound_now kept) (serving_open n f.0) (omega (arith, region.served.shape.slots_some))).below kept.follows.shows (serving n f.0) few
  can_serve meaning begun mid store₁ (next.New n canary) f few =
      can_pick region.shape store₁.slabs (then_uses n (canary_value canary) f.0.1) (then n (canary_value canary) f.0.1) n
      (then_items n (canary_value canary) f.0.1 store₁.slabs f.1.opened.slabs) (is_new n f.0.1).below (opened_shows n (canary_value canary) f.0.1) (opened_serves n (canary_value canary) f.0.1) few
  can_serve meaning begun mid store₁ next.Exhausted f few = tt
  can_serve meaning begun mid store₁ next.PagesFailed f few = tt
