-- The entry of an allotment: what is kept follows.
use Rattle.std.proofs.Common.{◌≡◌, ◌≢◌, ℕ, ◌≤◌, Bool, true, false, IsTrue, cond, ◌&&◌, nat_lt, List, [], ◌∷◌, ◌++◌, length, Option, Some, None, is_some, unwrap_or, sym, ◌∙◌, ap, subst, refl, arith}
use Rattle.hm_choice.specs.Stream.{Words, next_word, after_word, canary_of}
use Rattle.hm_outside.specs.declared.pages.Pages as pages
use Rattle.hm_outside.specs.PageRuns.{PageRuns}
use Rattle.hm_model.specs.declared.entry.Entry.{Entry}
use Rattle.hm_model.specs.declared.entry.Who.{Who}
use Rattle.hm_model.specs.declared.entry.Call.TheVariants.{Allot}
use Rattle.hm_model.specs.declared.entry.Reply.{Reply}
use Rattle.hm_model.specs.declared.entry.Reply.TheVariants as reply
use Rattle.hm_model.specs.declared.entry.Choices.{Choices}
use Rattle.hm_model.specs.declared.entry.Draws.{Draws}
use Rattle.hm_sizes.specs.declared.shape.Shape.{Shape}
use Rattle.hm_sizes.specs.Shapes.{has_bytes, class_size_of}
use Rattle.hm_sizes.specs.Sizes.{raised}
use Rattle.hm_class_rules.specs.State.{State, unopened, unopened_below}
use Rattle.hm_class_rules.specs.Kinds.{Partial, Empty, Neither}
use Rattle.hm_class_rules.specs.Steps.{step, opened, taken_new}
use Rattle.hm_class_rules.specs.Drawn.{first_free}
use Rattle.hm_class_rules.specs.Draws.{Undrawn, event_of, after_words}
use Rattle.hm_class_rules.specs.Rules.{Terms, Allows, NoneServes, state}
use Rattle.hm_class_rules.specs.Stepped.{IsSteppedEntry, listed}
use Rattle.hm_slab_lists.specs.Lists.{Lists}
use Rattle.hm_class.specs.declared.next_slab.NextSlab.{NextSlab}
use Rattle.hm_class.specs.declared.next_slab.NextSlab.TheVariants as next
use Rattle.hm_class.specs.declared.event.Canary.{Canary}
use Rattle.hm_class.specs.declared.event.Event.{Event}
use Rattle.hm_class.specs.Uses.{Numbers, numbers_of, Uses, slab_in, opened_slab, fresh_slab, kind_at, live_count, with_open, taken_uses}
use Rattle.hm_model.specs.Calls.{no_choices, entry_of, no_words}
use Rattle.hm_class.specs.Finds.{Finds, GivesFrom, KeepsRuns, made_page_runs, drawn_canary, canary_stream, start_word, start_from, start_stream}
use Rattle.hm_class.specs.Events.{canary_value, chose_opened, start_draws}
use Rattle.hm_class.specs.Sources.{new_of, front_of}
use Rattle.hm_class.specs.Region.{HoldsSlabs}
use Rattle.hm_class.specs.declared.identity.Identity.{Identity}
use Rattle.hm_class.specs.declared.store.Store.{Store}
use Rattle.hm_class.specs.Kept.{Shows, AreFull, IsKept, terms_in, cells_of}
use Rattle.hm_class.proofs.Allotted.{IsToServe, kept_serve}
use Rattle.hm_class.proofs.Drawn.{stepped_open, stepped_new, after_open, after_new, start_draws_are}
use Rattle.hm_class.proofs.Filing.{Stands, still_shut, same_full, opened_partial, opened_empty, opened_shut, opened_stands, opened_then_partial, opened_then_empty, opened_are_full}
use Rattle.hm_class.proofs.Followed.{shows_count}
use Rattle.std.proofs.lemmas.Option.{none-some, same_Some}
use Rattle.hm_class.proofs.Listed.{next_undrawn, stepped_undrawn, same_cells}
use Rattle.hm_class.proofs.Paged.{holds_made}
use Rattle.hm_class_rules.proofs.Changes.{opened_live}
use Rattle.hm_class.proofs.Permitted.{IsServing, allowed_of, open_place}
use Rattle.hm_class.proofs.Shown.{kind_is, kind_shut}
use Rattle.hm_class.proofs.Used.{some_slab, live_opened, slab_old, slab_beside}
use Rattle.hm_class.proofs.Served.{unopened_is, then_items, can_open, is_new, serving, serving_open, opened_shows, opened_serves, opened_open}
use Rattle.hm_class.proofs.Entries.{pushed, stands_now, loose_now, sound_now, allows_now, no_draws_are}

-- ---- what an opened slab leaves
no_canary : (b : Bool) → false ≡ (b && false)
no_canary true = refl
no_canary false = refl

canary_there : (p : Shape) (stream : Words) → is_some (canary_value (drawn_canary p stream)) ≡ (has_bytes p && true)
canary_there p stream = of (has_bytes p)
  where
    of : (b : Bool) → is_some (canary_value (cond {A = Option Canary} b (Some (record { low = next_word stream; high = next_word (after_word stream); canary = canary_of (next_word stream) (next_word (after_word stream)) })) None)) ≡ (b && true)
    of true = refl
    of false = refl

new_shut : (p : Shape) (l : List ℕ) (s : State) → s.shut ≡ l → still_shut l ≡ (taken_new p l s).shut
new_shut p [] s e = sym e
new_shut p (m ∷ ms) s e = refl

shut_after : (p : Shape) (s : State) → still_shut s.shut ≡ (taken_new p s.shut s).shut
shut_after p s = new_shut p s.shut s refl

-- the slabs beside the one that was opened
fresh_is : (limit next n : ℕ) → unopened_below limit [] next ≡ Some n → n ≡ next
fresh_is limit next n e = of (nat_lt next limit) e
  where
    of : (b : Bool) → cond b (Some next) None ≡ Some n → n ≡ next
    of true e = sym (same_Some next n e)
    of false e = absurd (none-some n e)

taken_beside : (q : Numbers) (l : List ℕ) (all : Uses) (n m : ℕ) → unopened_below q.limit l (length all) ≡ Some n → m ≢ n → slab_in (taken_uses q l all) m ≡ slab_in all m
taken_beside q [] all n m is ne = slab_old q.guard_interval all (fresh_slab q.slots) m (λ e. ne (e ∙ sym (fresh_is q.limit (length all) n is)))
taken_beside q (x ∷ xs) all n m is ne = refl

opened_beside : (q : Numbers) (l : List ℕ) (all : Uses) (n canary m : ℕ) → unopened_below q.limit l (length all) ≡ Some n → is_some (slab_in (taken_uses q l all) n) ≡ true → m ≢ n
    → slab_in (with_open (taken_uses q l all) n canary) m ≡ slab_in all m
opened_beside q l all n canary m is there ne =
    let b = some_slab (slab_in (taken_uses q l all) n) there in
    slab_beside (taken_uses q l all) n (opened_slab canary) b.0 b.1 m ne ∙ taken_beside q l all n m is ne

first_is_shut : (limit next n : ℕ) (l : List ℕ) → unopened_below limit l next ≡ Some n → (m : ℕ) (ms : List ℕ) → l ≡ m ∷ ms → m ≡ n
first_is_shut limit next n l is m ms e = same_Some m n (ap (λ (l : List ℕ). unopened_below limit l next) (sym e) ∙ is)

-- the pages as an allotment begins, once a slab was found, and as it ends
pub record IsAllotment {P : Type 0} (meaning : pages.Ghosts P) (told : Bool) (runs : PageRuns) (faults : ℕ) (region : Identity) (begun mid now : P) (asked : ℕ) : Type 0 where
  pub told_begun : meaning.told begun ≡ told
  pub told_mid : meaning.told mid ≡ meaning.told begun
  pub runs_begun : meaning.runs begun ≡ runs
  pub count : meaning.faults begun ≡ faults
  pub same : meaning.faults now ≡ meaning.faults mid
  pub asks : raised asked ≤ class_size_of region.shape

module _ {told : Bool} {owner : Option ℕ} {runs : PageRuns} {faults : ℕ} {region : Identity} {es : List Entry} {store : Store}
    (kept : IsKept told owner runs faults region es store)
    {P : Type 0} {meaning : pages.Ghosts P} {begun mid now : P} {asked : ℕ} (allotment : IsAllotment meaning told runs faults region begun mid now asked)
    (store₁ store' : Store) (who : Who) where
  abbrev first : State
  first = state (terms_in told region) es

  abbrev Ends : Event → Type 0
  Ends e = IsKept told owner (meaning.runs now) (meaning.faults now) region (es ++ entry_of who (Allot asked 1) e.reply e.choices e.draws (meaning.faults begun) (meaning.faults now) ∷ []) store'

  tell : IsTrue told → IsTrue (meaning.told mid)
  tell y = allotment.told_mid ∙ allotment.told_begun ∙ y

  -- no slab was found: an entry that draws nothing
  unserved : (answer : Reply) → event_of (Allot asked 1) answer ≡ Undrawn → Allows (terms_in told region) first (meaning.faults begun) (meaning.faults now) no_choices (Allot asked 1) answer → meaning.faults begun ≤ meaning.faults now
      → step region.shape first (entry_of who (Allot asked 1) answer no_choices no_words (meaning.faults begun) (meaning.faults now)) ≡ record first { faults = meaning.faults now }
      → (IsTrue told → meaning.runs now ≡ runs) → KeepsRuns meaning store store₁ begun mid → KeepsRuns meaning store₁ store' mid now
      → IsKept told owner (meaning.runs now) (meaning.faults now) region (es ++ entry_of who (Allot asked 1) answer no_choices no_words (meaning.faults begun) (meaning.faults now) ∷ []) store'
  unserved answer undrawn allows later after page_runs_same q w =
      let items : store'.slabs.slabs ≡ store.slabs.slabs = w.slabs ∙ q.slabs in
      let lists : store'.slabs.lists ≡ store.slabs.lists = w.lists.lists ∙ q.lists.lists in
      let t : Terms = terms_in told region in
      let e : Entry = entry_of who (Allot asked 1) answer no_choices no_words (meaning.faults begun) (meaning.faults now) in
      let s' : State = record first { faults = meaning.faults now } in
      let shows' : Shows region.shape store.slabs.slabs (step region.shape first e) = subst (λ (s : State). Shows region.shape store.slabs.slabs s) (sym after) (shows_count region.shape store.slabs.slabs first (meaning.faults now) kept.follows.shows) in
      pushed kept store' e
      (allowed_of (Allot asked 1) answer no_choices no_words no_draws_are (allotment.asks, refl) (allotment.count ∙ kept.count) later allows)
      (stepped_undrawn t (cells_of first store) e undrawn refl refl) refl
      (record {
        shows = subst (λ (u : Uses). Shows region.shape u (step region.shape first e)) (sym items) shows';
        shut = ap (λ (l : Lists). l.retired) lists ∙ kept.follows.shut ∙ ap (λ (s : State). s.shut) (sym after);
        full = same_full store.slabs.slabs store'.slabs.slabs store.slabs.lists.full store'.slabs.lists.full items (ap (λ (l : Lists). l.full) lists) kept.follows.full;
        numbers = w.lists.numbers ∙ q.lists.numbers ∙ kept.follows.numbers;
        live_all = omega (arith, kept.follows.live_all, ap live_count items, ap (λ (s : State). length s.live) after);
      })
      (λ y. subst (λ (s : State). HoldsSlabs region.shape s.opens (meaning.runs now)) (sym after) (subst (λ (r : PageRuns). HoldsSlabs region.shape first.opens r) (sym (page_runs_same y)) (kept.slabs y)))
      (next_undrawn t first store e region.served.shape undrawn refl kept.follows.shows shows'
      ∙ same_cells (step region.shape first e) (sym (w.stream_same ∙ q.stream_same)) (ap (λ (l : Lists). l.partial) (sym lists)) (ap (λ (l : Lists). l.empty) (sym lists))
      (sym (w.quarantine_same ∙ q.quarantine_same)) (sym (w.lists.parking ∙ q.lists.parking)))

  none_serves : front_of store.slabs ≡ None → NoneServes region.shape first
  none_serves e = (allows_now kept).no_source e

  next_new : (o : Option ℕ) → new_of store.slabs ≡ o → unopened region.shape first.shut first.next ≡ o
  next_new o e = ap (λ (l : List ℕ). unopened region.shape l first.next) (sym kept.follows.shut) ∙ ap (λ (m : ℕ). unopened region.shape store.slabs.lists.retired m) kept.follows.shows.next ∙ unopened_is region.shape store.slabs o kept.follows.numbers e

  runs_as : (x : P) → (IsTrue (meaning.told begun) → meaning.runs x ≡ meaning.runs begun) → IsTrue told → meaning.runs x ≡ runs
  runs_as x e y = e (allotment.told_begun ∙ y) ∙ allotment.runs_begun

  pub kept_allotted : (n : NextSlab) (e : Event) → Finds meaning store store₁ begun mid region.shape n → GivesFrom meaning store₁ store' mid now region n e → Ends e
  kept_allotted next.Exhausted e f v =
      let q = f.1.0 in
      let w = v.1.0 in
      subst (λ (x : Event). Ends x) (sym v.0)
      (unserved reply.Exhausted refl (none_serves f.0.0, next_new None f.0.1, refl) (omega (arith, allotment.same, f.1.1)) refl
      (λ y. w.page_runs_same (tell y) ∙ runs_as mid q.page_runs_same y) q w)
  kept_allotted next.PagesFailed e f v =
      let q = f.2 in
      let w = v.1.0 in
      subst (λ (x : Event). Ends x) (sym v.0)
      (unserved reply.PagesFailed refl (none_serves f.1.0, ap (λ (o : Option ℕ). is_some o) (next_new (Some f.0) f.1.1), f.3, omega (arith, allotment.same, f.4), refl) (omega (arith, allotment.same, f.4)) refl
      (λ y. w.page_runs_same (tell y) ∙ runs_as mid q.page_runs_same y) q w)
  kept_allotted (next.Open n) e f v =
      let t : Terms = terms_in told region in
      let q = f.1.0 in
      let on = serving_open kept n f.0 in
      let at = open_place region.shape first n 0 (sound_now kept) on (omega (arith, region.served.shape.slots_some)) in
      subst (λ (x : Choices). Ends (record { reply = e.reply; choices = x; draws = e.draws })) (sym v.1)
      (subst (λ (x : Draws). Ends (record { reply = e.reply; choices = no_choices; draws = x })) (sym v.2)
      (let ready : IsToServe meaning told faults region es store mid now store₁ store' n (kind_at store₁.slabs.slabs n) no_choices (start_draws None (start_word region.config store₁.stream)) who asked (meaning.faults begun) (meaning.faults now) (kind_at store₁.slabs.slabs n) = record {
        tell = tell;
        asks = allotment.asks;
        is = allotment.count;
        later = (omega (arith, allotment.same, f.1.1));
        serves = (subst (λ (u : Uses). IsServing u n) (sym q.slabs) (serving kept n f.0));
        below = at.below;
        no_guard = at.no_guard;
        on = on;
        shows = (subst (λ (u : Uses). Shows region.shape u first) (sym q.slabs) kept.follows.shows);
        slabs = (λ y. subst (λ (r : PageRuns). HoldsSlabs region.shape first.opens r) (sym (runs_as mid q.page_runs_same y)) (kept.slabs y));
        live_all = (omega (arith, kept.follows.live_all, ap live_count q.slabs));
        shut = (ap (λ (l : Lists). l.retired) q.lists.lists ∙ kept.follows.shut);
        stands = (subst (λ (l : Lists). Stands l n (kind_at store₁.slabs.slabs n)) (sym q.lists.lists) (subst (λ (u : Uses). Stands store.slabs.lists n (kind_at u n)) (sym q.slabs)
            (stands_now kept n on)));
        full = (same_full store.slabs.slabs store₁.slabs.slabs store.slabs.lists.full store₁.slabs.lists.full q.slabs (ap (λ (l : Lists). l.full) q.lists.lists) kept.follows.full);
        numbers = (q.lists.numbers ∙ kept.follows.numbers);
        partial = (λ after. ap (λ (l : Lists). listed Partial n (kind_at store₁.slabs.slabs n) after l.partial) q.lists.lists);
        empty = (λ after. ap (λ (l : Lists). listed Empty n (kind_at store₁.slabs.slabs n) after l.empty) q.lists.lists);
        was_kind = (kind_is region.shape store.slabs.slabs first n region.served.shape kept.follows.shows ∙ ap (λ (u : Uses). kind_at u n) (sym q.slabs));
        are = (start_draws_are None (start_word region.config store₁.stream));
        taken = (subst (λ (x : Words). after_words store.stream (start_draws None (start_word region.config x)).used ≡ start_stream region.config x) (sym q.stream_same) (after_open region.config store.stream));
        quarantine = q.quarantine_same;
        parking = q.lists.parking;
        source = ((allows_now kept).source n f.0);
        has_canary = (no_canary (has_bytes region.shape));
        chosen = refl;
        stepped = (λ a slab here answer picks. subst (λ (x : Words). IsSteppedEntry t (cells_of first store) (entry_of who (Allot asked 1) answer no_choices (start_draws None (start_word region.config x)) (meaning.faults begun) (meaning.faults now))) (sym q.stream_same)
            (stepped_open t (cells_of first store) who asked answer refl picks slab
            (subst (λ (x : Words). first_free region.shape first n (start_from region.config region.shape x) ≡ Some a) q.stream_same here) f.0));
      } in
      kept_serve kept ready e.reply v.0))
  kept_allotted (next.New n canary) e f v =
      let t : Terms = terms_in told region in
      let q = f.1 in
      let cv : Option ℕ = canary_value canary in
      let fresh = is_new kept n f.0.1 in
      let s₁ : State = opened region.shape (Some n) cv first in
      let uses₁ : Uses = with_open (taken_uses (numbers_of region.shape) first.shut store.slabs.slabs) n (unwrap_or cv 0) in
      let items : store₁.slabs.slabs ≡ uses₁ = then_items kept n cv f.0.1 store₁.slabs q.opened.slabs in
      let shut : List ℕ = store.slabs.lists.retired in
      let loose = loose_now kept n fresh.off in
      let there : is_some (slab_in (taken_uses store.slabs.numbers shut store.slabs.slabs) n) ≡ true = (can_open kept meaning begun allotment.told_begun allotment.runs_begun n f.0.1).there in
      let shows₁ : Shows region.shape uses₁ s₁ = opened_shows kept n cv f.0.1 in
      subst (λ (x : Choices). Ends (record { reply = e.reply; choices = x; draws = e.draws })) (sym v.1)
      (subst (λ (x : Draws). Ends (record { reply = e.reply; choices = chose_opened n canary; draws = x })) (sym v.2)
      (let ready : IsToServe meaning told faults region es store mid now store₁ store' n Neither (chose_opened n canary) (start_draws canary (start_word region.config store₁.stream)) who asked (meaning.faults begun) (meaning.faults now) Empty = record {
        tell = tell;
        asks = allotment.asks;
        is = allotment.count;
        later = (omega (arith, allotment.same, q.later));
        serves = (subst (λ (u : Uses). IsServing u n) (sym items) (opened_serves kept n cv f.0.1));
        below = fresh.below;
        no_guard = fresh.no_guard;
        on = (opened_open kept n cv f.0.1);
        shows = (subst (λ (u : Uses). Shows region.shape u s₁) (sym items) shows₁);
        slabs = (λ y. subst (λ (r : PageRuns). HoldsSlabs region.shape s₁.opens r) (sym (q.made (allotment.told_begun ∙ y) ∙ ap (λ (r : PageRuns). made_page_runs region.shape n r) allotment.runs_begun)) (holds_made region.shape first.opens n (unwrap_or cv 0) runs region.served.shape (kept.slabs y)));
        live_all = (omega (arith, kept.follows.live_all, ap live_count items, live_opened (numbers_of region.shape) first.shut store.slabs.slabs n (unwrap_or cv 0) fresh.there, ap (λ (l : List (ℕ × ℕ)). length l) (opened_live region.shape (Some n) cv first)));
        shut = (ap (λ (l : Lists). l.retired) q.opened.lists ∙ opened_shut store.slabs.lists n loose shut refl (first_is_shut store.slabs.numbers.limit (length store.slabs.slabs) n shut f.0.1)
            ∙ ap (λ (l : List ℕ). still_shut l) kept.follows.shut ∙ shut_after region.shape first);
        stands = (subst (λ (l : Lists). Stands l n Empty) (sym q.opened.lists) (opened_stands store.slabs.lists n loose shut (λ e. e)));
        full = (subst (λ (l : Lists). AreFull store₁.slabs.slabs l.full) (sym q.opened.lists) (opened_are_full store.slabs.slabs store₁.slabs.slabs store.slabs.lists n shut loose kept.follows.full
            (λ m ne. ap (λ (u : Uses). slab_in u m) q.opened.slabs ∙ opened_beside store.slabs.numbers shut store.slabs.slabs n (unwrap_or cv 0) m f.0.1 there ne)));
        numbers = (q.opened.numbers ∙ kept.follows.numbers);
        partial = (λ after. ap (λ (l : Lists). listed Partial n Empty after l.partial) q.opened.lists ∙ ap (λ (l : List ℕ). listed Partial n Empty after l) (opened_partial store.slabs.lists n loose shut)
            ∙ opened_then_partial n after store.slabs.lists.partial);
        empty = (λ after. ap (λ (l : Lists). listed Empty n Empty after l.empty) q.opened.lists ∙ ap (λ (l : List ℕ). listed Empty n Empty after l) (opened_empty store.slabs.lists n loose shut)
            ∙ opened_then_empty n after store.slabs.lists.empty loose.empty);
        was_kind = (kind_shut region.shape first n region.served.shape fresh.off);
        are = (start_draws_are canary (start_word region.config store₁.stream));
        taken = (subst (λ (x : Words). after_words store.stream (start_draws canary (start_word region.config x)).used ≡ start_stream region.config x) (sym q.stream_is)
            (subst (λ (x : Option Canary). after_words store.stream (start_draws x (start_word region.config (canary_stream region.shape store.stream))).used ≡ start_stream region.config (canary_stream region.shape store.stream)) (sym q.canary_is) (after_new region.config region.shape store.stream)));
        quarantine = q.quarantine_same;
        parking = q.opened.parking;
        source = (refl, none_serves f.0.0, next_new (Some n) f.0.1);
        has_canary = (ap (λ (x : Option Canary). is_some (canary_value x)) q.canary_is ∙ canary_there region.shape store.stream);
        chosen = refl;
        stepped = (λ a slab here answer picks.
            subst (λ (x : Words). IsSteppedEntry t (cells_of first store) (entry_of who (Allot asked 1) answer (chose_opened n canary) (start_draws canary (start_word region.config x)) (meaning.faults begun) (meaning.faults now))) (sym q.stream_is)
            (subst (λ (x : Option Canary). IsSteppedEntry t (cells_of first store) (entry_of who (Allot asked 1) answer (chose_opened n x) (start_draws x (start_word region.config (canary_stream region.shape store.stream))) (meaning.faults begun) (meaning.faults now))) (sym q.canary_is)
            (stepped_new t (cells_of first store) who asked answer refl picks slab
            (subst (λ (x : Option Canary). first_free region.shape (opened region.shape (Some n) (canary_value x) first) n (start_from region.config region.shape (canary_stream region.shape store.stream)) ≡ Some a) q.canary_is
            (subst (λ (x : Words). first_free region.shape s₁ n (start_from region.config region.shape x) ≡ Some a) q.stream_is here)))));
      } in
      kept_serve kept ready e.reply v.0))
