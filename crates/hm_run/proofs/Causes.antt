-- What an allowed entry refuses has its cause, and where the cause holds nothing else is answered.
use Rattle.std.proofs.Common.{◌≡◌, ℕ, Bool, true, false, cond, List, [], ◌∷◌, length, Option, Some, None, is_some, unwrap_or, refl, sym, ◌∙◌, ap, subst, true≢false}
use Rattle.std.specs.Prelude.{◌↔◌, IsTrue, ◌==◌, option_map}
use Rattle.std.specs.List.{list_any}
use Rattle.std.proofs.lemmas.Bool.{not-true, or_left, or_right}
use Rattle.std.proofs.lemmas.Option.{none-some, same_Some}
use mathlib.Core.Logic.{inl, inr}
use Rattle.hm_model.specs.declared.entry.Call.{Call}
use Rattle.hm_model.specs.declared.entry.Call.TheVariants.{Allot, GiveBack, Measure, Fetch, Fill}
use Rattle.hm_model.specs.declared.entry.Choices.{Choices}
use Rattle.hm_model.specs.declared.entry.Entry.{Entry}
use Rattle.hm_model.specs.declared.entry.Reply.{Reply}
use Rattle.hm_model.specs.declared.entry.Reply.TheVariants.{Given, Overwritten, Exhausted, NoSpace, PagesFailed, Freed, NoSlot, Unused, DoubleFree, WrongSize, Canary, Usable, Bytes, Filled, Trap, NotLive}
use Rattle.hm_model.specs.Maps.{at, has, keys}
use Rattle.hm_model.specs.Runs.{expand}
use Rattle.hm_model.proofs.Lists.{eq_same}
use Rattle.hm_heap.specs.ClassRules as class
use Rattle.hm_class_rules.specs.State as class_state
use Rattle.hm_class_rules.specs.State.{Slab}
use Rattle.hm_class_rules.specs.Steps.{opened}
use Rattle.hm_heap.specs.LargeRules as large
use Rattle.hm_large_rules.specs.State as large_state
use Rattle.hm_run.specs.Refusals.{RefusesFree, RefusesMeasure, RefusesAllot, found_in, Traps, RefusesClass, RefusesLargeAllot, RefusesLargeFree, TrapsLarge, RefusesLarge}

-- ---- equations
not_both : (b : Bool) → b ≡ true → b ≡ false → ⊥
not_both b t f = true≢false (sym t ∙ f)

wrong_by : (x y : ℕ × ℕ) → Some x ≡ Some y → WrongSize x.0 x.1 ≡ WrongSize y.0 y.1
wrong_by x y e = ap (λ (p : ℕ × ℕ). WrongSize p.0 p.1) (same_Some x y e)

canary_by : (x y : ℕ × ℕ) → Some x ≡ Some y → Canary x.0 x.1 ≡ Canary y.0 y.1
canary_by x y e = ap (λ (p : ℕ × ℕ). Canary p.0 p.1) (same_Some x y e)

trap_by : (x y : ℕ) → Some x ≡ Some y → Trap x ≡ Trap y
trap_by x y e = ap (λ (q : ℕ). Trap q) (same_Some x y e)

overwritten_by : (b a : ℕ) (x y : ℕ × ℕ) → Some b ≡ Some a → Some x ≡ Some y
    → Overwritten b x.0 x.1 ≡ Overwritten a y.0 y.1
overwritten_by b a x y at e =
    ap (λ (q : ℕ). Overwritten q x.0 x.1) (same_Some b a at)
    ∙ ap (λ (p : ℕ × ℕ). Overwritten a p.0 p.1) (same_Some x y e)

abbrev sizes_of : Reply → Option (ℕ × ℕ)
sizes_of (WrongSize block other) = Some (block, other)
sizes_of (Canary kept found) = Some (kept, found)
sizes_of (Overwritten a offset byte) = Some (offset, byte)
sizes_of reply = None

abbrev trap_of : Reply → Option ℕ
trap_of (Trap q) = Some q
trap_of reply = None

any_key : (f : ℕ → Bool) (n : ℕ) (es : List (ℕ × Slab)) → has n es ≡ true → f n ≡ true → list_any f (keys es) ≡ true
any_key f n [] h is = absurd cc
any_key f n (e ∷ es) h is = by_test (λ has_later. any_key f n es has_later is) (e.0 == n) refl
  where
    by_test : (has n es ≡ true → list_any f (keys es) ≡ true) → (b : Bool) → b ≡ (e.0 == n) → list_any f (keys (e ∷ es)) ≡ true
    by_test later true here = or_left (f e.0) (list_any f (keys es)) (subst (λ (k : ℕ). f k ≡ true) (sym (eq_same e.0 n (sym here))) is)
    by_test later false past =
        or_right (f e.0) (list_any f (keys es)) (later (subst (λ (b : Bool). is_some (cond b (Some e.1) (at n es)) ≡ true) (sym past) h))

-- ---- a class region
module _ (t : class.Terms) (s : class_state.State) where
  free_refused : (before now : ℕ) (c : Choices) (a : ℕ) (stated : Option ℕ) (reply : Reply)
      → class.Allows t s before now c (GiveBack a stated) reply → RefusesFree t s reply a stated
  free_refused before now c a stated NoSlot h = record {
    no_slot = (λ e. h.0, λ is. refl);
    unused = (λ e. absurd cc, λ is. absurd (h.0 is.0));
    double_free = (λ e. absurd cc, λ is. absurd (h.0 is.0));
    wrong_size = λ block other. (λ e. absurd cc, λ is. absurd (h.0 is.0.place));
    canary = λ told kept found. (λ e. absurd cc, λ is. absurd (h.0 is.0.place));
  }
  free_refused before now c a stated Unused h = record {
    no_slot = (λ e. absurd cc, λ is. absurd (is h.0.0));
    unused = (λ e. h.0, λ is. refl);
    double_free = (λ e. absurd cc, λ is. absurd (not_both _ is.1 h.0.1));
    wrong_size = λ block other. (λ e. absurd cc, λ is. absurd (not_both _ is.0.given h.0.1));
    canary = λ told kept found. (λ e. absurd cc, λ is. absurd (not_both _ is.0.given h.0.1));
  }
  free_refused before now c a stated DoubleFree h = record {
    no_slot = (λ e. absurd cc, λ is. absurd (is h.0.0));
    unused = (λ e. absurd cc, λ is. absurd (not_both _ h.0.1 is.1));
    double_free = (λ e. h.0, λ is. refl);
    wrong_size = λ block other. (λ e. absurd cc, λ is. absurd (not_both _ is.0.live h.0.2));
    canary = λ told kept found. (λ e. absurd cc, λ is. absurd (not_both _ is.0.live h.0.2));
  }
  free_refused before now c a stated (WrongSize x y) h = record {
    no_slot = (λ e. absurd cc, λ is. absurd (is h.0.place));
    unused = (λ e. absurd cc, λ is. absurd (not_both _ h.0.given is.1));
    double_free = (λ e. absurd cc, λ is. absurd (not_both _ h.0.live is.2));
    wrong_size = λ block other. (λ e. (h.0, h.1 ∙ ap sizes_of e), λ is. wrong_by (x, y) (block, other) (sym h.1 ∙ is.1));
    canary = λ told kept found. (λ e. absurd cc, λ is. absurd (none-some (x, y) (sym is.1 ∙ h.1)));
  }
  free_refused before now c a stated (Canary x y) h = record {
    no_slot = (λ e. absurd cc, λ is. absurd (is h.0.place));
    unused = (λ e. absurd cc, λ is. absurd (not_both _ h.0.given is.1));
    double_free = (λ e. absurd cc, λ is. absurd (not_both _ h.0.live is.2));
    wrong_size = λ block other. (λ e. absurd cc, λ is. absurd (none-some (block, other) (sym h.1 ∙ is.1)));
    canary = λ told kept found. (λ e. (h.0, h.1, h.3 told ∙ ap sizes_of e), λ is. canary_by (x, y) (kept, found) (sym (h.3 told) ∙ is.2));
  }
  free_refused before now c a stated Freed h = record {
    no_slot = (λ e. absurd cc, λ is. absurd (is h.block.place));
    unused = (λ e. absurd cc, λ is. absurd (not_both _ h.block.given is.1));
    double_free = (λ e. absurd cc, λ is. absurd (not_both _ h.block.live is.2));
    wrong_size = λ block other. (λ e. absurd cc, λ is. absurd (none-some (block, other) (sym h.size ∙ is.1)));
    canary = λ told kept found. (λ e. absurd cc, λ is. absurd (none-some (kept, found) (sym (h.canary told) ∙ is.2)));
  }
  free_refused before now c a stated reply h = absurd h

  measure_refused : (before now : ℕ) (c : Choices) (a : ℕ) (reply : Reply) → class.Allows t s before now c (Measure a) reply → RefusesMeasure t s reply a
  measure_refused before now c a NoSlot h = record {
    no_slot = (λ e. h.0, λ is. refl);
    unused = (λ e. absurd cc, λ is. absurd (h.0 is.0));
    double_free = (λ e. absurd cc, λ is. absurd (h.0 is.0));
  }
  measure_refused before now c a Unused h = record {
    no_slot = (λ e. absurd cc, λ is. absurd (is h.0.0));
    unused = (λ e. h.0, λ is. refl);
    double_free = (λ e. absurd cc, λ is. absurd (not_both _ is.1 h.0.1));
  }
  measure_refused before now c a DoubleFree h = record {
    no_slot = (λ e. absurd cc, λ is. absurd (is h.0.0));
    unused = (λ e. absurd cc, λ is. absurd (not_both _ h.0.1 is.1));
    double_free = (λ e. h.0, λ is. refl);
  }
  measure_refused before now c a (Usable size) h = record {
    no_slot = (λ e. absurd cc, λ is. absurd (is h.0.place));
    unused = (λ e. absurd cc, λ is. absurd (not_both _ h.0.given is.1));
    double_free = (λ e. absurd cc, λ is. absurd (not_both _ h.0.live is.2));
  }
  measure_refused before now c a reply h = absurd h

  -- a source that serves is not wanting
  served : (opens : Option ℕ) (canary : Option ℕ) (n : ℕ) → class.Source t.shape s opens n → class_state.is_open (opened t.shape opens canary s) n ≡ true
      → class.NoneServes t.shape s × (class_state.unopened t.shape s.shut s.next ≡ None) → ⊥
  served None canary n (inl partial) stands none =
      not_both (list_any (class_state.is_partial t.shape s) (keys s.opens)) (any_key (class_state.is_partial t.shape s) n s.opens stands partial) (not-true _ none.0.0)
  served None canary n (inr empty) stands none =
      not_both (list_any (class_state.is_empty t.shape s) (keys s.opens)) (any_key (class_state.is_empty t.shape s) n s.opens stands empty.1) (not-true _ none.0.1)
  served (Some m) canary n source stands none = none-some m (sym none.1 ∙ source.2)

  allot_refused : (before now : ℕ) (c : Choices) (asked align : ℕ) (reply : Reply) → class.Allows t s before now c (Allot asked align) reply
      → RefusesAllot t s c before now reply
  allot_refused before now c asked align (Given b size) h =
      let found : IsTrue t.told → (a : ℕ) → Some b ≡ Some a → found_in t s c a ≡ None =
      λ told a at. subst (λ (q : ℕ). found_in t s c q ≡ None) (same_Some b a at) (h.2 told) in
      record {
        exhausted = (λ e. absurd cc, λ none. absurd (served c.opened c.canary _ h.0.source h.0.open_slab none));
        overwritten = λ told a offset byte at.
            (λ e. absurd cc, λ is. absurd (none-some (offset, byte) (sym (found told a at) ∙ is)));
        given = λ told a at. (λ e. found told a at, λ is. (size, ap (λ (q : ℕ). Given q size) (same_Some b a at)));
        page_fault = λ e. absurd cc;
      }
  allot_refused before now c asked align (Overwritten b x y) h =
      let found : IsTrue t.told → (a : ℕ) → Some b ≡ Some a → found_in t s c a ≡ Some (x, y) =
      λ told a at. subst (λ (q : ℕ). found_in t s c q ≡ Some (x, y)) (same_Some b a at) (h.2 told) in
      record {
        exhausted = (λ e. absurd cc, λ none. absurd (served c.opened c.canary _ h.0.source h.0.open_slab none));
        overwritten = λ told a offset byte at. (
          λ e. found told a at ∙ ap sizes_of e,
          λ is. overwritten_by b a (x, y) (offset, byte) at (sym (found told a at) ∙ is),
        );
        given = λ told a at. (λ e. let is = e.1 in absurd cc, λ is. absurd (none-some (x, y) (sym is ∙ found told a at)));
        page_fault = λ e. absurd cc;
      }
  allot_refused before now c asked align Exhausted h = record {
    exhausted = (λ e. (h.0, h.1), λ none. refl);
    overwritten = λ told a offset byte at. absurd (none-some a at);
    given = λ told a at. absurd (none-some a at);
    page_fault = λ e. absurd cc;
  }
  allot_refused before now c asked align PagesFailed h = record {
    exhausted = (λ e. absurd cc, λ none. absurd (not_both _ h.1 (ap (λ (o : Option ℕ). is_some o) none.1)));
    overwritten = λ told a offset byte at. absurd (none-some a at);
    given = λ told a at. absurd (none-some a at);
    page_fault = λ e. (h.0, h.1, h.2, h.3);
  }
  allot_refused before now c asked align reply h = absurd h

  fetch_traps : (before now : ℕ) (c : Choices) (a len : ℕ) (reply : Reply) → IsTrue t.told → class.Allows t s before now c (Fetch a len) reply → Traps t s reply a len
  fetch_traps before now c a len (Bytes runs) told h = λ q. (λ e. absurd cc, λ is. absurd (none-some q (sym (h.1 told).0 ∙ is)))
  fetch_traps before now c a len (Trap x) told h = λ q. (λ e. h.0 told ∙ ap trap_of e, λ is. trap_by x q (sym (h.0 told) ∙ is))
  fetch_traps before now c a len reply told h = absurd h

  fill_traps : (before now : ℕ) (c : Choices) (a : ℕ) (runs : List (ℕ × ℕ)) (reply : Reply) → IsTrue t.told → class.Allows t s before now c (Fill a runs) reply
      → Traps t s reply a (length (expand runs))
  fill_traps before now c a runs Filled told h = λ q. (λ e. absurd cc, λ is. absurd (none-some q (sym (h.0 told) ∙ is)))
  fill_traps before now c a runs (Trap x) told h = λ q. (λ e. h.0 told ∙ ap trap_of e, λ is. trap_by x q (sym (h.0 told) ∙ is))
  fill_traps before now c a runs reply told h = absurd h

  class_refused : (e : Entry) (call : Call) → class.Allows t s e.faults_before e.faults_after e.choices call e.reply → RefusesClass t s e call
  class_refused e (Allot asked align) h = allot_refused e.faults_before e.faults_after e.choices asked align e.reply h
  class_refused e (GiveBack a stated) h = free_refused e.faults_before e.faults_after e.choices a stated e.reply h
  class_refused e (Measure a) h = measure_refused e.faults_before e.faults_after e.choices a e.reply h
  class_refused e (Fetch a len) h = λ told. fetch_traps e.faults_before e.faults_after e.choices a len e.reply told h
  class_refused e (Fill a runs) h = λ told. fill_traps e.faults_before e.faults_after e.choices a runs e.reply told h

  pub refuses_class : (e : Entry) → class.Allowed t s e → RefusesClass t s e e.call
  refuses_class e allowed = class_refused e e.call allowed.allows

-- ---- the large region
module _ (t : large.Terms) (s : large_state.State) where
  large_allot_refused : (e : Entry) (asked align : ℕ) (reply : Reply) → large.Allows t s e (Allot asked align) reply
      → RefusesLargeAllot t s (unwrap_or e.choices.guard 0) e.faults_before e.faults_after reply asked align
  large_allot_refused e asked align (Given a usable) h = record {
    no_space = (λ e. absurd cc, λ none. absurd (none a h.0.0.fits));
    page_fault = λ e. absurd cc;
  }
  large_allot_refused e asked align NoSpace h = record { no_space = (λ e. h.0, λ none. refl); page_fault = λ e. absurd cc }
  large_allot_refused e asked align PagesFailed h = record {
    no_space = (λ e. absurd cc, λ none. absurd (none h.0.0.0 h.0.0.1));
    page_fault = λ e. h.0;
  }
  large_allot_refused e asked align reply h = absurd h

  -- a block that is not live has no wrong size
  size_of_none : (o : Option large_state.Block) (stated : Option ℕ) (p : ℕ × ℕ) → is_some o ≡ false → large.wrong_size o stated ≡ Some p → ⊥
  size_of_none None stated p none e = none-some p e
  size_of_none (Some b) stated p none e = true≢false none

  large_free_refused : (e : Entry) (a : ℕ) (stated : Option ℕ) (reply : Reply) → large.Allows t s e (GiveBack a stated) reply
      → RefusesLargeFree t s e.faults_before e.faults_after reply a stated
  large_free_refused e a stated NotLive h = record {
    not_live = (λ e. h.0, λ is. refl);
    wrong_size = λ block other. (λ e. absurd cc, λ is. absurd (size_of_none (at a s.live) stated (block, other) h.0 is));
    page_fault = λ e. absurd cc;
  }
  large_free_refused e a stated (WrongSize x y) h = record {
    not_live = (λ e. absurd cc, λ is. absurd (size_of_none (at a s.live) stated (x, y) is h.0));
    wrong_size = λ block other. (λ e. h.0 ∙ ap sizes_of e, λ is. wrong_by (x, y) (block, other) (sym h.0 ∙ is));
    page_fault = λ e. absurd cc;
  }
  large_free_refused e a stated PagesFailed h = record {
    not_live = (λ e. absurd cc, λ is. absurd (not_both _ h.0 is));
    wrong_size = λ block other. (λ e. absurd cc, λ is. absurd (none-some (block, other) (sym h.1 ∙ is)));
    page_fault = λ e. (h.0, h.1, h.2);
  }
  large_free_refused e a stated Freed h = record {
    not_live = (λ e. absurd cc, λ is. absurd (not_both _ h.block is));
    wrong_size = λ block other. (λ e. absurd cc, λ is. absurd (none-some (block, other) (sym h.size ∙ is)));
    page_fault = λ e. absurd cc;
  }
  large_free_refused e a stated reply h = absurd h

  size_told : (o : Option large_state.Block) (size : ℕ) → option_map (λ (b : large_state.Block). b.size) o ≡ Some size → is_some o ≡ false → ⊥
  size_told None size e none = none-some size e
  size_told (Some b) size e none = true≢false none

  large_measure_refused : (e : Entry) (a : ℕ) (reply : Reply) → large.Allows t s e (Measure a) reply → (reply ≡ NotLive) ↔ (has a s.live ≡ false)
  large_measure_refused e a NotLive h = (λ e. h.0, λ is. refl)
  large_measure_refused e a (Usable size) h = (λ e. absurd cc, λ is. absurd (size_told (at a s.live) size h.0 is))
  large_measure_refused e a reply h = absurd h

  large_fetch_traps : (e : Entry) (a len : ℕ) (reply : Reply) → IsTrue t.told → large.Allows t s e (Fetch a len) reply → TrapsLarge t s reply a len
  large_fetch_traps e a len (Bytes runs) told h = λ q. (λ e. absurd cc, λ is. absurd (none-some q (sym (h.1 told).0 ∙ is)))
  large_fetch_traps e a len (Trap x) told h = λ q. (λ e. h.0 told ∙ ap trap_of e, λ is. trap_by x q (sym (h.0 told) ∙ is))
  large_fetch_traps e a len reply told h = absurd h

  large_fill_traps : (e : Entry) (a : ℕ) (runs : List (ℕ × ℕ)) (reply : Reply) → IsTrue t.told → large.Allows t s e (Fill a runs) reply
      → TrapsLarge t s reply a (length (expand runs))
  large_fill_traps e a runs Filled told h = λ q. (λ e. absurd cc, λ is. absurd (none-some q (sym (h.0 told) ∙ is)))
  large_fill_traps e a runs (Trap x) told h = λ q. (λ e. h.0 told ∙ ap trap_of e, λ is. trap_by x q (sym (h.0 told) ∙ is))
  large_fill_traps e a runs reply told h = absurd h

  large_refused : (e : Entry) (call : Call) → large.Allows t s e call e.reply → RefusesLarge t s e call
  large_refused e (Allot asked align) h = large_allot_refused e asked align e.reply h
  large_refused e (GiveBack a stated) h = large_free_refused e a stated e.reply h
  large_refused e (Measure a) h = large_measure_refused e a e.reply h
  large_refused e (Fetch a len) h = λ told. large_fetch_traps e a len e.reply told h
  large_refused e (Fill a runs) h = λ told. large_fill_traps e a runs e.reply told h

  pub refuses_large : (e : Entry) → large.Allowed t s e → RefusesLarge t s e e.call
  refuses_large e allowed = large_refused e e.call allowed.allows
