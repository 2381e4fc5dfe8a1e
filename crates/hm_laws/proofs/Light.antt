-- What holds of slots where reuse is not checked.
use Rattle.std.proofs.Common.{◌≡◌, ◌⊎◌, inl, inr, ℕ, zero, suc, ◌+◌, ◌-◌, ◌*◌, ◌<◌, ◌≤◌, Bool, true, false, cond, List, [], ◌∷◌, ◌++◌, length, Option, Some, None, is_some, unwrap_or, sym, ◌∙◌, ap, subst, refl, arith, append_assoc, true≢false}
use Rattle.std.specs.Prelude.{slice_get}
use Rattle.std.specs.List.{AllByRecursion as EachIs}
use Rattle.std.specs.Int.{to_le_bytes}
use mir.Syntax.{w64}
use Rattle.std.proofs.lemmas.Option.{none-some, same_Some}
use Rattle.hm_base.specs.Lists.{zeros}
use Rattle.hm_outside.specs.declared.pages.Pages as pages
use Rattle.hm_model.specs.declared.entry.Call.{Call}
use Rattle.hm_model.specs.declared.entry.Call.TheVariants.{Allot, GiveBack, Measure, Fetch, Fill}
use Rattle.hm_model.specs.declared.entry.Choices.{Choices}
use Rattle.hm_model.specs.declared.entry.Entry.{Entry}
use Rattle.hm_model.specs.declared.entry.Reply.{Reply}
use Rattle.hm_model.specs.declared.entry.Reply.TheVariants.{Overwritten}
use Rattle.hm_model.specs.Calls.{IsFreedAt}
use Rattle.hm_model.specs.Machine.{Legal_split, state_push}
use Rattle.hm_model.specs.Maps.{at, removed}
use Rattle.hm_model.proofs.Lists.{same_eq}
use Rattle.hm_sizes.proofs.PlaceTest.{place_is, slot_row}
use Rattle.hm_sizes.specs.declared.shape.Shape.{Shape}
use Rattle.hm_sizes.specs.Origins.{Origin}
use Rattle.hm_sizes.specs.Shapes.{IsPlaceOf, has_bytes, slab_at, slab_of, slot_of, usable}
use Rattle.hm_class_rules.specs.Bytes.{byte_at, kept_canary}
use Rattle.hm_class_rules.specs.Laws.{IsWrittenSince, written_at}
use Rattle.hm_class_rules.specs.State.{State, Slab, start}
use Rattle.hm_class_rules.specs.Steps.{opened, new_slab, gives, changed, step}
use Rattle.hm_class_rules.proofs.Legal.{picked_place}
use Rattle.hm_class_rules.proofs.Whole.{over, at_over}
use Rattle.hm_class_rules.proofs.Written.{written_place}
use Rattle.hm_class_rules.proofs.Zeroed.{byte_in, opens_some, overlaid_before, some_usable}
use Rattle.hm_heap.specs.ClassRules as class
use Rattle.hm_heap.specs.LargeRules as large
use Rattle.hm_heap.specs.Lawful.{class_terms, large_terms}
use Rattle.hm_heap.specs.declared.close.Closed.{Closed}
use Rattle.hm_large_rules.specs.State as block_state
use Rattle.hm_large_rules.specs.Steps as block_steps
use Rattle.hm_run.specs.declared.words.Options.{Options}
use Rattle.hm_run.specs.Laws.{class_rules}
use Rattle.hm_run.specs.Replayed.{origin_at}
use Rattle.hm_run.proofs.Outcomes.{is_region}
use Rattle.hm_laws.specs.Light.{TellsNoOverwrite, GivenAsLeft, FreedAsZero}
use Rattle.hm_laws.proofs.Regions.{by_kind, class_shape, class_legal, large_legal}

-- ---- no overwrite is told
no_overwrite : (t : class.Terms) (s : State) (before now : ℕ) (c : Choices) (call : Call) (a place found : ℕ) → t.config.check_reuse ≡ false
    → class.Allows t s before now c call (Overwritten a place found) → ⊥
no_overwrite t s before now c (Allot asked align) a place found off allows = true≢false (sym allows.1 ∙ off)
no_overwrite t s before now c (GiveBack b stated) a place found off allows = absurd allows
no_overwrite t s before now c (Measure b) a place found off allows = absurd allows
no_overwrite t s before now c (Fetch b len) a place found off allows = absurd allows
no_overwrite t s before now c (Fill b runs) a place found off allows = absurd allows

none_large : (t : large.Terms) (s : block_state.State) (e : Entry) (call : Call) (a place found : ℕ) → large.Allows t s e call (Overwritten a place found) → ⊥
none_large t s e (Allot asked align) a place found allows = absurd allows
none_large t s e (GiveBack b stated) a place found allows = absurd allows
none_large t s e (Measure b) a place found allows = absurd allows
none_large t s e (Fetch b len) a place found allows = absurd allows
none_large t s e (Fill b runs) a place found allows = absurd allows

-- ---- zero bytes
zero_get : (n j : ℕ) → j < n → slice_get (zeros n) j ≡ Some 0
zero_get zero j lt = absurd (omega (arith, lt))
zero_get (suc n) zero lt = refl
zero_get (suc n) (suc j) lt = zero_get n j (omega (arith, lt))

has_some : (p : Shape) (k : ℕ) → k < usable p → has_bytes p ≡ true
has_some p k lt = elim (has_bytes p) as (λ b. k < cond b (p.slot - 8) 0 → b ≡ true) [ true ↦ λ h. refl | false ↦ λ h. absurd (omega (arith, h)) ] lt

-- byte r of slab n once one was opened, if need be, is as it was, or that of a new slab
left : (p : Shape) (s : State) (o canary : Option ℕ) (n r q : ℕ) (b : Slab) → has_bytes p ≡ true → q ≡ slab_at p n + r → r < p.slab → class.Source p s o n
    → at n (opened p o canary s).opens ≡ Some b → slice_get b.bytes r ≡ cond (is_some o) (Some 0) (byte_at p s q)
left p s None canary n r q b some is lt source on = sym (byte_in p s n r q b is lt on)
left p s (Some m) canary n r q b some is lt source on =
    let slab : Slab = new_slab p (unwrap_or canary 0) in
    let first : ◌≡◌ {A = Option Slab} (Some slab) (Some b) =
    sym (ap (λ (t : Bool). cond t (Some slab) (at n (removed m s.opens))) (same_eq m n (sym source.0))) ∙ on in
    ap (λ (x : Slab). slice_get x.bytes r) (sym (same_Some slab b first))
    ∙ ap (λ (t : Bool). slice_get (cond t (zeros p.slab) []) r) some
    ∙ zero_get p.slab r lt

-- ---- the last entry
abbrev tail_of : List Entry → List Entry
tail_of [] = []
tail_of (x ∷ l) = l

abbrev head_of : Entry → List Entry → Entry
head_of d [] = d
head_of d (x ∷ l) = x

-- where a list that ends with e goes on with f and some more, e is f, or ends those
last_is : (xs ys l : List Entry) (e f : Entry) → xs ++ e ∷ [] ≡ ys ++ f ∷ l → ((f ≡ e) × (l ≡ [])) ⊎ ((rest : List Entry) × (l ≡ rest ++ e ∷ []))
last_is [] [] l e f same = inl (sym (ap (head_of e) same), sym (ap tail_of same))
last_is (x ∷ xs) [] l e f same = inr (xs, sym (ap tail_of same))
last_is [] (y ∷ ys) l e f same = absurd (none_behind ys (ap tail_of same))
  where
    none_behind : (ys : List Entry) → [] ≡ ys ++ f ∷ l → ⊥
    none_behind [] is = no_more (ap (λ (m : List Entry). length m) is)
      where
        no_more : 0 ≡ length (f ∷ l) → ⊥
        no_more is = omega (arith, is)
    none_behind (z ∷ zs) is = no_more (ap (λ (m : List Entry). length m) is)
      where
        no_more : 0 ≡ length (z ∷ (zs ++ f ∷ l)) → ⊥
        no_more is = omega (arith, is)
last_is (x ∷ xs) (y ∷ ys) l e f same = last_is xs ys l e f (ap tail_of same)

each_last : (Q : Entry → Type 0) (l : List Entry) (e : Entry) → EachIs Q (l ++ e ∷ []) → Q e
each_last Q [] e each = each.0
each_last Q (x ∷ l) e each = each_last Q l e each.1

-- what was just freed was not written since
unwritten : (p : Shape) (before : List Entry) (freed : Entry) (a q x : ℕ) → IsFreedAt freed a → IsWrittenSince p (before ++ freed ∷ []) a q x → ⊥
unwritten p before freed a q x is w =
    by (last_is before (w.before ++ w.opening ∷ w.between) w.later freed w.fill (w.entries ∙ sym (append_assoc w.before (w.opening ∷ w.between) (w.fill ∷ w.later))))
  where
    by : ((w.fill ≡ freed) × (w.later ≡ [])) ⊎ ((rest : List Entry) × (w.later ≡ rest ++ freed ∷ [])) → ⊥
    by (inl last) =
        none-some x (sym (ap (λ (c : Call). written_at c freed.reply q) is.call) ∙ ap (λ (e : Entry). written_at e.call e.reply q) (sym last.0) ∙ w.writes)
    by (inr later) = each_last (λ e. IsFreedAt e a → ⊥) later.0 freed (subst (EachIs (λ e. IsFreedAt e a → ⊥)) later.1 w.no_free) is

module _ {P : Type 0} (meaning : pages.Ghosts P) (o : Options) (closed : Closed P) (index : ℕ) (p : P) where
  abbrev r : Origin
  r = origin_at meaning o index p

  pub tells_no_overwrite : TellsNoOverwrite meaning o closed index p
  tells_no_overwrite before e a place found begins off reply =
      by_kind r {P = ⊥} (is_region meaning o closed index p (before ++ e ∷ []) begins)
      (λ lt. let t : class.Terms = class_terms r in
      let last = (Legal_split (step t.shape) (class.Allowed t) start before (e ∷ []) (class_legal meaning o closed index p (before ++ e ∷ []) begins lt)).1.0 in
      no_overwrite t (class.state t before) e.faults_before e.faults_after e.choices e.call a place found off
      (subst (λ (y : Reply). class.Allows t (class.state t before) e.faults_before e.faults_after e.choices e.call y) reply last.allows))
      (λ is. let t : large.Terms = large_terms r in
      let last = (Legal_split block_steps.step (large.Allowed t) block_state.start before (e ∷ []) (large_legal meaning o closed index p (before ++ e ∷ []) begins is)).1.0 in
      none_large t (large.state t before) e e.call a place found
      (subst (λ (y : Reply). large.Allows t (large.state t before) e e.call y) reply last.allows))

  pub given_as_left : GivenAsLeft meaning o closed index p
  given_as_left before g a k begins is lt =
      let t : class.Terms = class_rules meaning o closed index p in
      let shape = class_shape meaning o closed index p (before ++ g ∷ []) begins.begins begins.class in
      let legal = class_legal meaning o closed index p (before ++ g ∷ []) begins.begins begins.class in
      let s : State = class.state t before in
      let c : Choices = g.choices in
      let allows : class.AllowsGiven t s c a is.size =
      subst (λ (y : Reply). class.Allows t s g.faults_before g.faults_after c (Allot is.asked is.align) y) is.reply
      (subst (λ (y : Call). class.Allows t s g.faults_before g.faults_after c y g.reply) is.call (Legal_split (step t.shape) (class.Allowed t) start before (g ∷ []) legal).1.0.allows) in
      let now : State = opened t.shape c.opened c.canary s in
      let n : ℕ = slab_of t.shape a in
      let at_place = picked_place t.shape s now c a allows.0 in
      let i : ℕ = slot_of t.shape a * t.shape.slot in
      let fit = some_usable t.shape k (omega (arith, shape.slot_least)) lt in
      let inside : i + t.shape.slot ≤ t.shape.slab = omega (arith, slot_row t.shape.slot (slot_of t.shape a) t.shape.slots at_place.slot, shape.slots_fit) in
      let on = opens_some now.opens n allows.0.open_slab in
      let b : Slab = on.0 in
      let w : List ℕ = to_le_bytes w64 (kept_canary t.shape now a) in
      let s' : State = record (gives t.shape a is.asked now) { faults = g.faults_after } in
      let here : a + k ≡ slab_at t.shape n + (i + k) = omega (arith, at_place.is) in
      let whole : i + k < t.shape.slab = omega (arith, inside, lt, fit.1) in
      let same : class.state t (before ++ g ∷ []) ≡ s' =
      state_push (step t.shape) (class.Allowed t) start before g
      ∙ ap (λ (x : Call). record (changed t.shape c x g.reply s) { faults = g.faults_after }) is.call
      ∙ ap (λ (y : Reply). record (changed t.shape c (Allot is.asked is.align) y s) { faults = g.faults_after }) is.reply in
      ap (λ (x : State). byte_at t.shape x (a + k)) same
      ∙ byte_in t.shape s' n (i + k) (a + k) (over t.shape (a + usable t.shape) w n b) here whole (at_over t.shape (a + usable t.shape) w n now.opens b on.1)
      ∙ overlaid_before (a + usable t.shape) w (slab_at t.shape n) (i + k) b.bytes (omega (arith, at_place.is, lt))
      ∙ left t.shape s c.opened c.canary n (i + k) (a + k) b (has_some t.shape k lt) here whole allows.0.source on.1

  pub freed_as_zero : FreedAsZero meaning o closed index p
  freed_as_zero before freed a k zero begins is lt there = refl
  freed_as_zero before freed a k (suc x) begins is lt there =
      let t : class.Terms = class_rules meaning o closed index p in
      let legal = class_legal meaning o closed index p (before ++ freed ∷ []) begins.begins begins.class in
      let s : State = class.state t before in
      let allows : class.AllowsFreed t s freed.faults_before freed.faults_after freed.choices a is.stated =
      subst (λ (y : Reply). class.Allows t s freed.faults_before freed.faults_after freed.choices (GiveBack a is.stated) y) is.reply
      (subst (λ (y : Call). class.Allows t s freed.faults_before freed.faults_after freed.choices y freed.reply) is.call (Legal_split (step t.shape) (class.Allowed t) start before (freed ∷ []) legal).1.0.allows) in
      let place : IsPlaceOf t.shape a (slab_of t.shape a) (slot_of t.shape a) = place_is t.shape a (slab_of t.shape a) (slot_of t.shape a) allows.block.place in
      absurd (unwritten t.shape before freed a (a + k) (suc x) is
      (written_place t (before ++ freed ∷ []) (slot_of t.shape a) a k (suc x) (class_shape meaning o closed index p (before ++ freed ∷ []) begins.begins begins.class) legal place lt there (omega arith)))
