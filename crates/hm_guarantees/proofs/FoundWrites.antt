-- A write to a slot that was freed is found when the slot is picked.
use Rattle.std.proofs.Common.{◌≡◌, ◌≢◌, ℕ, zero, suc, ◌+◌, ◌-◌, ◌*◌, ◌<◌, ◌≤◌, ◌==◌, Bool, true, false, cond, List, [], ◌∷◌, ◌++◌, length, take, drop, replicate, Option, Some, None, is_some, unwrap_or, sym, ◌∙◌, ap, subst, refl, arith, true≢false}
use Rattle.std.specs.Prelude.{slice_get, IsTrue}
use Rattle.std.specs.Int.{to_le_bytes}
use mir.Syntax.{w64}
use Rattle.std.proofs.lemmas.List.{length-replicate}
use Rattle.std.proofs.lemmas.Option.{none-some, same_Some}
use Rattle.hm_base.specs.Lists.{zeros}
use Rattle.hm_model.specs.declared.entry.Entry.{Entry}
use Rattle.hm_model.specs.declared.entry.Call.{Call}
use Rattle.hm_model.specs.declared.entry.Call.TheVariants.{Allot, GiveBack, Fill}
use Rattle.hm_model.specs.declared.entry.Reply.{Reply}
use Rattle.hm_model.specs.declared.entry.Reply.TheVariants.{Given, Overwritten, Freed, Filled}
use Rattle.hm_model.specs.declared.entry.Choices.{Choices}
use Rattle.hm_model.specs.Calls.{IsFreedAt}
use Rattle.hm_model.specs.Machine.{state_after, Legal, Legal_split, state_append}
use Rattle.hm_model.specs.Runs.{expand}
use Rattle.hm_model.proofs.Lists.{other_eq}
use Rattle.hm_sizes.specs.declared.shape.Shape.{Shape}
use Rattle.hm_sizes.specs.Shapes.{IsShape, IsPlaceOf, has_bytes, usable, slab_at, slab_of, slot_of}
use Rattle.hm_sizes.proofs.PlaceTest.{place_is}
use Rattle.hm_class_rules.specs.State.{State, Slab, start, is_open, is_live}
use Rattle.hm_class_rules.specs.Bytes.{usable_bytes, kept_canary, first_nonzero, one_later}
use Rattle.hm_class_rules.specs.Steps.{opened, takes_back, changed, step}
use Rattle.hm_class_rules.specs.Rules.{Terms, Allows, Allowed, Picks, IsLegal, state, reuse_finds}
use Rattle.hm_class_rules.specs.Laws.{IsSound, IsOverwrittenAt, written_at}
use Rattle.hm_class_rules.proofs.Legal.{sound, sound_step, source_new, picked_place}
use Rattle.hm_class_rules.proofs.Sound.{has_times}
use Rattle.hm_class_rules.proofs.Zeroed.{get_take, get_drop, bytes_in}
use Rattle.hm_guarantees.specs.FoundWrites.{KeepsSlab, left_at, IsFirstLeft, TellsWrites, FoundWrites}
use Rattle.hm_guarantees.specs.Given.{GivesNone}
use Rattle.hm_guarantees.specs.KeptBytes.{byte_after}
use Rattle.hm_guarantees.proofs.Bytes.{past_start, over_byte, Holds, hold_write, hold_apart, hold_opened, hold_emptied, holds_at}
use Rattle.hm_guarantees.proofs.FreedSlots.{IsSpent, spent_freed, spent_step}
use Rattle.hm_guarantees.proofs.KeptBytes.{unopened_apart, fits, in_slab, other_slot, live_bytes}
use Rattle.hm_guarantees.proofs.Parts.{split, allows_at}

-- ---- one entry leaves the bytes of a free slot, but for fills
free_changed : (t : Terms) (s : State) (before now : ℕ) (c : Choices) (call : Call) (reply : Reply) (a n i k was mark : ℕ) → IsShape t.shape → IsSound t.shape s → IsPlaceOf t.shape a n i → is_open s n ≡ true → is_live s a ≡ false → k < t.shape.slot
    → Allows t s before now c call reply → ((asked align size : ℕ) → call ≡ Allot asked align → reply ≡ Given a size → ⊥) → ((m : ℕ) → c.retired ≡ Some m → m ≢ n) → ((m : ℕ) → c.purged ≡ Some m → m ≢ n)
    → Holds s.opens n (i * t.shape.slot + k) was mark → Holds (changed t.shape c call reply s).opens n (i * t.shape.slot + k) (unwrap_or (written_at call reply (a + k)) was) mark
free_changed t s before now c (Allot asked align) (Given b size) a n i k was mark shape fit place open_slab dead lt allows none kept whole h =
    let p : Shape = t.shape in
    let s' : State = opened p c.opened c.canary s in
    let ne : b ≢ a = λ same. none asked align size refl (ap (λ (x : ℕ). Given x size) same) in
    hold_apart p (b + usable p) (to_le_bytes w64 (kept_canary p s' b)) s'.opens n (i * p.slot + k) was mark
    (other_slot p a b n i (slab_of p b) (slot_of p b) k (b + usable p) 8 shape place (picked_place p s s' c b allows.0) ne lt (omega arith) (omega (arith, fits p shape)))
    (hold_opened p c.opened c.canary s n (i * p.slot + k) was mark (λ m e. unopened_apart p s m n fit (source_new p s c.opened (slab_of p b) m allows.0.source e) open_slab) h)
free_changed t s before now c (Allot asked align) (Overwritten b at found) a n i k was mark shape fit place open_slab dead lt allows none kept whole h =
    let p : Shape = t.shape in
    hold_opened p c.opened c.canary s n (i * p.slot + k) was mark (λ m e. unopened_apart p s m n fit (source_new p s c.opened (slab_of p b) m allows.0.source e) open_slab) h
free_changed t s before now c (GiveBack b stated) Freed a n i k was mark shape fit place open_slab dead lt allows none kept whole h =
    let p : Shape = t.shape in
    let ne : b ≢ a = λ same. true≢false (sym allows.block.live ∙ ap (λ (x : ℕ). is_live s x) same ∙ dead) in
    let stands = fit.placed b (omega (arith, has_times b s.live allows.block.live)) in
    hold_emptied p c.released c.unparked c.retired c.purged (takes_back p b s) n (i * p.slot + k) was mark (in_slab p a n i k shape place lt) kept whole
    (hold_apart p b (zeros (usable p)) s.opens n (i * p.slot + k) was mark
    (other_slot p a b n i stands.slab stands.slot k b (length (zeros (usable p))) shape place stands.is_place ne lt (omega arith) (omega (arith, length-replicate {A = ℕ} (usable p) 0, fits p shape)))
    h)
free_changed t s before now c (Fill b runs) Filled a n i k was mark shape fit place open_slab dead lt allows none kept whole h =
    hold_write t.shape b (expand runs) s.opens n (i * t.shape.slot + k) (a + k) was mark (omega (arith, place.is)) h
free_changed t s before now c call reply a n i k was mark shape fit place open_slab dead lt allows none kept whole h = h

-- after all entries
free_run : (t : Terms) (s : State) (es : List Entry) (a n i k was mark : ℕ) → IsShape t.shape → IsSound t.shape s → Legal (step t.shape) (Allowed t) s es → IsPlaceOf t.shape a n i → IsSpent t.shape s a → GivesNone a es → KeepsSlab n es → k < t.shape.slot
    → Holds s.opens n (i * t.shape.slot + k) was mark → Holds (state_after (step t.shape) (Allowed t) s es).opens n (i * t.shape.slot + k) (byte_after es (a + k) was) mark
free_run t s [] a n i k was mark shape fit legal place spent none keeps lt h = h
free_run t s (e ∷ es) a n i k was mark shape fit legal place spent none keeps lt h =
    let after = free_changed t s e.faults_before e.faults_after e.choices e.call e.reply a n i k was mark shape fit place (ap (λ (o : Option Slab). is_some o) h.there) spent.dead lt legal.0.allows
    (λ asked align size is told. none.0 (record { asked = asked; align = align; size = size; call = is; reply = told }))
    (λ m is same. keeps.0.0 (is ∙ ap (λ (x : ℕ). Some x) same)) (λ m is same. keeps.0.1 (is ∙ ap (λ (x : ℕ). Some x) same)) h in
    free_run t (step t.shape s e) es a n i k (unwrap_or (written_at e.call e.reply (a + k)) was) mark shape (sound_step t s e shape fit legal.0) legal.1 place (spent_step t.shape s e a none.0 spent) none.1 keeps.1 lt after

-- the state is sound after all of them
sound_run : (t : Terms) (s : State) (es : List Entry) → IsShape t.shape → IsSound t.shape s → Legal (step t.shape) (Allowed t) s es → IsSound t.shape (state_after (step t.shape) (Allowed t) s es)
sound_run t s [] shape fit legal = fit
sound_run t s (e ∷ es) shape fit legal = sound_run t (step t.shape s e) es shape (sound_step t s e shape fit legal.0) legal.1

-- ---- the free leaves zeros
zero_in : (u k : ℕ) → k < u → slice_get {X = ℕ} (replicate u 0) k ≡ Some 0
zero_in zero k lt = absurd (omega (arith, lt))
zero_in (suc u) zero lt = refl
zero_in (suc u) (suc k) lt = zero_in u k (omega (arith, lt))

some_bytes : (p : Shape) (k : ℕ) → k < usable p → has_bytes p ≡ true
some_bytes p k lt = elim (has_bytes p) as (λ b. k < cond b (p.slot - 8) 0 → b ≡ true) [ true ↦ λ h. refl | false ↦ λ h. absurd (omega (arith, h)) ] lt

-- the slab of a slot, and what it kept before
freed_zero : (t : Terms) (before : List Entry) (freed : Entry) (a n i k : ℕ) → IsShape t.shape → (fit : IsSound t.shape (state t before)) → IsLegal t before → Allowed t (state t before) freed → (is : IsFreedAt freed a) → IsPlaceOf t.shape a n i → k < usable t.shape
    → ((m : ℕ) → freed.choices.retired ≡ Some m → m ≢ n) → ((m : ℕ) → freed.choices.purged ≡ Some m → m ≢ n) → (mark : ℕ) × Holds (step t.shape (state t before) freed).opens n (i * t.shape.slot + k) 0 mark
freed_zero t before freed a n i k shape fit legal allowed is place lt kept whole =
    let p : Shape = t.shape in
    let s : State = state t before in
    let c : Choices = freed.choices in
    let allows = allows_at t s freed (GiveBack a is.stated) Freed allowed is.call is.reply in
    let r : ℕ = i * p.slot + k in
    let inside : r < p.slab = in_slab p a n i k shape place (omega (arith, lt, fits p shape)) in
    let here : a + k ≡ slab_at p n + r = omega (arith, place.is) in
    let was = live_bytes t before a (a + k) shape legal (some_bytes p k lt) allows.block.live (omega arith) (omega (arith, lt, fits p shape)) in
    let mark : ℕ = kept_canary p s (a + k) in
    let first : Holds s.opens n r was.0 mark = holds_at p s n r (a + k) was.0 here inside was.1 in
    let cleared : Holds (takes_back p a s).opens n r (over_byte a (zeros (usable p)) (a + k) was.0) mark = hold_write p a (zeros (usable p)) s.opens n r (a + k) was.0 mark here first in
    let back : (a + k) - a ≡ k = omega arith in
    let none : over_byte a (zeros (usable p)) (a + k) was.0 ≡ 0 =
    ap (λ (b : Bool). unwrap_or (cond b None (slice_get (zeros (usable p)) ((a + k) - a))) was.0) (past_start a (a + k) (omega arith))
    ∙ ap (λ (j : ℕ). unwrap_or (slice_get (zeros (usable p)) j) was.0) back ∙ ap (λ (o : Option ℕ). unwrap_or o was.0) (zero_in (usable p) k lt) in
    let after : Holds (changed p c (GiveBack a is.stated) Freed s).opens n r 0 mark =
    hold_emptied p c.released c.unparked c.retired c.purged (takes_back p a s) n r 0 mark inside kept whole (subst (λ (x : ℕ). Holds (takes_back p a s).opens n r x mark) none cleared) in (
      mark,
      subst (λ (reply : Reply). Holds (changed p c freed.call reply s).opens n r 0 mark) (sym is.reply)
          (subst (λ (call : Call). Holds (changed p c call Freed s).opens n r 0 mark) (sym is.call) after),
    )

-- ---- what the check on reuse finds
first_found : (bs : List ℕ) (i b : ℕ) → slice_get bs i ≡ Some b → b ≢ 0 → ((j : ℕ) → j < i → slice_get bs j ≡ Some 0) → first_nonzero bs ≡ Some (i, b)
first_found [] i b is ne zeros_before = absurd (none-some b is)
first_found (x ∷ bs) zero b is ne zeros_before =
    let same : x ≡ b = same_Some x b is in
    ap (λ (t : Bool). cond t (one_later (first_nonzero bs)) (Some (0, x))) (other_eq x 0 (λ e. ne (sym same ∙ e))) ∙ ap (λ (y : ℕ). Some (0, y)) same
first_found (x ∷ bs) (suc i) b is ne zeros_before =
    let none : x ≡ 0 = same_Some x 0 (zeros_before 0 (omega arith)) in
    ap (λ (y : ℕ). cond (y == 0) (one_later (first_nonzero bs)) (Some (0, y))) none
    ∙ ap (λ (o : Option (ℕ × ℕ)). one_later o) (first_found bs i b is ne (λ j lt. zeros_before (suc j) (omega (arith, lt)))) ∙ ap (λ (j : ℕ). Some (j, b)) (one_more i)
  where
    one_more : (i : ℕ) → i + 1 ≡ suc i
    one_more i = omega arith

pub none_found : (bs : List ℕ) → ((j : ℕ) → j < length bs → slice_get bs j ≡ Some 0) → first_nonzero bs ≡ None
none_found [] each = refl
none_found (x ∷ bs) each =
    ap (λ (y : ℕ). cond (y == 0) (one_later (first_nonzero bs)) (Some (0, y))) (same_Some x 0 (each 0 (omega arith)))
    ∙ ap (λ (o : Option (ℕ × ℕ)). one_later o) (none_found bs (λ j lt. each (suc j) (omega (arith, lt))))

-- the usable bytes of a slot, one by one
usable_are : (p : Shape) (s : State) (a n i : ℕ) (f : ℕ → ℕ) → IsShape p → IsPlaceOf p a n i → ((k : ℕ) → k < usable p → (mark : ℕ) × Holds s.opens n (i * p.slot + k) (f k) mark)
    → (k : ℕ) → k < usable p → slice_get (usable_bytes p s a) k ≡ Some (f k)
usable_are p s a n i f shape place each k lt =
    let h = (each k lt).1 in
    let o : ℕ = i * p.slot in
    let row : o + 0 ≡ o = omega arith in
    let inside : o < p.slab = omega (arith, in_slab p a n i 0 shape place (omega (arith, shape.slot_least)), row) in
    ap (λ (l : List ℕ). slice_get l k) (bytes_in p s n o a (usable p) h.slab place.is inside h.there)
    ∙ get_take (usable p) k (drop o h.slab.bytes) lt ∙ get_drop o k h.slab.bytes ∙ h.byte

take_short : (n : ℕ) (xs : List ℕ) → length (take n xs) ≤ n
take_short zero xs = omega arith
take_short (suc n) [] = omega arith
take_short (suc n) (x ∷ xs) = omega (arith, take_short n xs)

-- ---- after the entries
module _ (t : Terms) (s : State) (es : List Entry) (e : Entry) (a n i : ℕ) (shape : IsShape t.shape) (told : IsTrue t.told) (checks : t.config.check_reuse ≡ true) (fit : IsSound t.shape s) (allowed : Allowed t s e)
    (place : IsPlaceOf t.shape a n i) (each : (k : ℕ) → k < usable t.shape → (mark : ℕ) × Holds s.opens n (i * t.shape.slot + k) (left_at es a k) mark) where
  -- in the state in which the slot is picked
  abbrev now : State
  now = opened t.shape e.choices.opened e.choices.canary s

  abbrev bytes : List ℕ
  bytes = usable_bytes t.shape now a

  there : Picks t.shape s now e.choices a → (k : ℕ) → k < usable t.shape → slice_get bytes k ≡ Some (left_at es a k)
  there picks = usable_are t.shape now a n i (left_at es a) shape place (λ k lt.
      (let h = each k lt in
      let open_slab : is_open s n ≡ true = ap (λ (o : Option Slab). is_some o) h.1.there in (
        h.0,
        hold_opened t.shape e.choices.opened e.choices.canary s n (i * t.shape.slot + k) (left_at es a k) h.0
            (λ m is. unopened_apart t.shape s m n fit (source_new t.shape s e.choices.opened (slab_of t.shape a) m picks.source is) open_slab) h.1,
      )))

  first_is : Picks t.shape s now e.choices a → (j : ℕ) → IsFirstLeft t.shape es a j → first_nonzero bytes ≡ Some (j, left_at es a j)
  first_is picks j first =
      first_found bytes j (left_at es a j) (there picks j first.within) first.nonzero (λ m lt. there picks m (omega (arith, lt, first.within)) ∙ ap (λ (x : ℕ). Some x) (first.first m lt))

  finds : (o : Option (ℕ × ℕ)) → reuse_finds t.config t.shape now a ≡ o → first_nonzero bytes ≡ o
  finds o is = ap (λ (b : Bool). cond b (first_nonzero bytes) None) (sym checks) ∙ is

  over_finds : (over : IsOverwrittenAt e a) → Picks t.shape s now e.choices a × (first_nonzero bytes ≡ Some (over.place, over.found))
  over_finds over =
      let allows = allows_at t s e (Allot over.asked over.align) (Overwritten a over.place over.found) allowed over.call over.reply in
      (allows.0, finds (Some (over.place, over.found)) (allows.2 told))

  tells : TellsWrites t.shape es e a
  tells = record {
    not_given = λ j first given.
        (let allows = allows_at t s e (Allot given.asked given.align) (Given a given.size) allowed given.call given.reply in
        none-some (j, left_at es a j) (sym (finds None (allows.2 told)) ∙ first_is allows.0 j first));
    told = λ j first over.
        (let x = over_finds over in
        let same : (over.place, over.found) ≡ (j, left_at es a j) = same_Some (over.place, over.found) (j, left_at es a j) (sym x.1 ∙ first_is x.0 j first) in
        (ap (λ (y : ℕ × ℕ). y.0) same, ap (λ (y : ℕ × ℕ). y.1) same));
    clean = λ all over.
        (let x = over_finds over in
        none-some (over.place, over.found) (sym (none_found bytes (λ j lt. zero_there x.0 all j lt)) ∙ x.1));
  }
    where
      zero_there : Picks t.shape s now e.choices a → ((j : ℕ) → j < usable t.shape → left_at es a j ≡ 0) → (j : ℕ) → j < length bytes → slice_get bytes j ≡ Some 0
      zero_there picks all j lt =
          let below : j < usable t.shape = omega (arith, lt, short) in
          there picks j below ∙ ap (λ (x : ℕ). Some x) (all j below)
        where
          short : length bytes ≤ usable t.shape
          short = take_short (usable t.shape) _

pub found_writes : FoundWrites
found_writes t before middle freed e a shape told checks legal is none keeps =
    let p : Shape = t.shape in
    let parts = split t before middle freed e legal in
    let front : IsLegal t before = (Legal_split (step p) (Allowed t) start before (freed ∷ (middle ++ (e ∷ []))) legal).0 in
    let fit : IsSound p (state t before) = sound t before shape front in
    let s₀ : State = step p (state t before) freed in
    let spent : IsSpent p s₀ a = spent_freed t (state t before) freed a parts.first is in
    let n : ℕ = slab_of p a in
    let i : ℕ = slot_of p a in
    let place : IsPlaceOf p a n i = place_is p a n i spent.place in
    let fit₀ : IsSound p s₀ = sound_step t (state t before) freed shape fit parts.first in
    let s : State = state_after (step p) (Allowed t) s₀ middle in
    let each : (k : ℕ) → k < usable p → (mark : ℕ) × Holds s.opens n (i * p.slot + k) (left_at middle a k) mark = λ k lt.
    (let zero_then = freed_zero t before freed a n i k shape fit front parts.first is place lt (λ m at_m same. keeps.0.0 (at_m ∙ ap (λ (x : ℕ). Some x) same)) (λ m at_m same. keeps.0.1 (at_m ∙ ap (λ (x : ℕ). Some x) same)) in
    (zero_then.0, free_run t s₀ middle a n i k 0 zero_then.0 shape fit₀ parts.between place spent none keeps.1 (omega (arith, lt, fits p shape)) zero_then.1)) in
    let allowed : Allowed t s e = subst (λ (x : State). Allowed t x e) (state_append (step p) (Allowed t) start before (freed ∷ middle)) parts.last in
    tells t s middle e a n i shape told checks (sound_run t s₀ middle shape fit₀ parts.between) allowed place each
