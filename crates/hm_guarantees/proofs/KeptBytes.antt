-- The bytes of a live slot change by fills alone.
use Rattle.std.proofs.Common.{◌≡◌, ◌≢◌, ◌⊎◌, inl, inr, ⊎_elim, ℕ, ◌+◌, ◌-◌, ◌*◌, ◌<◌, ◌≤◌, Bool, true, false, cond, List, [], ◌∷◌, ◌++◌, length, get_or, nat_lt, Option, Some, None, is_some, unwrap_or, sym, ◌∙◌, ap, subst, refl, arith}
use Rattle.std.specs.Int.{to_le_bytes}
use mir.Syntax.{w64}
use Rattle.std.proofs.lemmas.Bool.{cases_eq}
use Rattle.std.proofs.lemmas.List.{length-replicate}
use Rattle.std.proofs.lemmas.Option.{none-some, same_Some, slice_get-get_or}
use Rattle.hm_base.specs.Lists.{zeros}
use Rattle.hm_model.specs.declared.entry.Entry.{Entry}
use Rattle.hm_model.specs.declared.entry.Call.{Call}
use Rattle.hm_model.specs.declared.entry.Call.TheVariants.{Allot, GiveBack, Fill}
use Rattle.hm_model.specs.declared.entry.Reply.{Reply}
use Rattle.hm_model.specs.declared.entry.Reply.TheVariants.{Given, Overwritten, Freed, Filled}
use Rattle.hm_model.specs.declared.entry.Choices.{Choices}
use Rattle.hm_model.specs.Machine.{state_after, Legal, Legal_split, state_append}
use Rattle.hm_model.specs.Maps.{times, at, has, removed, keys}
use Rattle.hm_model.specs.Runs.{expand}
use Rattle.hm_model.specs.Calls.{IsFreedAt}
use Rattle.hm_model.proofs.Lists.{times_here, same_eq, other_eq}
use Rattle.hm_sizes.specs.declared.shape.Shape.{Shape}
use Rattle.hm_sizes.specs.Shapes.{IsShape, IsPlaceOf, has_bytes, usable, slab_at, slab_of, slot_of}
use Rattle.hm_sizes.proofs.PlaceTest.{slot_row}
use Rattle.hm_class_rules.specs.State.{State, Slab, start, is_open, is_live, unopened}
use Rattle.hm_class_rules.specs.Bytes.{byte_at, kept_canary}
use Rattle.hm_class_rules.specs.Steps.{opened, takes_back, releases, changed, step}
use Rattle.hm_class_rules.specs.Rules.{Terms, Allows, Allowed, Empties, Picks, IsLegal, surplus, state}
use Rattle.hm_class_rules.specs.Laws.{IsSound, written_at}
use Rattle.hm_class_rules.proofs.Sound.{has_times, empty_uses}
use Rattle.hm_class_rules.proofs.Legal.{sound, sound_step, source_new, surplus_empty, retired_was, picked_place, picked_uses, places_apart}
use Rattle.hm_class_rules.proofs.Whole.{whole_run}
use Rattle.hm_class_rules.proofs.Zeroed.{opens_some}
use Rattle.hm_guarantees.specs.Given.{FreesNone}
use Rattle.hm_guarantees.specs.KeptBytes.{byte_after, LiveBytes, KeptBytes}
use Rattle.hm_class_rules.proofs.Changes.{opened_live, out_live, has_removed}
use Rattle.hm_guarantees.proofs.Parts.{released_live}
use Rattle.hm_guarantees.proofs.Bytes.{Holds, hold_write, hold_apart, hold_opened, hold_emptied, holds_at, at_holds, canary_holds}

-- a live slot: where it stands
pub record IsHeld (p : Shape) (s : State) (a n i : ℕ) : Type 0 where
  pub place : IsPlaceOf p a n i
  pub open_slab : is_open s n ≡ true
  pub live : is_live s a ≡ true

pub held_at : (p : Shape) (s : State) (a : ℕ) (h : IsSound p s) (live : is_live s a ≡ true) → (n : ℕ) × (i : ℕ) × IsHeld p s a n i
held_at p s a h live = let stands = h.placed a (omega (arith, has_times a s.live live)) in (stands.slab, stands.slot, record { place = stands.is_place; open_slab = stands.open_slab; live = live })

-- ---- a live slot stays live until it is freed
pub live_changed : (p : Shape) (c : Choices) (call : Call) (reply : Reply) (s : State) (a : ℕ) → ((stated : Option ℕ) → call ≡ GiveBack a stated → reply ≡ Freed → ⊥) → is_live s a ≡ true → is_live (changed p c call reply s) a ≡ true
live_changed p c (Allot asked align) (Given b size) s a none live = has_put b a asked (opened p c.opened c.canary s).live (ap (λ (l : List (ℕ × ℕ)). has a l) (opened_live p c.opened c.canary s) ∙ live)
  where
    has_put : (k m x : ℕ) (l : List (ℕ × ℕ)) → has m l ≡ true → has m ((k, x) ∷ removed k l) ≡ true
    has_put k m x l h =
        ⊎_elim
        (λ same. ap (λ (t : Bool). is_some (cond t (Some x) (at m (removed k l)))) (same_eq k m same))
        (λ ne. ap (λ (t : Bool). is_some (cond t (Some x) (at m (removed k l)))) (other_eq k m ne) ∙ has_removed k m l ne ∙ h)
        (cases_eq k m)
live_changed p c (Allot asked align) (Overwritten b at found) s a none live = ap (λ (l : List (ℕ × ℕ)). has a l) (opened_live p c.opened c.canary s) ∙ live
live_changed p c (GiveBack b stated) Freed s a none live =
    let s₂ : State = releases c.released (takes_back p b s) in
    let ne : b ≢ a = λ same. none stated (ap (λ (x : ℕ). GiveBack x stated) same) refl in
    ap (λ (l : List (ℕ × ℕ)). has a l) (out_live p s₂ c.retired c.purged c.unparked ∙ released_live c.released (takes_back p b s)) ∙ has_removed b a s.live ne ∙ live
live_changed p c (Fill b runs) Filled s a none live = live
live_changed p c call reply s a none live = live

-- ---- one entry
-- a slab that is opened was not open
pub unopened_apart : (p : Shape) (s : State) (m n : ℕ) → IsSound p s → unopened p s.shut s.next ≡ Some m → is_open s n ≡ true → m ≢ n
unopened_apart p s m n h e open_slab same = from s.shut refl e
  where
    once : 1 ≤ times n (keys s.opens)
    once = has_times n s.opens open_slab

    from : (shut : List ℕ) → s.shut ≡ shut → unopened p shut s.next ≡ Some m → ⊥
    from [] is u = fresh (nat_lt s.next p.limit) u
      where
        fresh : (b : Bool) → cond b (Some s.next) None ≡ Some m → ⊥
        fresh true u = omega (arith, same_Some s.next m u, same, once, h.below_next n (omega (arith, once)))
        fresh false u = none-some m u
    from (x ∷ xs) is u =
        let first : x ≡ n = same_Some x m u ∙ same in
        let stands : 1 ≤ times n s.shut = subst (λ (l : List ℕ). 1 ≤ times n l) (sym is) (subst (λ (k : ℕ). 1 ≤ times n (k ∷ xs)) (sym first) (omega (arith, times_here n xs))) in
        omega (arith, once, stands, h.slab_once n)

-- nor was the picked slot live
pub picked_apart : (p : Shape) (s : State) (c : Choices) (a b : ℕ) → Picks p s (opened p c.opened c.canary s) c b → is_live s a ≡ true → b ≢ a
picked_apart p s c a b pick live same =
    let now : State = opened p c.opened c.canary s in
    let there : is_live now a ≡ true = ap (λ (l : List (ℕ × ℕ)). has a l) (opened_live p c.opened c.canary s) ∙ live in
    omega (arith, (picked_uses p s now c b pick).1, has_times b now.live (ap (λ (x : ℕ). is_live now x) same ∙ there))

purged_was : (t : Terms) (s : State) (before now : ℕ) (c : Choices) (o : Option ℕ) → Empties t s before now c o → (m : ℕ) → c.purged ≡ Some m → o ≡ Some m
purged_was t s before now c None e m is = absurd (none-some m (sym e.1 ∙ is))
purged_was t s before now c (Some k) e m is = ⊎_elim (λ l. absurd (none-some m (sym l.1 ∙ is))) (λ r. sym r.1 ∙ is) e

-- a slab with a live slot is not emptied
surplus_apart : (p : Shape) (s : State) (o : Option ℕ) (a n i m : ℕ) → IsPlaceOf p a n i → is_live s a ≡ true → surplus p s o ≡ Some m → m ≢ n
surplus_apart p s o a n i m place live e same =
    omega (arith, empty_uses p s m a (surplus_empty p s o m e) i (subst (λ (k : ℕ). IsPlaceOf p a k i) (sym same) place), has_times a s.live live)

-- usable bytes and canary are within the slot
pub fits : (p : Shape) → IsShape p → usable p + 8 ≤ p.slot
fits p shape = by (has_bytes p)
  where
    by : (b : Bool) → cond b (p.slot - 8) 0 + 8 ≤ p.slot
    by true = omega (arith, shape.slot_least)
    by false = omega (arith, shape.slot_least)

pub in_slab : (p : Shape) (a n i k : ℕ) → IsShape p → IsPlaceOf p a n i → k < p.slot → i * p.slot + k < p.slab
in_slab p a n i k shape place lt = omega (arith, slot_row p.slot i p.slots place.slot, shape.slots_fit, lt)

-- what is written within another slot lies outside
pub other_slot : (p : Shape) (a b n i m j k x len : ℕ) → IsShape p → IsPlaceOf p a n i → IsPlaceOf p b m j → b ≢ a → k < p.slot → b ≤ x → x + len ≤ b + p.slot
    → (slab_at p n + (i * p.slot + k) < x) ⊎ (x + len ≤ slab_at p n + (i * p.slot + k))
other_slot p a b n i m j k x len shape at_a at_b ne lt low high =
    ⊎_elim
    (λ before. inr (omega (arith, before, high, at_a.is)))
    (λ past. inl (omega (arith, past, low, lt, at_a.is)))
    (places_apart p b a m j n i shape at_b at_a ne)

kept_changed : (t : Terms) (s : State) (before now : ℕ) (c : Choices) (call : Call) (reply : Reply) (a n i k was mark : ℕ) → IsShape t.shape → IsSound t.shape s → IsHeld t.shape s a n i → k < t.shape.slot
    → Allows t s before now c call reply → ((stated : Option ℕ) → call ≡ GiveBack a stated → reply ≡ Freed → ⊥) → Holds s.opens n (i * t.shape.slot + k) was mark
    → Holds (changed t.shape c call reply s).opens n (i * t.shape.slot + k) (unwrap_or (written_at call reply (a + k)) was) mark
kept_changed t s before now c (Allot asked align) (Given b size) a n i k was mark shape sound held lt allows none h =
    let p : Shape = t.shape in
    let s' : State = opened p c.opened c.canary s in
    hold_apart p (b + usable p) (to_le_bytes w64 (kept_canary p s' b)) s'.opens n (i * p.slot + k) was mark
    (other_slot p a b n i (slab_of p b) (slot_of p b) k (b + usable p) 8 shape held.place (picked_place p s s' c b allows.0) (picked_apart p s c a b allows.0 held.live) lt (omega arith) (omega (arith, fits p shape)))
    (hold_opened p c.opened c.canary s n (i * p.slot + k) was mark (λ m e. unopened_apart p s m n sound (source_new p s c.opened (slab_of p b) m allows.0.source e) held.open_slab) h)
kept_changed t s before now c (Allot asked align) (Overwritten b at found) a n i k was mark shape sound held lt allows none h =
    let p : Shape = t.shape in
    hold_opened p c.opened c.canary s n (i * p.slot + k) was mark (λ m e. unopened_apart p s m n sound (source_new p s c.opened (slab_of p b) m allows.0.source e) held.open_slab) h
kept_changed t s before now c (GiveBack b stated) Freed a n i k was mark shape sound held lt allows none h =
    let p : Shape = t.shape in
    let ne : b ≢ a = λ same. none stated (ap (λ (x : ℕ). GiveBack x stated) same) refl in
    let stands = sound.placed b (omega (arith, has_times b s.live allows.block.live)) in
    let s₂ : State = releases c.released (takes_back p b s) in
    let live : is_live s₂ a ≡ true = ap (λ (l : List (ℕ × ℕ)). has a l) (released_live c.released (takes_back p b s)) ∙ has_removed b a s.live ne ∙ held.live in
    hold_emptied p c.released c.unparked c.retired c.purged (takes_back p b s) n (i * p.slot + k) was mark (in_slab p a n i k shape held.place lt)
    (λ m e. surplus_apart p s₂ c.released a n i m held.place live (retired_was t s₂ before now c (surplus p s₂ c.released) allows.emptied m e))
    (λ m e. surplus_apart p s₂ c.released a n i m held.place live (purged_was t s₂ before now c (surplus p s₂ c.released) allows.emptied m e))
    (hold_apart p b (zeros (usable p)) s.opens n (i * p.slot + k) was mark
    (other_slot p a b n i stands.slab stands.slot k b (length (zeros (usable p))) shape held.place stands.is_place ne lt (omega arith) (omega (arith, length-replicate {A = ℕ} (usable p) 0, fits p shape)))
    h)
kept_changed t s before now c (Fill b runs) Filled a n i k was mark shape sound held lt allows none h =
    hold_write t.shape b (expand runs) s.opens n (i * t.shape.slot + k) (a + k) was mark (omega (arith, held.place.is)) h
kept_changed t s before now c call reply a n i k was mark shape sound held lt allows none h = h

-- ---- all entries
pub live_step : (p : Shape) (s : State) (e : Entry) (a : ℕ) → (IsFreedAt e a → ⊥) → is_live s a ≡ true → is_live (step p s e) a ≡ true
live_step p s e a none live = live_changed p e.choices e.call e.reply s a (λ stated is told. none (record { stated = stated; call = is; reply = told })) live

-- at slot i of slab n: its byte k and the slab's canary
pub kept_run : (t : Terms) (s : State) (es : List Entry) (a n i k was mark : ℕ) → IsShape t.shape → IsSound t.shape s → Legal (step t.shape) (Allowed t) s es → IsPlaceOf t.shape a n i → is_live s a ≡ true
    → FreesNone a es → k < t.shape.slot → Holds s.opens n (i * t.shape.slot + k) was mark
    → Holds (state_after (step t.shape) (Allowed t) s es).opens n (i * t.shape.slot + k) (byte_after es (a + k) was) mark
kept_run t s [] a n i k was mark shape fit legal place live none lt h = h
kept_run t s (e ∷ es) a n i k was mark shape fit legal place live none lt h =
    let held : IsHeld t.shape s a n i = record { place = place; open_slab = ap (λ (o : Option Slab). is_some o) h.there; live = live } in
    let after = kept_changed t s e.faults_before e.faults_after e.choices e.call e.reply a n i k was mark shape fit held lt legal.0.allows
    (λ stated call told. none.0 (record { stated = stated; call = call; reply = told })) h in
    kept_run t (step t.shape s e) es a n i k (unwrap_or (written_at e.call e.reply (a + k)) was) mark shape (sound_step t s e shape fit legal.0) legal.1 place (live_step t.shape s e a none.0 live) none.1 lt after

-- it is live, and the state is sound, after all of them
pub live_run : (t : Terms) (s : State) (es : List Entry) (a : ℕ) → IsShape t.shape → IsSound t.shape s → Legal (step t.shape) (Allowed t) s es → FreesNone a es → is_live s a ≡ true
    → let s' = state_after (step t.shape) (Allowed t) s es in (is_live s' a ≡ true) × IsSound t.shape s'
live_run t s [] a shape fit legal none live = (live, fit)
live_run t s (e ∷ es) a shape fit legal none live = live_run t (step t.shape s e) es a shape (sound_step t s e shape fit legal.0) legal.1 none.1 (live_step t.shape s e a none.0 live)

-- of a slot that is live after a legal history: its byte at q, and its slab's canary, after some more entries
pub record IsKept (p : Shape) (s s' : State) (es : List Entry) (a q was : ℕ) : Type 0 where
  pub byte : byte_at p s' q ≡ Some (byte_after es q was)
  pub canary : kept_canary p s' q ≡ kept_canary p s q

pub kept_all : (t : Terms) (before middle : List Entry) (a q was : ℕ) → IsShape t.shape → IsLegal t (before ++ middle) → is_live (state t before) a ≡ true → FreesNone a middle → a ≤ q → q < a + t.shape.slot
    → byte_at t.shape (state t before) q ≡ Some was → IsKept t.shape (state t before) (state t (before ++ middle)) middle a q was
kept_all t before middle a q was shape legal live none low high is =
    let p : Shape = t.shape in
    let parts = Legal_split (step p) (Allowed t) start before middle legal in
    let s : State = state t before in
    let fit = sound t before shape parts.0 in
    let at_a = held_at p s a fit live in
    let n : ℕ = at_a.0 in
    let i : ℕ = at_a.1 in
    let k : ℕ = q - a in
    let r : ℕ = i * p.slot + k in
    let whole : r < p.slab = in_slab p a n i k shape at_a.2.place (omega (arith, low, high)) in
    let here : q ≡ slab_at p n + r = omega (arith, low, at_a.2.place.is) in
    let back : a + k ≡ q = omega (arith, low) in
    let h = kept_run t s middle a n i k was (kept_canary p s q) shape fit parts.1 at_a.2.place live none (omega (arith, low, high)) (holds_at p s n r q was here whole is) in
    let h' : Holds (state t (before ++ middle)).opens n r (byte_after middle q was) (kept_canary p s q) =
    subst (λ (x : State). Holds x.opens n r (byte_after middle q was) (kept_canary p s q)) (sym (state_append (step p) (Allowed t) start before middle))
    (subst (λ (x : ℕ). Holds (state_after (step p) (Allowed t) s middle).opens n r (byte_after middle x was) (kept_canary p s q)) back h) in
    record {
      byte = at_holds p (state t (before ++ middle)) n r q (byte_after middle q was) (kept_canary p s q) here whole h';
      canary = canary_holds p (state t (before ++ middle)) n r q (byte_after middle q was) (kept_canary p s q) here whole h';
    }

pub kept_bytes : KeptBytes
kept_bytes t before middle a q was shape legal live none low high is = (kept_all t before middle a q was shape legal live none low high is).byte

pub live_bytes : LiveBytes
live_bytes t es a q shape legal some live low high =
    let p : Shape = t.shape in
    let s : State = state t es in
    let at_a = held_at p s a (sound t es shape legal) live in
    let n : ℕ = at_a.0 in
    let r : ℕ = at_a.1 * p.slot + (q - a) in
    let whole : r < p.slab = in_slab p a n at_a.1 (q - a) shape at_a.2.place (omega (arith, low, high)) in
    let on = opens_some s.opens n at_a.2.open_slab in
    let len : length on.0.bytes ≡ p.slab = whole_run t es legal n on.0 on.1 ∙ ap (λ (b : Bool). cond b p.slab 0) some in
    let byte : ℕ = get_or on.0.bytes r 0 in
    (byte, at_holds p s n r q byte on.0.canary (omega (arith, low, at_a.2.place.is)) whole (record { slab = on.0; there = on.1; byte = slice_get-get_or on.0.bytes r 0 (omega (arith, len, whole)); canary = refl }))
