-- A changed canary is found by the free.
use Rattle.std.proofs.Common.{◌≡◌, ◌≢◌, ⊎_elim, ℕ, zero, suc, ◌+◌, ◌-◌, ◌*◌, ◌/◌, ◌%◌, ◌<◌, ◌≤◌, ◌^◌, ◌==◌, Bool, true, false, cond, not, ◌&&◌, List, [], ◌∷◌, ◌++◌, length, take, drop, get_or, replicate, Option, Some, None, is_some, unwrap_or, sym, ◌∙◌, ap, subst, refl, arith}
use Rattle.std.specs.Prelude.{slice_get, nat_lt, IsTrue}
use Rattle.std.specs.List.{AllByRecursion as EachIs}
use Rattle.std.specs.Int.{to_le_bytes, from_le_bytes, bytes_low_first}
use mir.Syntax.{w64}
use Rattle.std.proofs.lemmas.Bool.{cases_lt}
use Rattle.std.proofs.lemmas.List.{length-take, length-drop}
use Rattle.std.proofs.lemmas.Nat.{from_le_bytes-to_le_bytes_8, le_bytes_8}
use Rattle.std.proofs.lemmas.Option.{none-some, same_Some, slice_get-get_or, get_or_from_slice_get, slice_get_within}
use Rattle.hm_model.specs.declared.entry.Entry.{Entry}
use Rattle.hm_model.specs.declared.entry.Call.{Call}
use Rattle.hm_model.specs.declared.entry.Call.TheVariants.{Allot, GiveBack, Fill}
use Rattle.hm_model.specs.declared.entry.Reply.{Reply}
use Rattle.hm_model.specs.declared.entry.Reply.TheVariants.{Given, Filled}
use Rattle.hm_model.specs.declared.entry.Choices.{Choices}
use Rattle.hm_model.specs.Machine.{state_after, Legal_split, state_append, state_push}
use Rattle.hm_model.specs.Maps.{among, at, removed}
use Rattle.hm_model.specs.Runs.{expand}
use Rattle.hm_model.proofs.Lists.{same_eq, other_eq}
use Rattle.hm_report.specs.Text.{first_difference}
use Rattle.hm_sizes.specs.declared.shape.Shape.{Shape}
use Rattle.hm_sizes.specs.Shapes.{IsShape, IsPlace, IsPlaceOf, has_bytes, usable, slab_of, slot_of}
use Rattle.hm_sizes.proofs.PlaceTest.{slot_row, shape_places, place_tested}
use Rattle.hm_class_rules.specs.State.{State, Slab, start, is_live}
use Rattle.hm_class_rules.specs.Bytes.{kept_canary, found_canary}
use Rattle.hm_class_rules.specs.Steps.{opened, gives, changed, step}
use Rattle.hm_class_rules.specs.Rules.{Terms, Allowed, IsLegal, state, wrong_size, wrong_canary}
use Rattle.hm_class_rules.specs.Judged.{differs, first_reply}
use Rattle.hm_class_rules.specs.Laws.{IsSound, IsGivenAt, written_at}
use Rattle.hm_class_rules.proofs.JudgedReplies.{judged_law}
use Rattle.hm_class_rules.proofs.Legal.{sound, sound_step, picked_place}
use Rattle.hm_class_rules.proofs.Whole.{whole_run, whole_opened}
use Rattle.hm_class_rules.proofs.Zeroed.{get_take, get_drop, bytes_in, opens_some}
use Rattle.hm_guarantees.specs.KeptBytes.{byte_after}
use Rattle.hm_guarantees.specs.FoundOverflows.{WritesBytes, canary_byte, found_byte, TellsOverflow, FoundOverflows}
use Rattle.hm_guarantees.proofs.Parts.{allows_call, allows_at, split}
use Rattle.hm_guarantees.proofs.Bytes.{over_byte, past_start, Holds, hold_write, canary_at}
use Rattle.hm_guarantees.proofs.KeptBytes.{kept_run, live_run}

-- ---- bytes are below 256
each_get : (xs : List ℕ) (j x : ℕ) → EachIs (λ b. b < 256) xs → slice_get xs j ≡ Some x → x < 256
each_get [] j x h e = absurd (none-some x e)
each_get (b ∷ xs) zero x h e = subst (λ (y : ℕ). y < 256) (same_Some b x e) h.0
each_get (b ∷ xs) (suc j) x h e = each_get xs j x h.1 e

each_or : (xs : List ℕ) (j : ℕ) → EachIs (λ b. b < 256) xs → get_or xs j 0 < 256
each_or [] j h = omega arith
each_or (b ∷ xs) zero h = h.0
each_or (b ∷ xs) (suc j) h = each_or xs j h.1

each_append : (xs ys : List ℕ) → EachIs (λ b. b < 256) xs → EachIs (λ b. b < 256) ys → EachIs (λ b. b < 256) (xs ++ ys)
each_append [] ys h g = g
each_append (x ∷ xs) ys h g = (h.0, each_append xs ys h.1 g)

each_replicate : (n b : ℕ) → b < 256 → EachIs (λ x. x < 256) (replicate n b)
each_replicate zero b lt = tt
each_replicate (suc n) b lt = (lt, each_replicate n b lt)

each_expand : (runs : List (ℕ × ℕ)) → EachIs (λ run. run.0 < 256) runs → EachIs (λ b. b < 256) (expand runs)
each_expand [] h = tt
each_expand (run ∷ runs) h = each_append (replicate run.1 run.0) (expand runs) (each_replicate run.1 run.0 h.0) (each_expand runs h.1)

below_256 : (m : ℕ) → m % 256 < 256
below_256 m = omega arith

each_low : (i k n : ℕ) → EachIs (λ b. b < 256) (bytes_low_first i k n)
each_low i zero n = tt
each_low zero (suc k) n = (below_256 n, each_low 1 k n)
each_low (suc i) (suc k) n = (below_256 (n / 256 ^ suc i), each_low (suc (suc i)) k n)

byte_over : (call : Call) (reply : Reply) (q was : ℕ) → WritesBytes call → was < 256 → unwrap_or (written_at call reply q) was < 256
byte_over (Fill a runs) Filled q was h lt = by (nat_lt q a)
  where
    found : (o : Option ℕ) → slice_get (expand runs) (q - a) ≡ o → unwrap_or o was < 256
    found None e = lt
    found (Some x) e = each_get (expand runs) (q - a) x (each_expand runs h) e

    by : (b : Bool) → unwrap_or (cond b None (slice_get (expand runs) (q - a))) was < 256
    by true = lt
    by false = found (slice_get (expand runs) (q - a)) refl
byte_over call reply q was h lt = lt

bytes_after : (es : List Entry) (q was : ℕ) → EachIs (λ e. WritesBytes e.call) es → was < 256 → byte_after es q was < 256
bytes_after [] q was h lt = lt
bytes_after (e ∷ es) q was h lt = bytes_after es q (unwrap_or (written_at e.call e.reply q) was) h.1 (byte_over e.call e.reply q was h.0 lt)

-- ---- lists of bytes
same_bytes : (xs ys : List ℕ) → length xs ≡ length ys → ((j : ℕ) → j < length xs → get_or xs j 0 ≡ get_or ys j 0) → xs ≡ ys
same_bytes [] [] len each = refl
same_bytes [] (y ∷ ys) len each = absurd (omega (arith, len))
same_bytes (x ∷ xs) [] len each = absurd (omega (arith, len))
same_bytes (x ∷ xs) (y ∷ ys) len each =
    let rest : xs ≡ ys = same_bytes xs ys (omega (arith, len)) (λ j lt. each (suc j) (omega (arith, lt))) in
    let first : x ≡ y = each 0 (omega arith) in
    λ i. first i ∷ rest i

differ_at : (xs ys : List ℕ) (i : ℕ) → i < length xs → length xs ≡ length ys → ((j : ℕ) → j < i → get_or xs j 0 ≡ get_or ys j 0) → get_or xs i 0 ≢ get_or ys i 0 → first_difference xs ys ≡ i
differ_at [] ys i lt len each ne = absurd (omega (arith, lt))
differ_at (x ∷ xs) [] i lt len each ne = absurd (omega (arith, len))
differ_at (x ∷ xs) (y ∷ ys) zero lt len each ne = ap (λ (b : Bool). cond b (first_difference xs ys + 1) 0) (other_eq x y ne)
differ_at (x ∷ xs) (y ∷ ys) (suc i) lt len each ne =
    let rest : first_difference xs ys ≡ i = differ_at xs ys i (omega (arith, lt)) (omega (arith, len)) (λ j below. each (suc j) (omega (arith, below))) ne in
    let first : x ≡ y = each 0 (omega arith) in
    ap (λ (b : Bool). cond b (first_difference xs ys + 1) 0) (same_eq x y first) ∙ omega (arith, rest)

-- ---- a slot that is given has its slab's canary
-- slot i of slab n, right after a was given there: each byte of its canary
record IsGuarded (p : Shape) (s : State) (a n i canary : ℕ) : Type 0 where
  place : IsPlaceOf p a n i
  live : is_live s a ≡ true
  kept : kept_canary p s a ≡ canary
  each : (j : ℕ) → j < 8 → Holds s.opens n (i * p.slot + (usable p + j)) (canary_byte canary j) canary

whole_slot : (p : Shape) → IsShape p → has_bytes p ≡ true → usable p + 8 ≡ p.slot
whole_slot p shape some = ap (λ (b : Bool). cond b (p.slot - 8) 0 + 8) some ∙ omega (arith, shape.slot_least)

guarded : (t : Terms) (before : List Entry) (given : Entry) (a : ℕ) → IsShape t.shape → has_bytes t.shape ≡ true → IsLegal t before → Allowed t (state t before) given → IsGivenAt given a
    → let s = step t.shape (state t before) given in IsGuarded t.shape s a (slab_of t.shape a) (slot_of t.shape a) (kept_canary t.shape s a)
guarded t before given a shape some legal allowed is =
    let p : Shape = t.shape in
    let c : Choices = given.choices in
    let s : State = state t before in
    let now : State = opened p c.opened c.canary s in
    let allows = allows_at t s given (Allot is.asked is.align) (Given a is.size) allowed is.call is.reply in
    let place = picked_place p s now c a allows.0 in
    let n : ℕ = slab_of p a in
    let i : ℕ = slot_of p a in
    let on = opens_some now.opens n allows.0.open_slab in
    let b : Slab = on.0 in
    let len : length b.bytes ≡ p.slab = whole_opened p c.opened c.canary s (whole_run t before legal) n b on.1 ∙ ap (λ (x : Bool). cond x p.slab 0) some in
    let w : List ℕ = to_le_bytes w64 (kept_canary p now a) in
    let s' : State = record (gives p a is.asked now) { faults = given.faults_after } in
    let same : step p s given ≡ s' =
    ap (λ (x : Call). record (changed p c x given.reply s) { faults = given.faults_after }) is.call
    ∙ ap (λ (r : Reply). record (changed p c (Allot is.asked is.align) r s) { faults = given.faults_after }) is.reply in
    let inside : i * p.slot + p.slot ≤ p.slab = omega (arith, slot_row p.slot i p.slots place.slot, shape.slots_fit) in
    let slot_is : usable p + 8 ≡ p.slot = whole_slot p shape some in
    let before_canary : kept_canary p now a ≡ b.canary = canary_at p now n (i * p.slot) a b place.is (omega (arith, inside, shape.slot_least)) on.1 in
    let each : (j : ℕ) → j < 8 → Holds s'.opens n (i * p.slot + (usable p + j)) (canary_byte (kept_canary p now a) j) (kept_canary p now a) = λ j lt.
    let r : ℕ = i * p.slot + (usable p + j) in
    let h : Holds now.opens n r (get_or b.bytes r 0) (kept_canary p now a) = record { slab = b; there = on.1; byte = slice_get-get_or b.bytes r 0 (omega (arith, len, inside, slot_is, lt)); canary = sym before_canary } in
    subst (λ (x : ℕ). Holds s'.opens n r x (kept_canary p now a)) (new_byte (a + usable p) j (a + (usable p + j)) (get_or b.bytes r 0) w (omega arith) lt)
    (hold_write p (a + usable p) w now.opens n r (a + (usable p + j)) (get_or b.bytes r 0) (kept_canary p now a) (omega (arith, place.is)) h) in
    let after : kept_canary p s' a ≡ kept_canary p now a = (let first = each 0 (omega arith) in canary_at p s' n (i * p.slot) a first.slab place.is (omega (arith, inside, shape.slot_least)) first.there ∙ first.canary) in
    let all : IsGuarded p s' a n i (kept_canary p s' a) = subst (λ (k : ℕ). IsGuarded p s' a n i k) (sym after) (record {
      place = place;
      live = ap (λ (x : Bool). is_some (cond x (Some is.asked) (at a (removed a now.live)))) (same_eq a a refl);
      kept = after;
      each = each;
    }) in
    subst (λ (x : State). IsGuarded p x a n i (kept_canary p x a)) (sym same) all
  where
    new_byte : (x j q was : ℕ) (w : List ℕ) → q ≡ x + j → j < length w → over_byte x w q was ≡ get_or w j 0
    new_byte x j q was w e lt =
        let back : q - x ≡ j = omega (arith, e) in
        ap (λ (b : Bool). unwrap_or (cond b None (slice_get w (q - x))) was) (past_start x q (omega (arith, e)))
        ∙ ap (λ (k : ℕ). unwrap_or (slice_get w k) was) back ∙ ap (λ (o : Option ℕ). unwrap_or o was) (slice_get-get_or w j 0 lt)

-- ---- and a free reads it
-- the last 8 bytes of a slot
record AreLast (p : Shape) (s : State) (es : List Entry) (a canary : ℕ) (bytes : List ℕ) : Type 0 where
  found : found_canary p s a ≡ from_le_bytes w64 bytes
  kept : kept_canary p s a ≡ canary
  count : length bytes ≡ 8
  each : (j : ℕ) → j < 8 → get_or bytes j 0 ≡ found_byte p es a canary j

last_bytes : (p : Shape) (s : State) (es : List Entry) (a n i canary : ℕ) → IsShape p → has_bytes p ≡ true → IsPlaceOf p a n i
    → ((j : ℕ) → j < 8 → Holds s.opens n (i * p.slot + (usable p + j)) (byte_after es (a + (usable p + j)) (canary_byte canary j)) canary)
    → (bytes : List ℕ) × AreLast p s es a canary bytes
last_bytes p s es a n i canary shape some place each =
    let first = each 0 (omega arith) in
    let b : Slab = first.slab in
    let r : ℕ = i * p.slot + usable p in
    let inside : i * p.slot + p.slot ≤ p.slab = omega (arith, slot_row p.slot i p.slots place.slot, shape.slots_fit) in
    let slot_is : usable p + 8 ≡ p.slot = whole_slot p shape some in
    let bytes : List ℕ = take 8 (drop r b.bytes) in
    let at_byte : (j : ℕ) → j < 8 → slice_get b.bytes (r + j) ≡ Some (found_byte p es a canary j) = λ j lt.
    let h = each j lt in
    let same : h.slab ≡ b = same_Some h.slab b (sym h.there ∙ first.there) in
    let place_is : r + j ≡ i * p.slot + (usable p + j) = omega arith in
    let address : a + (usable p + j) ≡ a + usable p + j = omega arith in
    ap (λ (k : ℕ). slice_get b.bytes k) place_is ∙ ap (λ (x : Slab). slice_get x.bytes (i * p.slot + (usable p + j))) (sym same) ∙ h.byte
    ∙ ap (λ (q : ℕ). Some (byte_after es q (canary_byte canary j))) address in
    let got : (j : ℕ) → j < 8 → slice_get bytes j ≡ Some (found_byte p es a canary j) = λ j lt. get_take 8 j (drop r b.bytes) lt ∙ get_drop r j b.bytes ∙ at_byte j lt in
    let last = slice_get_within b.bytes (r + 7) (found_byte p es a canary 7) (at_byte 7 (omega arith)) in (
      bytes,
      record {
        found = ap (λ (l : List ℕ). from_le_bytes w64 l) (bytes_in p s n r (a + usable p) 8 b (omega (arith, place.is)) (omega (arith, inside, slot_is)) first.there);
        kept = canary_at p s n (i * p.slot) a b place.is (omega (arith, inside, shape.slot_least)) first.there ∙ first.canary;
        count = omega (arith, length-take 8 (drop r b.bytes), length-drop r b.bytes, last);
        each = λ j lt. get_or_from_slice_get bytes j (found_byte p es a canary j) 0 (got j lt);
      },
    )

-- the reply, by the canary
reply_by : (t : Terms) (s : State) (free : Entry) (a : ℕ) (stated : Option ℕ) (found : Option (ℕ × ℕ)) → IsTrue t.told → IsPlace t.shape a → among a s.given ≡ true → is_live s a ≡ true → Allowed t s free
    → free.call ≡ GiveBack a stated → wrong_size t.shape stated ≡ None → wrong_canary t.shape s a ≡ found → free.reply ≡ differs None found
reply_by t s free a stated found told place given live allowed is size canary =
    judged_law t s free.faults_before free.faults_after free.choices a stated free.reply told (allows_call t s free (GiveBack a stated) allowed is)
    ∙ ap (λ (b : Bool). first_reply b (among a s.given) (is_live s a) (differs (wrong_size t.shape stated) (wrong_canary t.shape s a))) place
    ∙ ap (λ (b : Bool). first_reply true b (is_live s a) (differs (wrong_size t.shape stated) (wrong_canary t.shape s a))) given
    ∙ ap (λ (b : Bool). first_reply true true b (differs (wrong_size t.shape stated) (wrong_canary t.shape s a))) live
    ∙ ap (λ (o : Option (ℕ × ℕ)). differs o (wrong_canary t.shape s a)) size
    ∙ ap (λ (o : Option (ℕ × ℕ)). differs None o) canary

canary_by : (p : Shape) (s : State) (a kept found : ℕ) (b : Bool) → has_bytes p ≡ true → kept_canary p s a ≡ kept → found_canary p s a ≡ found → (found == kept) ≡ b
    → wrong_canary p s a ≡ cond (not b) (Some (kept, found)) None
canary_by p s a kept found b some k f e =
    ap (λ (x : Bool). cond (x && not (found_canary p s a == kept_canary p s a)) (Some (kept_canary p s a, found_canary p s a)) None) some
    ∙ (λ i. cond (not (f i == k i)) (Some (k i, f i)) None)
    ∙ ap (λ (x : Bool). cond (not x) (Some (kept, found)) None) e

tells : (t : Terms) (s : State) (es : List Entry) (free : Entry) (a canary : ℕ) (stated : Option ℕ) (bytes : List ℕ) → IsTrue t.told → has_bytes t.shape ≡ true → IsPlace t.shape a → among a s.given ≡ true → is_live s a ≡ true
    → Allowed t s free → free.call ≡ GiveBack a stated → wrong_size t.shape stated ≡ None → canary < 2 ^ 64 → EachIs (λ e. WritesBytes e.call) es → AreLast t.shape s es a canary bytes → TellsOverflow t.shape es free a canary
tells t s es free a canary stated bytes told some place given live allowed is size low writes last = record {
  intact = λ each.
      let same : bytes ≡ to_le_bytes w64 canary = same_bytes bytes (to_le_bytes w64 canary) last.count (λ j lt. let below : j < 8 = omega (arith, lt, last.count) in last.each j below ∙ each j below) in
      let found : found_canary t.shape s a ≡ canary = last.found ∙ ap (λ (l : List ℕ). from_le_bytes w64 l) same ∙ from_le_bytes-to_le_bytes_8 canary low in
      reply_by t s free a stated None told place given live allowed is size (canary_by t.shape s a canary canary true some last.kept found (same_eq canary canary refl));
  changed = λ i first.
      let found : ℕ = found_canary t.shape s a in
      let bytes_are : to_le_bytes w64 found ≡ bytes = le_bytes_8 bytes found last.count below last.found in
      let ne : get_or (to_le_bytes w64 canary) i 0 ≢ get_or bytes i 0 = λ e. first.changed (sym (last.each i first.is_byte) ∙ sym e) in
      let other : found ≢ canary = λ e. ne (ap (λ (k : ℕ). get_or (to_le_bytes w64 k) i 0) (sym e) ∙ ap (λ (l : List ℕ). get_or l i 0) bytes_are) in (
        found,
        reply_by t s free a stated (Some (canary, found)) told place given live allowed is size (canary_by t.shape s a canary found false some last.kept refl (other_eq found canary other)),
        ap (λ (l : List ℕ). first_difference (to_le_bytes w64 canary) l) bytes_are
            ∙ differ_at (to_le_bytes w64 canary) bytes i first.is_byte (sym last.count) (λ j lt. sym (last.each j (omega (arith, lt, first.is_byte)) ∙ first.first j lt)) ne,
      );
}
  where
    below : (j : ℕ) → get_or bytes j 0 < 256
    below j =
        ⊎_elim
        (λ lt. subst (λ (x : ℕ). x < 256) (sym (last.each j lt)) (bytes_after es (a + usable t.shape + j) (canary_byte canary j) writes (each_or (to_le_bytes w64 canary) j (each_low 0 8 canary))))
        (λ ge. past bytes j (omega (arith, ge, last.count)))
        (cases_lt j 8)
      where
        past : (xs : List ℕ) (j : ℕ) → length xs ≤ j → get_or xs j 0 < 256
        past [] j le = omega arith
        past (x ∷ xs) zero le = absurd (omega (arith, le))
        past (x ∷ xs) (suc j) le = past xs j (omega (arith, le))

pub found_overflows : FoundOverflows
found_overflows t before middle given free a shape told some legal is none writes stated call size low =
    let p : Shape = t.shape in
    let parts = split t before middle given free legal in
    let front = (Legal_split (step p) (Allowed t) start before (given ∷ (middle ++ (free ∷ []))) legal).0 in
    let s₀ : State = step p (state t before) given in
    let same : state t (before ++ given ∷ []) ≡ s₀ = state_push (step p) (Allowed t) start before given in
    let canary : ℕ = kept_canary p s₀ a in
    let n : ℕ = slab_of p a in
    let i : ℕ = slot_of p a in
    let guard : IsGuarded p s₀ a n i canary = guarded t before given a shape some front parts.first is in
    let s : State = state_after (step p) (Allowed t) s₀ middle in
    let fit : IsSound p s₀ = sound_step t (state t before) given shape (sound t before shape front) parts.first in
    let whole : usable p + 8 ≡ p.slot = whole_slot p shape some in
    let last = last_bytes p s middle a n i canary shape some guard.place
    (λ j lt. kept_run t s₀ middle a n i (usable p + j) (canary_byte canary j) canary shape fit parts.between guard.place guard.live none (omega (arith, whole, lt)) (guard.each j lt)) in
    let end = live_run t s₀ middle a shape fit parts.between none guard.live in
    let there : Allowed t s free = subst (λ (x : State). Allowed t x free) (state_append (step p) (Allowed t) start before (given ∷ middle)) parts.last in
    subst (λ (k : ℕ). TellsOverflow p middle free a k) (ap (λ (x : State). kept_canary p x a) (sym same))
    (tells t s middle free a canary stated last.0 told some (place_tested p a n i (shape_places p shape) guard.place) (end.1.was_given a end.0) end.0 there call size
    (subst (λ (x : State). kept_canary p x a < 2 ^ 64) same low) writes last.1)
