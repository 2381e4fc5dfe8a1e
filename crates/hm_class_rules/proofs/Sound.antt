-- What holds of the lists of every legal history.
use Rattle.std.proofs.Common.{◌≡◌, ◌≢◌, ◌⊎◌, inl, inr, ⊎_elim, ℕ, zero, suc, ◌+◌, ◌*◌, ◌/◌, ◌%◌, ◌<◌, ◌≤◌, Bool, true, false, cond, not, ◌||◌, nat_lt, List, [], ◌∷◌, Option, Some, None, unwrap_or, sym, ◌∙◌, ap, subst, refl, arith, true≢false}
use Rattle.std.specs.List.{list_all, range_with_len}
use Rattle.std.proofs.lemmas.Bool.{cases_eq, cases_lt, and_parts}
use Rattle.std.proofs.lemmas.Nat.{div-add-mod'}
use Rattle.std.proofs.lemmas.Option.{none-some, same_Some}
use Rattle.std.proofs.Math.Nat.{mul-mod_left}
use Rattle.std.proofs.lemmas.Bool.Decides.{nat_tests}
use Rattle.std.specs.Int.{to_le_bytes}
use mir.Syntax.{w64}
use Rattle.hm_sizes.specs.declared.shape.Shape.{Shape}
use Rattle.hm_model.specs.Maps.{among, times, has, removed, put, keys}
use Rattle.hm_class_rules.specs.State.{State, Slab, is_open, is_live, is_taken, is_free, is_empty, unopened}
use Rattle.hm_sizes.specs.Shapes.{place, IsPlaceOf, IsGuard, after, usable}
use Rattle.hm_class_rules.specs.Bytes.{write, overlaid_slabs, kept_canary}
use Rattle.hm_base.specs.Lists.{zeros}
use Rattle.hm_class_rules.specs.Steps.{taken_new, new_slab, opened, gives, condemns, takes_back, releases, unparks, retires}
use Rattle.hm_sizes.specs.Shapes.{IsShape}
use Rattle.hm_class_rules.specs.Laws.{uses, slab_uses, StandsIn, IsSound}
use Rattle.hm_model.proofs.Lists.{times_among, among_times, times_none, same_eq, other_eq, times_here, times_apart, without_same, without_other, without_le, times_append, keys_removed, has_keys}

-- ---- numbers that are no guard
two : (x n : ℕ) → x ≡ n + 2 → x ≡ (n + 1) + 1
two x n e = omega arith

after_cases : (p : Shape) (n : ℕ) → (((n + 1) % (p.guard_interval + 1) ≡ p.guard_interval) × (after p n ≡ n + 2)) ⊎ (((n + 1) % (p.guard_interval + 1) ≢ p.guard_interval) × (after p n ≡ n + 1))
after_cases p n =
    ⊎_elim
    (λ e. inl (e, ap (λ (b : Bool). cond b (n + 2) (n + 1)) (same_eq _ _ e)))
    (λ ne. inr (ne, ap (λ (b : Bool). cond b (n + 2) (n + 1)) (other_eq _ _ ne)))
    (cases_eq ((n + 1) % (p.guard_interval + 1)) p.guard_interval)

after_more : (p : Shape) (n : ℕ) → n < after p n
after_more p n = ⊎_elim (λ c. omega (arith, c.1)) (λ c. omega (arith, c.1)) (after_cases p n)

-- after a number that leaves g comes one that leaves 0
mod_next : (x g : ℕ) → x % (g + 1) ≡ g → (x + 1) % (g + 1) ≡ 0
mod_next x g e =
    let parts : x + 1 ≡ (x / (g + 1) + 1) * (g + 1) = omega (arith, div-add-mod' x (g + 1), e, row (x / (g + 1)) (g + 1)) in
    ap (λ y. y % (g + 1)) parts ∙ mul-mod_left (x / (g + 1) + 1) (g + 1)
  where
    row : (a b : ℕ) → (a + 1) * b ≡ a * b + b
    row a b = grind arith

after_no_guard : (p : Shape) (n : ℕ) → 1 ≤ p.guard_interval → IsGuard p (after p n) → ⊥
after_no_guard p n some =
    ⊎_elim
    (λ c e. omega (arith, sym (mod_next (n + 1) p.guard_interval c.0) ∙ ap (λ y. y % (p.guard_interval + 1)) (sym (two (after p n) n c.1)) ∙ e))
    (λ c e. c.0 (ap (λ y. y % (p.guard_interval + 1)) (sym c.1) ∙ e))
    (after_cases p n)

-- ---- keys
module _ {X : Type 0} where
  pub has_times : (k : ℕ) (m : List (ℕ × X)) → has k m ≡ true → 1 ≤ times k (keys m)
  has_times k m e = times_among k (keys m) (sym (has_keys k m) ∙ e)

  pub times_has : (k : ℕ) (m : List (ℕ × X)) → 1 ≤ times k (keys m) → has k m ≡ true
  times_has k m h = has_keys k m ∙ among_times k (keys m) h

  pub not_has_times : (k : ℕ) (m : List (ℕ × X)) → has k m ≡ false → times k (keys m) ≡ 0
  not_has_times k m e = times_none k (keys m) (sym (has_keys k m) ∙ e)

  pub removed_same : (k : ℕ) (m : List (ℕ × X)) → times k (keys (removed k m)) ≡ 0
  removed_same k m = ap (λ (l : List ℕ). times k l) (keys_removed k m) ∙ without_same k (keys m)

  pub removed_other : (q k : ℕ) (m : List (ℕ × X)) → k ≢ q → times q (keys (removed k m)) ≡ times q (keys m)
  removed_other q k m ne = ap (λ (l : List ℕ). times q l) (keys_removed k m) ∙ without_other q k (keys m) ne

  pub put_same : (k : ℕ) (x : X) (m : List (ℕ × X)) → times k (keys (put k x m)) ≡ 1
  put_same k x m = times_here k (keys (removed k m)) ∙ ap (λ (n : ℕ). 1 + n) (removed_same k m)

  pub put_other : (q k : ℕ) (x : X) (m : List (ℕ × X)) → k ≢ q → times q (keys (put k x m)) ≡ times q (keys m)
  put_other q k x m ne = times_apart q k (keys (removed k m)) ne ∙ removed_other q k m ne

pub keys_overlaid : (p : Shape) (a : ℕ) (w : List ℕ) (m : List (ℕ × Slab)) → keys (overlaid_slabs p a w m) ≡ keys m
keys_overlaid p a w [] = refl
keys_overlaid p a w (e ∷ m) = ap (λ (l : List ℕ). e.0 ∷ l) (keys_overlaid p a w m)

-- ---- a free slot is in no list
no_or : (a b c : Bool) → not (a || (b || c)) ≡ true → (a ≡ false) × (b ≡ false) × (c ≡ false)
no_or true b c e = absurd (true≢false (sym e))
no_or false true c e = absurd (true≢false (sym e))
no_or false false true e = absurd (true≢false (sym e))
no_or false false false e = (refl, refl, refl)

pub free_uses : (s : State) (a : ℕ) → not (is_taken s a) ≡ true → uses s a ≡ 0
free_uses s a e =
    let r = no_or (is_live s a) (among a s.quarantined) (among a s.condemned) e in
    omega (arith, not_has_times a s.live r.0, times_none a s.quarantined r.1, times_none a s.condemned r.2)

-- ---- the changes, one by one
-- the slots stay in open slabs where the open slabs stay open
stays : (p : Shape) (s s' : State) (a : ℕ) → ((n : ℕ) → is_open s n ≡ true → is_open s' n ≡ true) → StandsIn p s a → StandsIn p s' a
stays p s s' a keep r = record { slab = r.slab; slot = r.slot; is_place = r.is_place; open_slab = keep r.slab r.open_slab }

open_same : (m m' : List (ℕ × Slab)) (n : ℕ) → keys m' ≡ keys m → has n m ≡ true → has n m' ≡ true
open_same m m' n e h = times_has n m' (subst (λ (l : List ℕ). 1 ≤ times n l) (sym e) (has_times n m h))

pub sound_faults : (p : Shape) (s : State) (f : ℕ) → IsSound p s → IsSound p (record s { faults = f })
sound_faults p s f h = record {
  once = h.once;
  placed = λ a u. stays p s (record s { faults = f }) a (λ n o. o) (h.placed a u);
  was_given = h.was_given;
  slab_once = h.slab_once;
  below_next = h.below_next;
  below_limit = h.below_limit;
  no_guard = h.no_guard;
  next_no_guard = h.next_no_guard;
}

pub sound_bytes : (p : Shape) (s : State) (m : List (ℕ × Slab)) → keys m ≡ keys s.opens → IsSound p s → IsSound p (record s { opens = m })
sound_bytes p s m e h =
    let same : (n : ℕ) → slab_uses (record s { opens = m }) n ≡ slab_uses s n = λ n. ap (λ (l : List ℕ). times n l + (times n s.parked + times n s.shut)) e in
    record {
      once = h.once;
      placed = λ a u. stays p s (record s { opens = m }) a (λ n o. open_same s.opens m n e o) (h.placed a u);
      was_given = h.was_given;
      slab_once = λ n. subst (λ (k : ℕ). k ≤ 1) (sym (same n)) (h.slab_once n);
      below_next = λ n u. h.below_next n (subst (λ (k : ℕ). 1 ≤ k) (same n) u);
      below_limit = λ n u. h.below_limit n (subst (λ (k : ℕ). 1 ≤ k) (same n) u);
      no_guard = λ n u. h.no_guard n (subst (λ (k : ℕ). 1 ≤ k) (same n) u);
      next_no_guard = h.next_no_guard;
    }

pub sound_write : (p : Shape) (s : State) (a : ℕ) (w : List ℕ) → IsSound p s → IsSound p (write p a w s)
sound_write p s a w h = sound_bytes p s (overlaid_slabs p a w s.opens) (keys_overlaid p a w s.opens) h

-- a slot becomes live
pub sound_live : (p : Shape) (s : State) (n i a asked : ℕ) → IsSound p s → IsPlaceOf p a n i → is_open s n ≡ true → uses s a ≡ 0
    → IsSound p (record s { live = put a asked s.live; given = a ∷ s.given })
sound_live p s n i a asked h at_place is_on none =
    let s' : State = record s { live = put a asked s.live; given = a ∷ s.given } in
    let here : (q : ℕ) → a ≡ q → uses s' q ≡ 1 = λ q e. subst (λ (q : ℕ). uses s' q ≡ 1) e (omega (arith, put_same a asked s.live, none)) in
    let there : (q : ℕ) → a ≢ q → uses s' q ≡ uses s q = λ q ne. ap (λ (k : ℕ). k + (times q s.quarantined + times q s.condemned)) (put_other q a asked s.live ne) in
    record {
      once = λ q. ⊎_elim (λ e. omega (arith, here q e)) (λ ne. omega (arith, there q ne, h.once q)) (cases_eq a q);
      placed = λ q u. ⊎_elim
          (λ e. record { slab = n; slot = i; is_place = subst (λ (q : ℕ). IsPlaceOf p q n i) e at_place; open_slab = is_on })
          (λ ne. stays p s s' q (λ m o. o) (h.placed q (omega (arith, there q ne, u))))
          (cases_eq a q);
      was_given = λ q l. ⊎_elim
          (λ e. among_times q (a ∷ s.given) (subst (λ (q : ℕ). 1 ≤ times q (a ∷ s.given)) e (omega (arith, times_here a s.given))))
          (λ ne. among_times q (a ∷ s.given) (omega (arith, times_apart q a s.given ne, times_among q s.given (h.was_given q (times_has q s.live (omega (arith, put_other q a asked s.live ne, has_times q (put a asked s.live) l)))))))
          (cases_eq a q);
      slab_once = h.slab_once;
      below_next = h.below_next;
      below_limit = h.below_limit;
      no_guard = h.no_guard;
      next_no_guard = h.next_no_guard;
    }

pub sound_gives : (p : Shape) (s : State) (n i a asked : ℕ) → IsSound p s → IsPlaceOf p a n i → is_open s n ≡ true → uses s a ≡ 0 → IsSound p (gives p a asked s)
sound_gives p s n i a asked h at_place is_on none =
    let w : List ℕ = to_le_bytes w64 (kept_canary p s a) in
    sound_live p (write p (a + usable p) w s) n i a asked (sound_write p s (a + usable p) w h) at_place (open_same s.opens (overlaid_slabs p (a + usable p) w s.opens) n (keys_overlaid p (a + usable p) w s.opens) is_on) none

-- a slot is condemned
pub sound_condemns : (p : Shape) (s : State) (n i a : ℕ) → IsSound p s → IsPlaceOf p a n i → is_open s n ≡ true → uses s a ≡ 0 → IsSound p (condemns a s)
sound_condemns p s n i a h at_place is_on none =
    let here : (q : ℕ) → a ≡ q → uses (condemns a s) q ≡ 1 = λ q e. subst (λ (q : ℕ). uses (condemns a s) q ≡ 1) e (omega (arith, times_here a s.condemned, none)) in
    let there : (q : ℕ) → a ≢ q → uses (condemns a s) q ≡ uses s q = λ q ne. ap (λ (k : ℕ). times q (keys s.live) + (times q s.quarantined + k)) (times_apart q a s.condemned ne) in
    record {
      once = λ q. ⊎_elim (λ e. omega (arith, here q e)) (λ ne. omega (arith, there q ne, h.once q)) (cases_eq a q);
      placed = λ q u. ⊎_elim
          (λ e. record { slab = n; slot = i; is_place = subst (λ (q : ℕ). IsPlaceOf p q n i) e at_place; open_slab = is_on })
          (λ ne. stays p s (condemns a s) q (λ m o. o) (h.placed q (omega (arith, there q ne, u))))
          (cases_eq a q);
      was_given = h.was_given;
      slab_once = h.slab_once;
      below_next = h.below_next;
      below_limit = h.below_limit;
      no_guard = h.no_guard;
      next_no_guard = h.next_no_guard;
    }

-- a live slot goes into quarantine
sound_quarantined : (p : Shape) (s : State) (a : ℕ) → IsSound p s → is_live s a ≡ true → IsSound p (record s { live = removed a s.live; frees = a ∷ s.frees; quarantined = a ∷ s.quarantined })
sound_quarantined p s a h live =
    let s' : State = record s { live = removed a s.live; frees = a ∷ s.frees; quarantined = a ∷ s.quarantined } in
    let here : (q : ℕ) → a ≡ q → uses s' q ≡ uses s q = λ q e. subst (λ (q : ℕ). uses s' q ≡ uses s q) e (omega (arith, removed_same a s.live, times_here a s.quarantined, has_times a s.live live, h.once a)) in
    let there : (q : ℕ) → a ≢ q → uses s' q ≡ uses s q = λ q ne. omega (arith, removed_other q a s.live ne, times_apart q a s.quarantined ne) in
    let same : (q : ℕ) → uses s' q ≡ uses s q = λ q. ⊎_elim (here q) (there q) (cases_eq a q) in
    record {
      once = λ q. omega (arith, same q, h.once q);
      placed = λ q u. stays p s s' q (λ m o. o) (h.placed q (omega (arith, same q, u)));
      was_given = λ q l. h.was_given q (times_has q s.live (⊎_elim
          (λ e. absurd (omega (arith, has_times q (removed a s.live) l, subst (λ (q : ℕ). times q (keys (removed a s.live)) ≡ 0) e (removed_same a s.live))))
          (λ ne. omega (arith, has_times q (removed a s.live) l, removed_other q a s.live ne))
          (cases_eq a q)));
      slab_once = h.slab_once;
      below_next = h.below_next;
      below_limit = h.below_limit;
      no_guard = h.no_guard;
      next_no_guard = h.next_no_guard;
    }

pub sound_takes_back : (p : Shape) (s : State) (a : ℕ) → IsSound p s → is_live s a ≡ true → IsSound p (takes_back p a s)
sound_takes_back p s a h live = sound_quarantined p (write p a (zeros (usable p)) s) a (sound_write p s a (zeros (usable p)) h) live

pub sound_releases : (p : Shape) (s : State) (o : Option ℕ) → IsSound p s → IsSound p (releases o s)
sound_releases p s None h = h
sound_releases p s (Some b) h =
    let fewer : (q : ℕ) → uses (releases (Some b) s) q ≤ uses s q = λ q. omega (arith, without_le q b s.quarantined) in
    record {
      once = λ q. omega (arith, fewer q, h.once q);
      placed = λ q u. stays p s (releases (Some b) s) q (λ m o. o) (h.placed q (omega (arith, fewer q, u)));
      was_given = h.was_given;
      slab_once = h.slab_once;
      below_next = h.below_next;
      below_limit = h.below_limit;
      no_guard = h.no_guard;
      next_no_guard = h.next_no_guard;
    }

-- slab numbers that are used alike
sound_slabs : (p : Shape) (s s' : State) → ((n : ℕ) → slab_uses s' n ≡ slab_uses s n) → s'.live ≡ s.live → s'.quarantined ≡ s.quarantined → s'.condemned ≡ s.condemned → s'.given ≡ s.given → s'.next ≡ s.next
    → ((a : ℕ) → 1 ≤ uses s a → StandsIn p s a → StandsIn p s' a) → IsSound p s → IsSound p s'
sound_slabs p s s' same live quarantined condemned given next keep h =
    let alike : (a : ℕ) → uses s' a ≡ uses s a = λ a. ap (λ (l : List (ℕ × ℕ)). times a (keys l) + (times a s'.quarantined + times a s'.condemned)) live
    ∙ ap (λ (l : List ℕ). times a (keys s.live) + (times a l + times a s'.condemned)) quarantined ∙ ap (λ (l : List ℕ). times a (keys s.live) + (times a s.quarantined + times a l)) condemned in
    record {
      once = λ a. omega (arith, alike a, h.once a);
      placed = λ a u. let v : 1 ≤ uses s a = omega (arith, alike a, u) in keep a v (h.placed a v);
      was_given = λ a l. ap (λ (g : List ℕ). among a g) given ∙ h.was_given a (ap (λ (m : List (ℕ × ℕ)). has a m) (sym live) ∙ l);
      slab_once = λ n. omega (arith, same n, h.slab_once n);
      below_next = λ n u. subst (λ (k : ℕ). n < k) (sym next) (h.below_next n (omega (arith, same n, u)));
      below_limit = λ n u. h.below_limit n (omega (arith, same n, u));
      no_guard = λ n u. h.no_guard n (omega (arith, same n, u));
      next_no_guard = subst (λ (k : ℕ). IsGuard p k → ⊥) (sym next) h.next_no_guard;
    }

pub sound_unparks : (p : Shape) (s : State) (u : ℕ) → among u s.parked ≡ true → IsSound p s → IsSound p (unparks (Some u) s)
sound_unparks p s u is h =
    let s' : State = unparks (Some u) s in
    let here : (n : ℕ) → u ≡ n → slab_uses s' n ≡ slab_uses s n = λ n e. subst (λ (n : ℕ). slab_uses s' n ≡ slab_uses s n) e
    (omega (arith, without_same u s.parked, times_append u s.shut (u ∷ []), times_here u [], times_among u s.parked is, h.slab_once u)) in
    let there : (n : ℕ) → u ≢ n → slab_uses s' n ≡ slab_uses s n = λ n ne. omega (arith, without_other n u s.parked ne, times_append n s.shut (u ∷ []), times_apart n u [] ne) in
    sound_slabs p s s' (λ n. ⊎_elim (here n) (there n) (cases_eq u n)) refl refl refl refl refl (λ a v r. stays p s s' a (λ m o. o) r) h

all_at : (f : ℕ → Bool) (a n j : ℕ) → list_all f (range_with_len a n) ≡ true → a ≤ j → j < a + n → f j ≡ true
all_at f a zero j e ge lt = absurd (omega arith)
all_at f a (suc n) j e ge lt =
    let r = and_parts (f a) (list_all f (range_with_len (a + 1) n)) e in
    ⊎_elim (λ same. subst (λ (j : ℕ). f j ≡ true) same r.0) (λ ne. all_at f (a + 1) n j r.1 (omega arith) (omega arith)) (cases_eq a j)

-- nothing stands in an empty slab
pub empty_uses : (p : Shape) (s : State) (m a : ℕ) → is_empty p s m ≡ true → (i : ℕ) → IsPlaceOf p a m i → uses s a ≡ 0
empty_uses p s m a e i at_place =
    let f = and_parts (is_open s m) (not (is_taken s (place p m i))) (all_at (is_free p s m) 0 p.slots i e (omega arith) (omega (arith, at_place.slot))) in
    subst (λ (a : ℕ). uses s a ≡ 0) (sym at_place.is) (free_uses s (place p m i) f.1)

pub sound_retires : (p : Shape) (s : State) (m : ℕ) → is_open s m ≡ true → is_empty p s m ≡ true → IsSound p s → IsSound p (retires (Some m) s)
sound_retires p s m on e h =
    let s' : State = retires (Some m) s in
    let here : (n : ℕ) → m ≡ n → slab_uses s' n ≡ slab_uses s n = λ n e. subst (λ (n : ℕ). slab_uses s' n ≡ slab_uses s n) e
    (omega (arith, removed_same m s.opens, times_here m s.parked, has_times m s.opens on, h.slab_once m)) in
    let there : (n : ℕ) → m ≢ n → slab_uses s' n ≡ slab_uses s n = λ n ne. omega (arith, removed_other n m s.opens ne, times_apart n m s.parked ne) in
    sound_slabs p s s' (λ n. ⊎_elim (here n) (there n) (cases_eq m n)) refl refl refl refl refl
    (λ a v r. ⊎_elim
    (λ same. absurd (omega (arith, v, empty_uses p s m a e r.slot (subst (λ (n : ℕ). IsPlaceOf p a n r.slot) (sym same) r.is_place))))
    (λ ne. record { slab = r.slab; slot = r.slot; is_place = r.is_place; open_slab = times_has r.slab (removed m s.opens) (omega (arith, removed_other r.slab m s.opens ne, has_times r.slab s.opens r.open_slab)) })
    (cases_eq m r.slab))
    h

-- a slab is opened
pub open_put : (n m : ℕ) (b : Slab) (l : List (ℕ × Slab)) → has m l ≡ true → has m (put n b l) ≡ true
open_put n m b l e = times_has m (put n b l) (⊎_elim
    (λ same. subst (λ (m : ℕ). 1 ≤ times m (keys (put n b l))) same (omega (arith, put_same n b l)))
    (λ ne. omega (arith, put_other m n b l ne, has_times m l e))
    (cases_eq n m))

next_is : (n next limit : ℕ) → cond (nat_lt next limit) (Some next) None ≡ Some n → (next ≡ n) × (next < limit)
next_is n next limit e =
    elim (nat_lt next limit) as (λ b. nat_lt next limit ≡ b → cond b (Some next) None ≡ Some n → (next ≡ n) × (next < limit)) [
      | true ↦ λ is h. (same_Some next n h, below next limit is)
      | false ↦ λ is h. absurd (none-some n h)
    ] refl e
  where
    below : (a b : ℕ) → nat_lt a b ≡ true → a < b
    below a b e = grind (arith, nat_tests)

pub sound_fresh : (p : Shape) (s : State) (n : ℕ) (b : Slab) → IsShape p → n ≡ s.next → n < p.limit → IsSound p s → IsSound p (record s { next = after p s.next; opens = put n b s.opens })
sound_fresh p s n b shape is lt h =
    let s' : State = record s { next = after p s.next; opens = put n b s.opens } in
    let none : slab_uses s n ≡ 0 = ⊎_elim (λ z. omega arith) (λ u. absurd (omega (arith, is, h.below_next n u))) (cases_lt (slab_uses s n) 1) in
    let here : (m : ℕ) → n ≡ m → slab_uses s' m ≡ 1 = λ m e. subst (λ (m : ℕ). slab_uses s' m ≡ 1) e (omega (arith, put_same n b s.opens, none)) in
    let there : (m : ℕ) → n ≢ m → slab_uses s' m ≡ slab_uses s m = λ m ne. omega (arith, put_other m n b s.opens ne) in
    record {
      once = h.once;
      placed = λ a u. stays p s s' a (λ m o. open_put n m b s.opens o) (h.placed a u);
      was_given = h.was_given;
      slab_once = λ m. ⊎_elim (λ e. omega (arith, here m e)) (λ ne. omega (arith, there m ne, h.slab_once m)) (cases_eq n m);
      below_next = λ m u. ⊎_elim (λ e. omega (arith, e, is, after_more p s.next)) (λ ne. omega (arith, h.below_next m (omega (arith, there m ne, u)), after_more p s.next)) (cases_eq n m);
      below_limit = λ m u. ⊎_elim (λ e. omega (arith, e, lt)) (λ ne. h.below_limit m (omega (arith, there m ne, u))) (cases_eq n m);
      no_guard = λ m u. ⊎_elim (λ e g. h.next_no_guard (subst (λ (k : ℕ). IsGuard p k) (sym e ∙ is) g)) (λ ne. h.no_guard m (omega (arith, there m ne, u))) (cases_eq n m);
      next_no_guard = after_no_guard p s.next shape.guards_some;
    }

pub sound_again : (p : Shape) (s : State) (m : ℕ) (ms : List ℕ) (b : Slab) → s.shut ≡ m ∷ ms → IsSound p s → IsSound p (record s { shut = ms; opens = put m b s.opens })
sound_again p s m ms b is h =
    let s' : State = record s { shut = ms; opens = put m b s.opens } in
    let was : (n : ℕ) → times n s.shut ≡ times n (m ∷ ms) = λ n. ap (λ (l : List ℕ). times n l) is in
    let here : (n : ℕ) → m ≡ n → slab_uses s' n ≡ slab_uses s n = λ n e. subst (λ (n : ℕ). slab_uses s' n ≡ slab_uses s n) e (omega (arith, put_same m b s.opens, was m, times_here m ms, h.slab_once m)) in
    let there : (n : ℕ) → m ≢ n → slab_uses s' n ≡ slab_uses s n = λ n ne. omega (arith, put_other n m b s.opens ne, was n, times_apart n m ms ne) in
    sound_slabs p s s' (λ n. ⊎_elim (here n) (there n) (cases_eq m n)) refl refl refl refl refl (λ a v r. stays p s s' a (λ k o. open_put m k b s.opens o) r) h

pub sound_opened : (p : Shape) (s : State) (o canary : Option ℕ) → IsShape p → IsSound p s → ((n : ℕ) → o ≡ Some n → unopened p s.shut s.next ≡ Some n) → IsSound p (opened p o canary s)
sound_opened p s None canary shape h new = h
sound_opened p s (Some n) canary shape h new =
    let b : Slab = new_slab p (unwrap_or canary 0) in
    elim s.shut as (λ l. s.shut ≡ l → unopened p l s.next ≡ Some n → IsSound p (record (taken_new p l s) { opens = put n b s.opens })) [
      | [] ↦ λ is e. (let r = next_is n s.next p.limit e in sound_fresh p s n b shape (sym r.0) (omega (arith, r.0, r.1)) h)
      | m ∷ ms ↦ λ is e. subst (λ (k : ℕ). IsSound p (record s { shut = ms; opens = put k b s.opens })) (same_Some m n e) (sound_again p s m ms b is h)
    ] refl (new n refl)
