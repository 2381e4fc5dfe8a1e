-- How slots are used after one of them changed, or a slab was opened.
use Rattle.std.proofs.Common.{◌≡◌, ◌≢◌, ⊎_elim, ℕ, zero, suc, ◌+◌, ◌<◌, ◌≤◌, Bool, true, false, cond, List, [], ◌∷◌, ◌++◌, length, get_or, slice_get, slice_set, replicate, Option, Some, None, is_some, option_map, count_by, sum_by, sym, ◌∙◌, ap, subst, refl, arith, length-append, append-nil, true≢false}
use Rattle.std.specs.Option.{option_and_then, option_map_or}
use Rattle.std.proofs.lemmas.Bool.{cases_eq}
use Rattle.std.proofs.lemmas.List.{length-set, get_or-set_same, set-get_or, set-set}
use Rattle.std.proofs.lemmas.List.Sums.{sum_by-set, sum_by-cons, sum_by_push, sum_by-append}
use Rattle.std.proofs.lemmas.Option.{slice_get_within, get_or_from_slice_get, slice_get-get_or, slice_get_past, none-some}
use Rattle.hm_sizes.specs.Guards.{is_guard, after}
use Rattle.hm_slab_meta.specs.Uses.{SlotUse}
use Rattle.hm_slab_meta.specs.Uses.{Never, Free, Live, Quarantined, Condemned}
use Rattle.hm_class.specs.Uses.{Uses, SlabUse, Numbers, lives, occupied, live_count, slab_in, open_at, use_at, changed, with_slot, with_use, with_slab, with_canary, with_canary_at, with_open, opened_slab, fresh_slab, taken_uses, count_in}
use Rattle.hm_class.proofs.Counts.{mapped, weight, count_set}
use Rattle.hm_class.proofs.Found.{slab_there}

-- ---- lists
module _ {X : Type 0} where
  pub get_set_same : (xs : List X) (i : ℕ) (y : X) → i < length xs → slice_get (slice_set xs i y) i ≡ Some y
  get_set_same xs i y lt = slice_get-get_or (slice_set xs i y) i y (omega (arith, length-set xs i y, lt)) ∙ ap (λ x. Some x) (get_or-set_same xs i y y lt)

  pub get_set_other : (xs : List X) (i j : ℕ) (y : X) → j ≢ i → slice_get (slice_set xs i y) j ≡ slice_get xs j
  get_set_other [] i j y ne = refl
  get_set_other (x ∷ xs) zero zero y ne = absurd (ne refl)
  get_set_other (x ∷ xs) zero (suc j) y ne = refl
  get_set_other (x ∷ xs) (suc i) zero y ne = refl
  get_set_other (x ∷ xs) (suc i) (suc j) y ne = get_set_other xs i j y (λ e. ne (ap (λ n. suc n) e))

-- ---- one slab changes
module _ (uses : Uses) (n : ℕ) (f : SlabUse → SlabUse) (b : SlabUse) (is : slab_in uses n ≡ Some b) where
  pub changed_is : changed uses n f ≡ slice_set uses n (Some (f b))
  changed_is = ap (λ (o : Option SlabUse). slice_set uses n (option_map f o)) is

  pub within : n < length uses
  within = slice_get_within uses n (Some b) (slab_there uses n b is)

  pub slab_changed : slab_in (changed uses n f) n ≡ Some (f b)
  slab_changed =
      ap (λ (l : Uses). slab_in l n) changed_is
      ∙ ap (λ (o : Option (Option SlabUse)). option_and_then (λ slab. slab) o) (get_set_same uses n (Some (f b)) within)

  pub slab_beside : (m : ℕ) → m ≢ n → slab_in (changed uses n f) m ≡ slab_in uses m
  slab_beside m ne =
      ap (λ (l : Uses). slab_in l m) changed_is
      ∙ ap (λ (o : Option (Option SlabUse)). option_and_then (λ slab. slab) o) (get_set_other uses n m (Some (f b)) ne)

  pub length_changed : length (changed uses n f) ≡ length uses
  length_changed = ap (λ (l : Uses). length l) changed_is ∙ length-set uses n (Some (f b))

  there : get_or uses n None ≡ Some b
  there = get_or_from_slice_get uses n (Some b) None (slab_there uses n b is)

  -- the slots that pass a test
  pub count_changed : (test : SlotUse → Bool) → sum_by (count_in test) (changed uses n f) + count_by test b.slots ≡ sum_by (count_in test) uses + count_by test (f b).slots
  count_changed test =
      let old : count_in test (get_or uses n None) ≡ count_by test b.slots = ap (count_in test) there in
      let all : sum_by (count_in test) (changed uses n f) ≡ sum_by (count_in test) (slice_set uses n (Some (f b))) = ap (sum_by (count_in test)) changed_is in
      omega (arith, sum_by-set (count_in test) uses n (Some (f b)) None within, old, all)

  -- what is said of each slab, where it is said of this one and of the others
  pub each_slab : (Says : ℕ → Option SlabUse → Type 0) → Says n (Some (f b)) → ((m : ℕ) → m ≢ n → Says m (slab_in uses m)) → (m : ℕ) → Says m (slab_in (changed uses n f) m)
  each_slab Says here beside m =
      ⊎_elim
      (λ e. subst (λ (k : ℕ). Says k (slab_in (changed uses n f) k)) (sym e) (subst (λ (o : Option SlabUse). Says n o) (sym slab_changed) here))
      (λ ne. subst (λ (o : Option SlabUse). Says m o) (sym (slab_beside m ne)) (beside m ne))
      (cases_eq m n)

-- where there is no slab nothing changes
pub changed_none : (uses : Uses) (n : ℕ) (f : SlabUse → SlabUse) → slab_in uses n ≡ None → changed uses n f ≡ uses
changed_none uses n f none =
    ap (λ (o : Option SlabUse). slice_set uses n (option_map f o)) none
    ∙ ap (λ (o : Option SlabUse). slice_set uses n o) (sym (no_slab (slice_get uses n) refl none)) ∙ set-get_or uses n None
  where
    no_slab : (o : Option (Option SlabUse)) → slice_get uses n ≡ o → option_and_then (λ slab. slab) o ≡ None → get_or uses n None ≡ None
    no_slab None is e = get_or_past uses n is
      where
        get_or_past : (xs : Uses) (i : ℕ) → slice_get xs i ≡ None → get_or xs i None ≡ None
        get_or_past [] i e = refl
        get_or_past (x ∷ xs) zero e = absurd (none-some x (sym e))
        get_or_past (x ∷ xs) (suc i) e = get_or_past xs i e
    no_slab (Some o) is e = get_or_from_slice_get uses n o None is ∙ e

-- a slab that is there changes twice
pub changed_twice : (uses : Uses) (n : ℕ) (f g : SlabUse → SlabUse) (b : SlabUse) → slab_in uses n ≡ Some b
    → changed (changed uses n f) n g ≡ changed uses n (λ (b : SlabUse). g (f b))
changed_twice uses n f g b is =
    changed_is (changed uses n f) n g (f b) (slab_changed uses n f b is)
    ∙ ap (λ (l : Uses). slice_set l n (Some (g (f b)))) (changed_is uses n f b is)
    ∙ set-set uses n (Some (f b)) (Some (g (f b)))
    ∙ sym (changed_is uses n (λ (b : SlabUse). g (f b)) b is)

pub open_changed : (uses : Uses) (n : ℕ) (f : SlabUse → SlabUse) (b : SlabUse) → slab_in uses n ≡ Some b → (f b).opened ≡ b.opened → open_at (changed uses n f) n ≡ open_at uses n
open_changed uses n f b is same =
    ap (λ (o : Option SlabUse). option_map_or (λ (b : SlabUse). b.opened) o false) (slab_changed uses n f b is) ∙ same
    ∙ ap (λ (o : Option SlabUse). option_map_or (λ (b : SlabUse). b.opened) o false) (sym is)

pub some_slab : (o : Option SlabUse) → is_some o ≡ true → (b : SlabUse) × (o ≡ Some b)
some_slab None e = absurd (true≢false (sym e))
some_slab (Some b) e = (b, refl)

pub open_there : (uses : Uses) (n : ℕ) → open_at uses n ≡ true → (b : SlabUse) × (slab_in uses n ≡ Some b)
open_there uses n on = of (slab_in uses n) refl on
  where
    of : (o : Option SlabUse) → slab_in uses n ≡ o → option_map_or (λ (b : SlabUse). b.opened) o false ≡ true → (b : SlabUse) × (slab_in uses n ≡ Some b)
    of None is e = absurd (true≢false (sym e))
    of (Some b) is e = (b, is)

-- ---- one slot changes
module _ (uses : Uses) (n i : ℕ) (u : SlotUse) (b : SlabUse) (is : slab_in uses n ≡ Some b) where
  pub use_here : i < length b.slots → use_at (with_use uses n i u) n i ≡ Some u
  use_here lt = ap (λ (o : Option SlabUse). option_and_then (λ (b : SlabUse). slice_get b.slots i) o) (slab_changed uses n (with_slot i u) b is) ∙ get_set_same b.slots i u lt

  pub use_beside : (j : ℕ) → j ≢ i → use_at (with_use uses n i u) n j ≡ use_at uses n j
  use_beside j ne =
      ap (λ (o : Option SlabUse). option_and_then (λ (b : SlabUse). slice_get b.slots j) o) (slab_changed uses n (with_slot i u) b is)
      ∙ get_set_other b.slots i j u ne
      ∙ ap (λ (o : Option SlabUse). option_and_then (λ (b : SlabUse). slice_get b.slots j) o) (sym is)

  pub use_there : (m j : ℕ) → m ≢ n → use_at (with_use uses n i u) m j ≡ use_at uses m j
  use_there m j ne = ap (λ (o : Option SlabUse). option_and_then (λ (b : SlabUse). slice_get b.slots j) o) (slab_beside uses n (with_slot i u) b is m ne)

  -- the slots that pass a test
  pub count_with_use : (test : SlotUse → Bool) (v : SlotUse) → slice_get b.slots i ≡ Some v
      → sum_by (count_in test) (with_use uses n i u) + weight test v ≡ sum_by (count_in test) uses + weight test u
  count_with_use test v was = omega (arith, count_changed uses n (with_slot i u) b is test, count_set test b.slots i v u was)

-- a slot and its slab
pub record IsFound (uses : Uses) (n i : ℕ) (u : SlotUse) : Type 0 where
  pub slab : SlabUse
  pub is_slab : slab_in uses n ≡ Some slab
  pub is_use : slice_get slab.slots i ≡ Some u

pub found : (uses : Uses) (n i : ℕ) (u : SlotUse) → use_at uses n i ≡ Some u → IsFound uses n i u
found uses n i u e = of (slab_in uses n) refl e
  where
    of : (o : Option SlabUse) → slab_in uses n ≡ o → option_and_then (λ (b : SlabUse). slice_get b.slots i) o ≡ Some u → IsFound uses n i u
    of None is e = absurd (none-some u e)
    of (Some b) is e = record { slab = b; is_slab = is; is_use = e }

-- how many pass a test, once a slot that is there is used otherwise
pub counted : (test : SlotUse → Bool) (uses : Uses) (n i : ℕ) (u v : SlotUse) → use_at uses n i ≡ Some v
    → sum_by (count_in test) (with_use uses n i u) + weight test v ≡ sum_by (count_in test) uses + weight test u
counted test uses n i u v e = let f = found uses n i v e in count_with_use uses n i u f.slab f.is_slab test v f.is_use

-- ---- how many are live
free_weighs : (u : SlotUse) → occupied u ≡ false → weight lives u ≡ 0
free_weighs Never e = refl
free_weighs Free e = refl
free_weighs Live e = absurd (true≢false e)
free_weighs Quarantined e = absurd (true≢false e)
free_weighs (Condemned given) e = absurd (true≢false e)

module _ (uses : Uses) (n i : ℕ) where
  pub live_given : option_map occupied (use_at uses n i) ≡ Some false → live_count (with_use uses n i Live) ≡ live_count uses + 1
  live_given free =
      let v = mapped occupied (use_at uses n i) false free in
      omega (arith, counted lives uses n i Live v.0 v.1, free_weighs v.0 v.2)

  pub live_condemned : (given : Bool) → option_map occupied (use_at uses n i) ≡ Some false → live_count (with_use uses n i (Condemned given)) ≡ live_count uses
  live_condemned given free =
      let v = mapped occupied (use_at uses n i) false free in
      omega (arith, counted lives uses n i (Condemned given) v.0 v.1, free_weighs v.0 v.2)

  pub live_quarantined : use_at uses n i ≡ Some Live → live_count (with_use uses n i Quarantined) + 1 ≡ live_count uses
  live_quarantined was = omega (arith, counted lives uses n i Quarantined Live was)

  pub live_freed : use_at uses n i ≡ Some Quarantined → live_count (with_use uses n i Free) ≡ live_count uses
  live_freed was = omega (arith, counted lives uses n i Free Quarantined was)

-- ---- a slab is opened
slab_guard : (uses : Uses) (m : ℕ) → slab_in (uses ++ None ∷ []) m ≡ slab_in uses m
slab_guard [] zero = refl
slab_guard [] (suc m) = refl
slab_guard (o ∷ uses) zero = refl
slab_guard (o ∷ uses) (suc m) = slab_guard uses m

slab_push : (uses : Uses) (b : SlabUse) → slab_in (uses ++ Some b ∷ []) (length uses) ≡ Some b
slab_push [] b = refl
slab_push (o ∷ uses) b = slab_push uses b

slab_before : (uses : Uses) (b : SlabUse) (m : ℕ) → m ≢ length uses → slab_in (uses ++ Some b ∷ []) m ≡ slab_in uses m
slab_before [] b zero ne = absurd (ne refl)
slab_before [] b (suc m) ne = refl
slab_before (o ∷ uses) b zero ne = refl
slab_before (o ∷ uses) b (suc m) ne = slab_before uses b m (λ e. ne (ap (λ n. suc n) e))

module _ (g : ℕ) (uses : Uses) (b : SlabUse) where
  guarded : (t : Bool) (m : ℕ) → slab_in ((uses ++ Some b ∷ []) ++ cond t (None ∷ []) []) m ≡ slab_in (uses ++ Some b ∷ []) m
  guarded true m = slab_guard (uses ++ Some b ∷ []) m
  guarded false m = ap (λ (l : Uses). slab_in l m) (append-nil (uses ++ Some b ∷ []))

  pub slab_new : slab_in (with_slab g uses b) (length uses) ≡ Some b
  slab_new = guarded (is_guard g (length uses + 1)) (length uses) ∙ slab_push uses b

  pub slab_old : (m : ℕ) → m ≢ length uses → slab_in (with_slab g uses b) m ≡ slab_in uses m
  slab_old m ne = guarded (is_guard g (length uses + 1)) m ∙ slab_before uses b m ne

  pub length_with_slab : length (with_slab g uses b) ≡ after g (length uses)
  length_with_slab = of (is_guard g (length uses + 1))
    where
      of : (t : Bool) → length ((uses ++ Some b ∷ []) ++ cond t (None ∷ []) []) ≡ cond t (length uses + 2) (length uses + 1)
      of true = omega (arith, length-append (uses ++ Some b ∷ []) (None ∷ []), length-append uses (Some b ∷ []))
      of false = omega (arith, length-append (uses ++ Some b ∷ []) [], length-append uses (Some b ∷ []))

  pub count_with_slab : (test : SlotUse → Bool) → sum_by (count_in test) (with_slab g uses b) ≡ sum_by (count_in test) uses + count_by test b.slots
  count_with_slab test = of (is_guard g (length uses + 1))
    where
      of : (t : Bool) → sum_by (count_in test) ((uses ++ Some b ∷ []) ++ cond t (None ∷ []) []) ≡ sum_by (count_in test) uses + count_by test b.slots
      of true = omega (arith, sum_by_push (count_in test) (uses ++ Some b ∷ []) None, sum_by_push (count_in test) uses (Some b))
      of false = omega (arith, sum_by-append (count_in test) (uses ++ Some b ∷ []) [], sum_by_push (count_in test) uses (Some b))

-- no slot of a new slab passes a test that one never given fails
pub none_new : (test : SlotUse → Bool) (n : ℕ) → test Never ≡ false → count_by test (replicate n Never) ≡ 0
none_new test zero fails = refl
none_new test (suc n) fails =
    sum_by-cons (λ (u : SlotUse). cond (test u) 1 0) Never (replicate n Never) ∙ ap (λ (b : Bool). cond b 1 0 + count_by test (replicate n Never)) fails ∙ omega (arith, none_new test n fails)

pub new_slot : (n i : ℕ) → i < n → slice_get (replicate n Never) i ≡ Some Never
new_slot zero i lt = absurd (omega arith)
new_slot (suc n) zero lt = refl
new_slot (suc n) (suc i) lt = new_slot n i (omega arith)

-- a slab that gets a canary, or is opened, has as many live slots as before
pub live_sealed : (uses : Uses) (n canary : ℕ) → live_count (with_canary_at uses n canary) ≡ live_count uses
live_sealed uses n canary = of (slab_in uses n) refl
  where
    of : (o : Option SlabUse) → slab_in uses n ≡ o → live_count (with_canary_at uses n canary) ≡ live_count uses
    of None is = ap live_count (changed_none uses n (with_canary canary) is)
    of (Some b) is = omega (arith, count_changed uses n (with_canary canary) b is lives)

live_taken : (q : Numbers) (l : List ℕ) (all : Uses) → live_count (taken_uses q l all) ≡ live_count all
live_taken q [] all = omega (arith, count_with_slab q.guard_interval all (fresh_slab q.slots) lives, none_new lives q.slots refl)
live_taken q (m ∷ ms) all = refl

pub live_opened : (q : Numbers) (l : List ℕ) (all : Uses) (n canary : ℕ) → is_some (slab_in (taken_uses q l all) n) ≡ true
    → live_count (with_open (taken_uses q l all) n canary) ≡ live_count all
live_opened q l all n canary there =
    let b = some_slab (slab_in (taken_uses q l all) n) there in
    omega (arith, count_changed (taken_uses q l all) n (opened_slab canary) b.0 b.1 lives, live_taken q l all)

-- a number from the end on is no slab's
pub slab_past : (uses : Uses) (n : ℕ) → length uses ≤ n → slab_in uses n ≡ None
slab_past uses n le = ap (λ (o : Option (Option SlabUse)). option_and_then (λ slab. slab) o) (slice_get_past uses n le)
