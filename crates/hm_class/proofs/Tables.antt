-- The slabs of a table, after each call on it.
use Rattle.std.proofs.Common.{◌≡◌, ◌≢◌, ⊎_elim, ℕ, zero, suc, ◌+◌, ◌<◌, ◌≤◌, Bool, true, false, cond, List, [], ◌∷◌, ◌++◌, map, length, get_or, slice_get, slice_set, slice_index_or, Option, Some, None, is_some, IfSome, option_map, sym, ◌∙◌, ap, subst, refl, arith, append-nil, true≢false}
use Rattle.std.specs.List.{range_with_len}
use Rattle.std.specs.Option.{option_and_then, option_map_or, option_copied_mut}
use Rattle.std.specs.Borrow.{MutBor}
use Rattle.std.specs.FinMap as finite
use Rattle.std.specs.FinMap.{get-insert, get-empty}
use Rattle.std.specs.Cmp.{nat_cmp_total}
use Rattle.std.specs.Ordering.{nat_cmp, eq_by_cmp}
use Rattle.std.proofs.lemmas.Bool.{cases_eq, cases_lt, cond-true, cond-false}
use Rattle.std.proofs.lemmas.List.{length-set, get_or-set_same, get_or-set_other, same_lists}
use Rattle.std.proofs.lemmas.List.FromFn.{get_or-map-range_with_len, length-map-range_with_len, map-range_with_len_more}
use Rattle.std.proofs.lemmas.Option.{slice_get-get_or, slice_get_past, get_or_from_slice_get, none-some, same_Some}
use Rattle.hm_class_rules.specs.Kinds.{Neither}
use Rattle.hm_sizes.specs.Guards.{is_guard, after}
use Rattle.hm_slab_lists.specs.Table.{Table, new_table, is_open}
use Rattle.hm_slab_lists.specs.TableLending.{with_meta_of}
use Rattle.hm_slab_lists.proofs.ByNumber.{is_tie, no_tie}
use Rattle.hm_slab_meta.specs.Uses as meta
use Rattle.hm_slab_meta.specs.Uses.{Never, Free, Live, Quarantined, Condemned, was_given}
use Rattle.hm_class.specs.Slabs.{Slabs, shown, slab_in_table, uses_of, slabs_of, IsFiled}
use Rattle.hm_class.specs.Uses.{Uses, SlabUse, kind_of, kind_at, occupied, passes_at, slab_in, use_at, open_at, canary_at, changed, with_slab}
use Rattle.hm_class.specs.Sources.{IsWithin}
use Rattle.hm_class.proofs.Used.{changed_is, changed_none}

-- ---- the list of the slabs
module _ (t : Table) where
  pub length_uses : length (uses_of t) ≡ t.next
  unfolding uses_of
  length_uses = length-map-range_with_len (slab_in_table t) 0 t.next

  pub get_uses : (n : ℕ) (d : Option SlabUse) → n < t.next → get_or (uses_of t) n d ≡ slab_in_table t n
  unfolding uses_of
  get_uses n d lt = get_or-map-range_with_len (slab_in_table t) 0 t.next n n d lt (omega arith)

pub slab_is : (t : Table) (n : ℕ) → IsFiled t → slab_in (uses_of t) n ≡ slab_in_table t n
slab_is t n filed =
    ⊎_elim
    (λ (lt : n < t.next).
    ap (λ (o : Option (Option SlabUse)). option_and_then (λ slab. slab) o) (slice_get-get_or (uses_of t) n None (omega (arith, length_uses t, lt)))
    ∙ get_uses t n None lt)
    (λ (ge : t.next ≤ n).
    ap (λ (o : Option (Option SlabUse)). option_and_then (λ slab. slab) o) (slice_get_past (uses_of t) n (omega (arith, length_uses t, ge)))
    ∙ sym (ap (λ (o : Option meta.SlabUse). option_map (shown (is_open n t)) o) (none_past ge)))
    (cases_lt n t.next)
  where
    none_past : t.next ≤ n → finite.get t.metas n ≡ None
    none_past ge = of (finite.get t.metas n) refl
      where
        of : (o : Option meta.SlabUse) → finite.get t.metas n ≡ o → o ≡ None
        of None e = refl
        of (Some slab) e = absurd (omega (arith, ge, filed.below n (ap (λ (o : Option meta.SlabUse). is_some o) e)))

pub uses_same : (t t' : Table) → t'.next ≡ t.next → ((m : ℕ) → slab_in_table t' m ≡ slab_in_table t m) → uses_of t' ≡ uses_of t
uses_same t t' next same =
    same_lists (uses_of t') (uses_of t) (length_uses t' ∙ next ∙ sym (length_uses t))
    (λ k d lt. get_uses t' k d (omega (arith, lt, length_uses t')) ∙ same k ∙ sym (get_uses t k d (omega (arith, lt, length_uses t', next))))

pub uses_set : (t t' : Table) (n : ℕ) (b : SlabUse) → t'.next ≡ t.next → n < t.next → slab_in_table t' n ≡ Some b
    → ((m : ℕ) → m ≢ n → slab_in_table t' m ≡ slab_in_table t m) → uses_of t' ≡ slice_set (uses_of t) n (Some b)
uses_set t t' n b next below here beside =
    same_lists (uses_of t') (slice_set (uses_of t) n (Some b)) (length_uses t' ∙ next ∙ sym (length_uses t) ∙ sym (length-set (uses_of t) n (Some b)))
    (λ k d lt. get_uses t' k d (omega (arith, lt, length_uses t')) ∙ ⊎_elim
    (λ (e : k ≡ n). ap (λ (m : ℕ). slab_in_table t' m) e ∙ here
    ∙ sym (ap (λ (m : ℕ). get_or (slice_set (uses_of t) n (Some b)) m d) e ∙ get_or-set_same (uses_of t) n (Some b) d (omega (arith, below, length_uses t))))
    (λ (ne : k ≢ n). beside k ne ∙ sym (get_uses t k d (omega (arith, lt, length_uses t', next)))
    ∙ sym (get_or-set_other (uses_of t) n k (Some b) d ne))
    (cases_eq k n))

-- a fresh slab was put at the next number
pub uses_grown : (t t' : Table) (g : ℕ) (b : SlabUse) → t'.next ≡ after g t.next → slab_in_table t' t.next ≡ Some b → slab_in_table t' (t.next + 1) ≡ None
    → ((m : ℕ) → m < t.next → slab_in_table t' m ≡ slab_in_table t m) → uses_of t' ≡ with_slab g (uses_of t) b
unfolding uses_of
uses_grown t t' g b next here guard before =
    ap (λ (n : ℕ). map f (range_with_len 0 n)) next
    ∙ of (is_guard g (t.next + 1))
    ∙ ap (λ (n : ℕ). (uses_of t ++ Some b ∷ []) ++ cond (is_guard g (n + 1)) (None ∷ []) []) (sym (length_uses t))
  where
    f : ℕ → Option SlabUse
    f = slab_in_table t'

    base : map f (range_with_len 0 t.next) ≡ uses_of t
    base = same_lists (map f (range_with_len 0 t.next)) (uses_of t) (length-map-range_with_len f 0 t.next ∙ sym (length_uses t))
        (λ k d lt. let below : k < t.next = omega (arith, lt, length-map-range_with_len f 0 t.next) in
        get_or-map-range_with_len f 0 t.next k k d below (omega arith) ∙ before k below ∙ sym (get_uses t k d below))

    one : map f (range_with_len 0 (t.next + 1)) ≡ uses_of t ++ Some b ∷ []
    one = map-range_with_len_more f 0 t.next t.next (omega arith)
        ∙ ap (λ (l : Uses). l ++ f t.next ∷ []) base ∙ ap (λ (o : Option SlabUse). uses_of t ++ o ∷ []) here

    two : map f (range_with_len 0 ((t.next + 1) + 1)) ≡ (uses_of t ++ Some b ∷ []) ++ None ∷ []
    two = map-range_with_len_more f 0 (t.next + 1) (t.next + 1) (omega arith)
        ∙ ap (λ (l : Uses). l ++ f (t.next + 1) ∷ []) one ∙ ap (λ (o : Option SlabUse). (uses_of t ++ Some b ∷ []) ++ o ∷ []) guard

    of : (x : Bool) → map f (range_with_len 0 (cond x (t.next + 2) (t.next + 1))) ≡ (uses_of t ++ Some b ∷ []) ++ cond x (None ∷ []) []
    of true = ap (λ (n : ℕ). map f (range_with_len 0 n)) (omega arith) ∙ two
    of false = one ∙ sym (append-nil (uses_of t ++ Some b ∷ []))

-- ---- what is kept of one slab is written
module _ (t : Table) (n : ℕ) (slab : meta.SlabUse) where
  pub written_here : finite.get (finite.insert t.metas n slab) n ≡ Some slab
  written_here = get-insert nat_cmp_total t.metas n slab n ∙ cond-true (eq_by_cmp nat_cmp n n) (Some slab) (finite.get t.metas n) (is_tie n n refl)

  pub written_beside : (m : ℕ) → m ≢ n → finite.get (finite.insert t.metas n slab) m ≡ finite.get t.metas m
  written_beside m ne = get-insert nat_cmp_total t.metas n slab m ∙ cond-false (eq_by_cmp nat_cmp m n) (Some slab) (finite.get t.metas m) (no_tie m n ne)

-- a slab that is there is written
module _ (t : Table) (n : ℕ) (old new : meta.SlabUse) (filed : IsFiled t) (is : finite.get t.metas n ≡ Some old) where
  pub there_shown : slab_in (uses_of t) n ≡ Some (shown (is_open n t) old)
  there_shown = slab_is t n filed ∙ ap (λ (o : Option meta.SlabUse). option_map (shown (is_open n t)) o) is

  pub there_below : n < t.next
  there_below = filed.below n (ap (λ (o : Option meta.SlabUse). is_some o) is)

  pub uses_written : (f : SlabUse → SlabUse) → f (shown (is_open n t) old) ≡ shown (is_open n t) new → uses_of (with_meta_of t n new) ≡ changed (uses_of t) n f
  uses_written f same =
      uses_set t (with_meta_of t n new) n (shown (is_open n t) new) refl there_below
      (ap (λ (o : Option meta.SlabUse). option_map (shown (is_open n t)) o) (written_here t n new))
      (λ m ne. ap (λ (o : Option meta.SlabUse). option_map (shown (is_open m t)) o) (written_beside t n new m ne))
      ∙ sym (changed_is (uses_of t) n f (shown (is_open n t) old) there_shown ∙ ap (λ (b : SlabUse). slice_set (uses_of t) n (Some b)) same)

  pub filed_written : length new.slots ≡ length old.slots → IsFiled (with_meta_of t n new)
  filed_written long = record {
    below = λ m e. ⊎_elim (λ (same : m ≡ n). omega (arith, same, there_below)) (λ (ne : m ≢ n). filed.below m (ap (λ (o : Option meta.SlabUse). is_some o) (sym (written_beside t n new m ne)) ∙ e)) (cases_eq m n);
    there = λ m e. ⊎_elim
        (λ (same : m ≡ n). ap (λ (k : ℕ). is_some (finite.get (finite.insert t.metas n new) k)) same ∙ ap (λ (o : Option meta.SlabUse). is_some o) (written_here t n new))
        (λ (ne : m ≢ n). ap (λ (o : Option meta.SlabUse). is_some o) (written_beside t n new m ne) ∙ filed.there m e) (cases_eq m n);
    whole = λ m slab e. ⊎_elim
        (λ (same : m ≡ n). ap (λ (x : meta.SlabUse). length x.slots) (sym (same_Some new slab (sym (written_here t n new) ∙ ap (λ (k : ℕ). finite.get (finite.insert t.metas n new) k) (sym same) ∙ e)))
        ∙ long ∙ filed.whole n old is)
        (λ (ne : m ≢ n). filed.whole m slab (sym (written_beside t n new m ne) ∙ e)) (cases_eq m n);
    some = filed.some;
  }

-- ---- what is read of a slab
module _ (t : Table) (n : ℕ) (filed : IsFiled t) where
  -- a slab that is there, or is not
  pub slab_by : (o : Option meta.SlabUse) → finite.get t.metas n ≡ o → slab_in (uses_of t) n ≡ option_map (shown (is_open n t)) o
  slab_by o is = slab_is t n filed ∙ ap (λ (o : Option meta.SlabUse). option_map (shown (is_open n t)) o) is

  pub open_is : open_at (uses_of t) n ≡ is_open n t
  open_is = of (finite.get t.metas n) refl
    where
      of : (o : Option meta.SlabUse) → finite.get t.metas n ≡ o → open_at (uses_of t) n ≡ is_open n t
      of None is = ap (λ (o : Option SlabUse). option_map_or (λ (b : SlabUse). b.opened) o false) (slab_by None is)
          ∙ sym (none_open (is_open n t) (λ e. true≢false (sym (filed.there n e) ∙ ap (λ (o : Option meta.SlabUse). is_some o) is)))
        where
          none_open : (b : Bool) → (b ≡ true → ⊥) → b ≡ false
          none_open true h = absurd (h refl)
          none_open false h = refl
      of (Some slab) is = ap (λ (o : Option SlabUse). option_map_or (λ (b : SlabUse). b.opened) o false) (slab_by (Some slab) is)

  pub canary_is : (o : Option meta.SlabUse) → finite.get t.metas n ≡ o → canary_at (uses_of t) n ≡ option_map_or (λ (m : meta.SlabUse). m.canary) o 0
  canary_is None is = ap (λ (o : Option SlabUse). option_map_or (λ (b : SlabUse). b.canary) o 0) (slab_by None is)
  canary_is (Some slab) is = ap (λ (o : Option SlabUse). option_map_or (λ (b : SlabUse). b.canary) o 0) (slab_by (Some slab) is)

-- ---- what is lent of a slab
-- a slab that is lent is there
pub lent_is : (o : Option (MutBor meta.SlabUse)) (r : MutBor meta.SlabUse) (got : Option meta.SlabUse) → option_copied_mut o ≡ got → o ≡ Some r → got ≡ Some r.now
lent_is o r got value is = sym value ∙ ap option_copied_mut is

pub none_lent : (o : Option (MutBor meta.SlabUse)) (got : Option meta.SlabUse) → option_copied_mut o ≡ got → o ≡ None → got ≡ None
none_lent o got value is = sym value ∙ ap option_copied_mut is

-- a slab that is not there
module _ (t : Table) (n : ℕ) (filed : IsFiled t) (none : finite.get t.metas n ≡ None) where
  pub none_changed : (f : SlabUse → SlabUse) → changed (uses_of t) n f ≡ uses_of t
  none_changed f = changed_none (uses_of t) n f (slab_by t n filed None none)

  pub none_use : (i : ℕ) → use_at (uses_of t) n i ≡ None
  none_use i = ap (λ (o : Option SlabUse). option_and_then (λ (b : SlabUse). slice_get b.slots i) o) (slab_by t n filed None none)

  pub none_used : (i : ℕ) (u : meta.SlotUse) → use_at (uses_of t) n i ≡ Some u → ⊥
  none_used i u is = none-some u (sym (none_use i) ∙ is)

-- a slot of a slab that is there
module _ (t : Table) (n i : ℕ) (slab : meta.SlabUse) (filed : IsFiled t) (is : finite.get t.metas n ≡ Some slab) where
  pub use_is : use_at (uses_of t) n i ≡ slice_get slab.slots i
  use_is = ap (λ (o : Option SlabUse). option_and_then (λ (b : SlabUse). slice_get b.slots i) o) (slab_by t n filed (Some slab) is)

  pub within_slots : IsWithin (uses_of t) n i → i < length slab.slots
  within_slots lt = subst (λ (o : Option SlabUse). IfSome o (λ (b : SlabUse). i < length b.slots)) (slab_by t n filed (Some slab) is) lt

  pub same_slot : (u : meta.SlotUse) → use_at (uses_of t) n i ≡ Some u → slice_get slab.slots i ≡ Some u
  same_slot u was = sym use_is ∙ was

  pub available_slot : option_map occupied (use_at (uses_of t) n i) ≡ Some false → option_map meta.is_available (slice_get slab.slots i) ≡ Some true
  available_slot free = of (slice_get slab.slots i) (ap (λ (o : Option meta.SlotUse). option_map occupied o) (sym use_is) ∙ free)
    where
      of : (o : Option meta.SlotUse) → option_map occupied o ≡ Some false → option_map meta.is_available o ≡ Some true
      of None e = absurd (none-some false e)
      of (Some Never) e = refl
      of (Some Free) e = refl
      of (Some Live) e = absurd (true≢false (same_Some true false e))
      of (Some Quarantined) e = absurd (true≢false (same_Some true false e))
      of (Some (Condemned given)) e = absurd (true≢false (same_Some true false e))

  pub given_slot : was_given (meta.use_at slab i) ≡ passes_at was_given (uses_of t) n i
  given_slot = of (slice_get slab.slots i) refl ∙ ap (λ (o : Option meta.SlotUse). option_map_or was_given o false) (sym use_is)
    where
      of : (o : Option meta.SlotUse) → slice_get slab.slots i ≡ o → was_given (meta.use_at slab i) ≡ option_map_or was_given o false
      of None e = ap (λ (u : meta.SlotUse). was_given u) (past slab.slots i e)
        where
          past : (xs : List meta.SlotUse) (j : ℕ) → slice_get xs j ≡ None → slice_index_or xs j Never ≡ Never
          past [] j e = refl
          past (x ∷ xs) zero e = absurd (none-some x (sym e))
          past (x ∷ xs) (suc j) e = past xs j e
      of (Some u) e = ap (λ (u : meta.SlotUse). was_given u) (get_or_from_slice_get slab.slots i u Never e)

-- ---- a new table
pub filed_new : (limit g park_length slots : ℕ) → 1 ≤ slots → IsFiled (new_table limit g park_length slots)
filed_new limit g park_length slots some = record {
  below = λ n e. absurd (true≢false (sym e ∙ ap (λ (o : Option meta.SlabUse). is_some o) (get-empty nat_cmp n)));
  there = λ n e. absurd (true≢false (sym e));
  whole = λ n slab e. absurd (none-some slab (sym (get-empty nat_cmp n) ∙ e));
  some = some;
}

-- ---- what a slab is
module _ (t : Table) (n : ℕ) (filed : IsFiled t) where
  pub kind_shown : (o : Option meta.SlabUse) → finite.get t.metas n ≡ o
      → kind_at (uses_of t) n ≡ option_map_or (λ (slab : meta.SlabUse). kind_of (shown (is_open n t) slab)) o Neither
  kind_shown None is = ap (λ (o : Option SlabUse). option_map_or kind_of o Neither) (slab_by t n filed None is)
  kind_shown (Some slab) is = ap (λ (o : Option SlabUse). option_map_or kind_of o Neither) (slab_by t n filed (Some slab) is)

  pub slots_some : (slab : meta.SlabUse) → finite.get t.metas n ≡ Some slab → 1 ≤ length slab.slots
  slots_some slab is = omega (arith, filed.whole n slab is, filed.some)

-- an open slab, as the layers above see it
pub open_now : (t : Table) (n : ℕ) (k : Slabs) → IsFiled t → slabs_of t ≡ k → open_at k.slabs n ≡ true → is_open n t ≡ true
open_now t n k filed view on = sym (open_is t n filed) ∙ ap (λ (k : Slabs). open_at k.slabs n) view ∙ on

-- a slab that is there
pub meta_there : (t : Table) (n : ℕ) → IsFiled t → is_some (slab_in (uses_of t) n) ≡ true → (slab : meta.SlabUse) × (finite.get t.metas n ≡ Some slab)
meta_there t n filed some = of (finite.get t.metas n) refl
  where
    of : (o : Option meta.SlabUse) → finite.get t.metas n ≡ o → (slab : meta.SlabUse) × (finite.get t.metas n ≡ Some slab)
    of None e = absurd (true≢false (sym some ∙ ap (λ (o : Option SlabUse). is_some o) (slab_by t n filed None e)))
    of (Some slab) e = (slab, e)
