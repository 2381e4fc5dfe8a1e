-- The slabs of a table once a slab went to another list, was opened, or was retired.
use Rattle.std.proofs.Common.{◌≡◌, ◌≢◌, ⊎_elim, ℕ, ◌+◌, ◌<◌, ◌≤◌, Bool, true, false, cond, ◌||◌, [], ◌∷◌, ◌++◌, length, slice_set, slice_index_or, Option, Some, None, is_some, option_map, sym, ◌∙◌, ap, subst, refl, arith, true≢false}
use Rattle.std.specs.FinMap as finite
use Rattle.std.proofs.lemmas.Bool.{cases_eq, cases_Bool, cond-true, cond-false}
use Rattle.std.proofs.lemmas.List.{length-replicate}
use Rattle.std.proofs.lemmas.Option.{same_Some}
use Rattle.hm_class_rules.specs.Kinds.{Kind, Partial, Empty, Neither}
use Rattle.hm_slab_lists.specs.declared.slab.ListName.{ListName}
use Rattle.hm_slab_lists.specs.declared.slab.ListName.TheVariants as name
use Rattle.hm_base.specs.Members.{among}
use Rattle.hm_slab_lists.specs.Lists.{Lists, is_open_in, list_in, gone, headed, placed}
use Rattle.hm_sizes.specs.Guards.{is_guard, after}
use Rattle.hm_slab_lists.specs.Table.{Table, is_open, opened_fresh, opened_retired, settled, settled_by, unparked, retired}
use Rattle.hm_base.proofs.Members.{among_head, among-without_same}
use Rattle.hm_slab_lists.proofs.Tables.{Stays, gone_stays, headed_stays, both_stay, placed_stays}
use Rattle.hm_slab_meta.specs.Uses as meta
use Rattle.hm_slab_meta.specs.Uses.{Never}
use Rattle.hm_class.specs.Slabs.{Slabs, shown, slab_in_table, uses_of, slabs_of, numbers_in, list_of, IsFiled, SameSlots}
use Rattle.hm_class.specs.Uses.{Uses, SlabUse, open_at, kind_at, kind_of, canary_at, changed, fresh_slab, opened_slab, with_slab, with_open}
use Rattle.hm_class.proofs.KindsOf.{named_is}
use Rattle.hm_class.proofs.Tables.{open_now, length_uses, slab_by, kind_shown, slots_some, canary_is, written_here, written_beside, uses_same, uses_set, uses_grown}
use Rattle.hm_class.proofs.Used.{changed_is, slab_new}

-- ---- whether a slab is open, once one went to another list
open_stays : (old new : Lists) (n : ℕ) → Stays old new n → (m : ℕ) → m ≢ n → is_open_in m new ≡ is_open_in m old
open_stays old new n stays m ne =
    ap (λ (b : Bool). b || (among m new.empty || among m new.full)) (stays name.Partial m ne)
    ∙ ap (λ (b : Bool). among m old.partial || (b || among m new.full)) (stays name.Empty m ne)
    ∙ ap (λ (b : Bool). among m old.partial || (among m old.empty || b)) (stays name.Full m ne)

or_true : (b : Bool) → (b || true) ≡ true
or_true true = refl
or_true false = refl

open_headed : (kind : Kind) (n : ℕ) (lists : Lists) → is_open_in n (headed (list_of kind) n lists) ≡ true
open_headed Partial n lists = ap (λ (b : Bool). b || (among n lists.empty || among n lists.full)) (among_head n n lists.partial refl)
open_headed Empty n lists =
    ap (λ (b : Bool). among n lists.partial || (b || among n lists.full)) (among_head n n lists.empty refl) ∙ or_true (among n lists.partial)
open_headed Neither n lists =
    ap (λ (b : Bool). among n lists.partial || (among n lists.empty || b)) (among_head n n lists.full refl)
    ∙ ap (λ (b : Bool). among n lists.partial || b) (or_true (among n lists.empty)) ∙ or_true (among n lists.partial)

open_placed : (kind : Kind) (n : ℕ) (lists : Lists) → is_open_in n lists ≡ true → is_open_in n (placed (list_of kind) n lists) ≡ true
open_placed kind n lists on =
    ⊎_elim
    (λ e. ap (λ (l : Lists). is_open_in n l) (cond-true (among n (list_in lists (list_of kind))) lists (headed (list_of kind) n (gone n lists)) e) ∙ on)
    (λ e. ap (λ (l : Lists). is_open_in n l) (cond-false (among n (list_in lists (list_of kind))) lists (headed (list_of kind) n (gone n lists)) e)
    ∙ open_headed kind n (gone n lists))
    (cases_Bool (among n (list_in lists (list_of kind))))

gone_shut : (n : ℕ) (lists : Lists) → is_open_in n (gone n lists) ≡ false
gone_shut n lists =
    ap (λ (b : Bool). b || (among n (gone n lists).empty || among n (gone n lists).full)) (among-without_same n lists.partial)
    ∙ ap (λ (b : Bool). b || among n (gone n lists).full) (among-without_same n lists.empty)
    ∙ among-without_same n lists.full

-- ---- the slabs that are shown
shown_by : (t t' : Table) (m : ℕ) → finite.get t'.metas m ≡ finite.get t.metas m → is_open m t' ≡ is_open m t → slab_in_table t' m ≡ slab_in_table t m
shown_by t t' m same on =
    ap (λ (o : Option meta.SlabUse). option_map (shown (is_open m t')) o) same
    ∙ ap (λ (b : Bool). option_map (shown b) (finite.get t.metas m)) on

abbrev pub with_lists : Lists → Table → Table
with_lists lists t = record t { lists = lists }

module _ (t : Table) (n : ℕ) (filed : IsFiled t) (on : is_open n t ≡ true) where
  there : (slab : meta.SlabUse) × (finite.get t.metas n ≡ Some slab)
  there = of (finite.get t.metas n) refl
    where
      of : (o : Option meta.SlabUse) → finite.get t.metas n ≡ o → (slab : meta.SlabUse) × (finite.get t.metas n ≡ Some slab)
      of None e = absurd (true≢false (sym (filed.there n on) ∙ ap (λ (o : Option meta.SlabUse). is_some o) e))
      of (Some slab) e = (slab, e)

  -- the list that an open slab goes to
  pub settled_is : settled n t ≡ with_lists (placed (list_of (kind_at (uses_of t) n)) n t.lists) t
  settled_is =
      let slab : meta.SlabUse = there.0 in
      ap (λ (o : Option meta.SlabUse). settled_by o n t) there.1
      ∙ ap (λ (l : ListName). with_lists (placed l n t.lists) t) (named_is slab (slots_some t n filed slab there.1)
      ∙ ap (λ (b : Bool). list_of (kind_of (shown b slab))) (sym on) ∙ ap list_of (sym (kind_shown t n filed (Some slab) there.1)))

  module _ (kind : Kind) where
    abbrev after_placed : Table
    after_placed = with_lists (placed (list_of kind) n t.lists) t

    open_same : (m : ℕ) → is_open m after_placed ≡ is_open m t
    open_same m = ⊎_elim
        (λ (e : m ≡ n). ap (λ (k : ℕ). is_open k after_placed) e ∙ open_placed kind n t.lists on ∙ sym (ap (λ (k : ℕ). is_open k t) e ∙ on))
        (λ (ne : m ≢ n). open_stays t.lists (placed (list_of kind) n t.lists) n (placed_stays (list_of kind) n t.lists) m ne) (cases_eq m n)

    pub uses_placed : uses_of after_placed ≡ uses_of t
    uses_placed = uses_same t after_placed refl (λ m. shown_by t after_placed m refl (open_same m))

    pub filed_placed : IsFiled after_placed
    filed_placed = record { below = filed.below; there = λ m e. filed.there m (sym (open_same m) ∙ e); whole = filed.whole; some = filed.some }

-- what is seen of a table once a slab that is open went to the list of its kind
module _ (t t' : Table) (n : ℕ) (k : Slabs) (filed : IsFiled t) (view : slabs_of t ≡ k) (opened : open_at k.slabs n ≡ true) (is : t' ≡ settled n t) where
  on : is_open n t ≡ true
  on = open_now t n k filed view opened

  placed_is : t' ≡ with_lists (placed (list_of (kind_at (uses_of t) n)) n t.lists) t
  placed_is = is ∙ settled_is t n filed on

  pub settled_uses : uses_of t' ≡ uses_of t
  settled_uses = ap uses_of placed_is ∙ uses_placed t n filed on (kind_at (uses_of t) n)

  pub settled_filed : IsFiled t'
  settled_filed = subst IsFiled (sym placed_is) (filed_placed t n filed on (kind_at (uses_of t) n))

  pub settled_slots : SameSlots k (slabs_of t')
  settled_slots = record {
    slabs = settled_uses ∙ ap (λ (k : Slabs). k.slabs) view;
    parking = ap (λ (t : Table). t.parking) placed_is ∙ ap (λ (k : Slabs). k.parking) view;
    numbers = ap (λ (t : Table). numbers_in t) placed_is ∙ ap (λ (k : Slabs). k.numbers) view;
  }

  pub settled_lists : t'.lists ≡ placed (list_of (kind_at k.slabs n)) n k.lists
  settled_lists = ap (λ (t : Table). t.lists) placed_is ∙ ap (λ (k : Slabs). placed (list_of (kind_at k.slabs n)) n k.lists) view

-- ---- a slab is retired
abbrev pub shuts : SlabUse → SlabUse
shuts b = record { slots = b.slots; canary = b.canary; opened = false }

open_unparked : (o : Option ℕ) (m : ℕ) (lists : Lists) → is_open_in m (unparked o lists) ≡ is_open_in m lists
open_unparked None m lists = refl
open_unparked (Some u) m lists = refl

module _ (t : Table) (n park : ℕ) (filed : IsFiled t) (on : is_open n t ≡ true) where
  open_retiring : (m : ℕ) → m ≢ n → is_open m (retired n park t) ≡ is_open m t
  open_retiring m ne = open_unparked (slice_index_or t.parking park None) m (gone n t.lists) ∙ open_stays t.lists (gone n t.lists) n (gone_stays n t.lists) m ne

  shut_then : is_open n (retired n park t) ≡ false
  shut_then = open_unparked (slice_index_or t.parking park None) n (gone n t.lists) ∙ gone_shut n t.lists

  pub uses_retired : uses_of (retired n park t) ≡ changed (uses_of t) n shuts
  uses_retired =
      let slab : meta.SlabUse = (there t n filed on).0 in
      let is : finite.get t.metas n ≡ Some slab = (there t n filed on).1 in
      uses_set t (retired n park t) n (shown false slab) refl (filed.below n (ap (λ (o : Option meta.SlabUse). is_some o) is))
      (ap (λ (o : Option meta.SlabUse). option_map (shown (is_open n (retired n park t))) o) is ∙ ap (λ (b : Bool). Some (shown b slab)) shut_then)
      (λ m ne. shown_by t (retired n park t) m refl (open_retiring m ne))
      ∙ sym (changed_is (uses_of t) n shuts (shown (is_open n t) slab) (slab_by t n filed (Some slab) is))

  pub filed_retired : IsFiled (retired n park t)
  filed_retired = record {
    below = filed.below;
    there = λ m e. ⊎_elim
        (λ (same : m ≡ n). absurd (true≢false (sym e ∙ ap (λ (k : ℕ). is_open k (retired n park t)) same ∙ shut_then)))
        (λ (ne : m ≢ n). filed.there m (sym (open_retiring m ne) ∙ e)) (cases_eq m n);
    whole = filed.whole;
    some = filed.some;
  }

-- ---- a slab that was retired is opened
module _ (t : Table) (n : ℕ) (slab : meta.SlabUse) (filed : IsFiled t) (is : finite.get t.metas n ≡ Some slab) where
  open_beside : (m : ℕ) → m ≢ n → is_open m (opened_retired n t) ≡ is_open m t
  open_beside = open_stays t.lists (headed name.Empty n (gone n t.lists)) n
      (both_stay t.lists (gone n t.lists) (headed name.Empty n (gone n t.lists)) n (gone_stays n t.lists) (headed_stays name.Empty n (gone n t.lists)))

  pub uses_reopened : uses_of (opened_retired n t) ≡ with_open (uses_of t) n (canary_at (uses_of t) n)
  uses_reopened =
      uses_set t (opened_retired n t) n (shown true slab) refl (filed.below n (ap (λ (o : Option meta.SlabUse). is_some o) is))
      (ap (λ (o : Option meta.SlabUse). option_map (shown (is_open n (opened_retired n t))) o) is ∙ ap (λ (b : Bool). Some (shown b slab)) (open_headed Empty n (gone n t.lists)))
      (λ m ne. shown_by t (opened_retired n t) m refl (open_beside m ne))
      ∙ sym (ap (λ (c : ℕ). with_open (uses_of t) n c) (canary_is t n filed (Some slab) is)
      ∙ changed_is (uses_of t) n (opened_slab slab.canary) (shown (is_open n t) slab) (slab_by t n filed (Some slab) is))

  pub filed_reopened : IsFiled (opened_retired n t)
  filed_reopened = record {
    below = filed.below;
    there = λ m e. ⊎_elim
        (λ (same : m ≡ n). ap (λ (k : ℕ). is_some (finite.get t.metas k)) same ∙ ap (λ (o : Option meta.SlabUse). is_some o) is)
        (λ (ne : m ≢ n). filed.there m (sym (open_beside m ne) ∙ e)) (cases_eq m n);
    whole = filed.whole;
    some = filed.some;
  }

-- ---- a fresh slab is opened
set_new : (uses tail : Uses) (x y : Option SlabUse) → slice_set ((uses ++ x ∷ []) ++ tail) (length uses) y ≡ (uses ++ y ∷ []) ++ tail
set_new [] tail x y = refl
set_new (o ∷ uses) tail x y = ap (λ (l : Uses). o ∷ l) (set_new uses tail x y)

changed_new : (g : ℕ) (uses : Uses) (x : SlabUse) (f : SlabUse → SlabUse) → changed (with_slab g uses x) (length uses) f ≡ with_slab g uses (f x)
changed_new g uses x f =
    changed_is (with_slab g uses x) (length uses) f x (slab_new g uses x)
    ∙ set_new uses (cond (is_guard g (length uses + 1)) (None ∷ []) []) (Some x) (Some (f x))

grows : (g n : ℕ) → n < after g n
grows g n = of (is_guard g (n + 1))
  where
    of : (b : Bool) → n < cond b (n + 2) (n + 1)
    of true = omega arith
    of false = omega arith

module _ (t : Table) (n : ℕ) (filed : IsFiled t) (is : n ≡ t.next) where
  none_from : (m : ℕ) → t.next ≤ m → finite.get t.metas m ≡ None
  none_from m ge = of (finite.get t.metas m) refl
    where
      of : (o : Option meta.SlabUse) → finite.get t.metas m ≡ o → o ≡ None
      of None e = refl
      of (Some slab) e = absurd (omega (arith, ge, filed.below m (ap (λ (o : Option meta.SlabUse). is_some o) e)))

  fresh_beside : (m : ℕ) → m ≢ n → is_open m (opened_fresh n t) ≡ is_open m t
  fresh_beside = open_stays t.lists (headed name.Empty n t.lists) n (headed_stays name.Empty n t.lists)

  here : slab_in_table (opened_fresh n t) n ≡ Some (shown true (meta.fresh_slab t.slots))
  here = ap (λ (o : Option meta.SlabUse). option_map (shown (is_open n (opened_fresh n t))) o) (written_here t n (meta.fresh_slab t.slots))
      ∙ ap (λ (b : Bool). Some (shown b (meta.fresh_slab t.slots))) (open_headed Empty n t.lists)

  beside : (m : ℕ) → m ≢ n → slab_in_table (opened_fresh n t) m ≡ slab_in_table t m
  beside m ne = shown_by t (opened_fresh n t) m (written_beside t n (meta.fresh_slab t.slots) m ne) (fresh_beside m ne)

  pub uses_opened : uses_of (opened_fresh n t) ≡ with_open (with_slab t.guard_interval (uses_of t) (fresh_slab t.slots)) n (canary_at (uses_of t) n)
  uses_opened =
      uses_grown t (opened_fresh n t) t.guard_interval (shown true (meta.fresh_slab t.slots)) (ap (after t.guard_interval) is)
      (ap (λ (m : ℕ). slab_in_table (opened_fresh n t) m) (sym is) ∙ here)
      (beside (t.next + 1) (λ e. omega (arith, e, is)) ∙ ap (λ (o : Option meta.SlabUse). option_map (shown (is_open (t.next + 1) t)) o) (none_from (t.next + 1) (omega arith)))
      (λ m lt. beside m (λ e. omega (arith, e, is, lt)))
      ∙ sym (ap (λ (c : ℕ). with_open (with_slab t.guard_interval (uses_of t) (fresh_slab t.slots)) n c) (canary_is t n filed None (none_from n (omega (arith, is))))
      ∙ ap (λ (m : ℕ). with_open (with_slab t.guard_interval (uses_of t) (fresh_slab t.slots)) m 0) (is ∙ sym (length_uses t))
      ∙ changed_new t.guard_interval (uses_of t) (fresh_slab t.slots) (opened_slab 0))

  pub filed_opened : IsFiled (opened_fresh n t)
  filed_opened = record {
    below = λ m e. ⊎_elim
        (λ (same : m ≡ n). omega (arith, same, grows t.guard_interval n))
        (λ (ne : m ≢ n). omega (arith, is, grows t.guard_interval n, filed.below m (ap (λ (o : Option meta.SlabUse). is_some o) (sym (written_beside t n (meta.fresh_slab t.slots) m ne)) ∙ e))) (cases_eq m n);
    there = λ m e. ⊎_elim
        (λ (same : m ≡ n). ap (λ (k : ℕ). is_some (finite.get (finite.insert t.metas n (meta.fresh_slab t.slots)) k)) same ∙ ap (λ (o : Option meta.SlabUse). is_some o) (written_here t n (meta.fresh_slab t.slots)))
        (λ (ne : m ≢ n). ap (λ (o : Option meta.SlabUse). is_some o) (written_beside t n (meta.fresh_slab t.slots) m ne) ∙ filed.there m (sym (fresh_beside m ne) ∙ e)) (cases_eq m n);
    whole = λ m slab e. ⊎_elim
        (λ (same : m ≡ n). ap (λ (x : meta.SlabUse). length x.slots) (sym (same_Some (meta.fresh_slab t.slots) slab (sym (written_here t n (meta.fresh_slab t.slots)) ∙ ap (λ (k : ℕ). finite.get (finite.insert t.metas n (meta.fresh_slab t.slots)) k) (sym same) ∙ e)))
        ∙ length-replicate t.slots Never)
        (λ (ne : m ≢ n). filed.whole m slab (sym (written_beside t n (meta.fresh_slab t.slots) m ne) ∙ e)) (cases_eq m n);
    some = filed.some;
  }
