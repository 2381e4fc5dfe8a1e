-- In which list a slab stands, and how the lists change as it goes to the list of its kind, is opened, or is retired.
use Rattle.std.proofs.Common.{◌≡◌, ◌≢◌, ⊎_elim, ℕ, ◌≤◌, true, false, List, [], ◌∷◌, ◌++◌, Option, Some, None, sym, ◌∙◌, ap, subst, refl, arith, true≢false}
use Rattle.std.specs.Option.{option_map_or}
use Rattle.std.proofs.lemmas.Bool.{cases_eq, cases_Bool, cond-true, cond-false}
use Rattle.hm_model.specs.Maps.{times}
use Rattle.hm_model.proofs.Lists.{times_here, times_among}
use Rattle.hm_class_rules.specs.Kinds.{Kind, Partial, Empty, Neither, same_kind}
use Rattle.hm_class_rules.specs.Stepped.{listed}
use Rattle.hm_slab_lists.specs.declared.slab.ListName.{ListName}
use Rattle.hm_slab_lists.specs.declared.slab.ListName.TheVariants as name
use Rattle.hm_base.specs.Members.{among, without}
use Rattle.hm_slab_lists.specs.Lists.{Lists, list_in, gone, headed, placed}
use Rattle.hm_slab_lists.specs.Table.{unparked}
use Rattle.hm_base.proofs.Members.{among_head, without_skip, without_none, among-without_same}
use Rattle.hm_slab_lists.proofs.Tables.{gone_stays, placed_stays}
use Rattle.hm_class.specs.Kept.{IsFull, AreFull}
use Rattle.hm_class.specs.Slabs.{list_of, opened_in}
use Rattle.hm_class.specs.Uses.{Uses, SlabUse, slab_in, kind_at, kind_of, open_at}

-- an open slab of this kind stands in its list alone
pub record Stands (lists : Lists) (n : ℕ) (kind : Kind) : Type 0 where
  pub partial : among n lists.partial ≡ same_kind kind Partial
  pub empty : among n lists.empty ≡ same_kind kind Empty
  pub full : among n lists.full ≡ true → kind ≡ Neither
  pub retired : among n lists.retired ≡ false

-- a slab that is not open stands in none of the three lists, and once at most among those that are shut
pub record IsLoose (lists : Lists) (n : ℕ) : Type 0 where
  pub partial : among n lists.partial ≡ false
  pub empty : among n lists.empty ≡ false
  pub full : among n lists.full ≡ false
  pub once : times n lists.retired ≤ 1

-- the lists, once slab n, which was `before`, is `after`
pub record Relisted (old new : Lists) (n : ℕ) (before after : Kind) : Type 0 where
  pub partial : new.partial ≡ listed Partial n before after old.partial
  pub empty : new.empty ≡ listed Empty n before after old.empty
  pub retired : new.retired ≡ old.retired

-- what was unparked joins those that are shut
abbrev pub with_unparked : List ℕ → Option ℕ → List ℕ
with_unparked shut None = shut
with_unparked shut (Some u) = shut ++ u ∷ []

-- those that are shut once the first of them is opened
abbrev pub still_shut : List ℕ → List ℕ
still_shut [] = []
still_shut (m ∷ ms) = ms

partial_not : Partial ≡ Neither → ⊥
partial_not e = true≢false (ap (λ (k : Kind). same_kind Partial k) e)

empty_not : Empty ≡ Neither → ⊥
empty_not e = true≢false (ap (λ (k : Kind). same_kind Empty k) e)

-- ---- to the list of its kind
module _ (lists : Lists) (n : ℕ) where
  stays : (list : ListName) → among n (list_in lists list) ≡ true → placed list n lists ≡ lists
  stays list e = cond-true (among n (list_in lists list)) lists (headed list n (gone n lists)) e

  moves : (list : ListName) → among n (list_in lists list) ≡ false → placed list n lists ≡ headed list n (gone n lists)
  moves list e = cond-false (among n (list_in lists list)) lists (headed list n (gone n lists)) e

  stayed : (list : ListName) (kind : Kind) → placed list n lists ≡ lists → Stands lists n kind → Relisted lists (placed list n lists) n kind kind
  stayed list Partial is s = record { partial = ap (λ (l : Lists). l.partial) is; empty = ap (λ (l : Lists). l.empty) is; retired = ap (λ (l : Lists). l.retired) is }
  stayed list Empty is s = record { partial = ap (λ (l : Lists). l.partial) is; empty = ap (λ (l : Lists). l.empty) is; retired = ap (λ (l : Lists). l.retired) is }
  stayed list Neither is s = record { partial = ap (λ (l : Lists). l.partial) is; empty = ap (λ (l : Lists). l.empty) is; retired = ap (λ (l : Lists). l.retired) is }

  -- what is left of each list without the slab
  left_partial : (before after : Kind) → Stands lists n before → same_kind after Partial ≡ false → without n lists.partial ≡ listed Partial n before after lists.partial
  left_partial Partial Partial s apart = absurd (true≢false apart)
  left_partial Partial Empty s apart = refl
  left_partial Partial Neither s apart = refl
  left_partial Empty Partial s apart = absurd (true≢false apart)
  left_partial Empty Empty s apart = without_none n lists.partial s.partial
  left_partial Empty Neither s apart = without_none n lists.partial s.partial
  left_partial Neither Partial s apart = absurd (true≢false apart)
  left_partial Neither Empty s apart = without_none n lists.partial s.partial
  left_partial Neither Neither s apart = without_none n lists.partial s.partial

  left_empty : (before after : Kind) → Stands lists n before → same_kind after Empty ≡ false → without n lists.empty ≡ listed Empty n before after lists.empty
  left_empty Empty Empty s apart = absurd (true≢false apart)
  left_empty Empty Partial s apart = refl
  left_empty Empty Neither s apart = refl
  left_empty Partial Empty s apart = absurd (true≢false apart)
  left_empty Partial Partial s apart = without_none n lists.empty s.empty
  left_empty Partial Neither s apart = without_none n lists.empty s.empty
  left_empty Neither Empty s apart = absurd (true≢false apart)
  left_empty Neither Partial s apart = without_none n lists.empty s.empty
  left_empty Neither Neither s apart = without_none n lists.empty s.empty

  to_partial : (before : Kind) → same_kind before Partial ≡ false → Stands lists n before → Relisted lists (placed name.Partial n lists) n before Partial
  to_partial before other s =
      let is = moves name.Partial (s.partial ∙ other) in
      record {
        partial = ap (λ (l : Lists). l.partial) is ∙ ap (λ (l : List ℕ). n ∷ l) (without_none n lists.partial (s.partial ∙ other)) ∙ joins before other;
        empty = ap (λ (l : Lists). l.empty) is ∙ left_empty before Partial s refl;
        retired = ap (λ (l : Lists). l.retired) is ∙ without_none n lists.retired s.retired;
      }
    where
      joins : (before : Kind) → same_kind before Partial ≡ false → n ∷ lists.partial ≡ listed Partial n before Partial lists.partial
      joins Partial e = absurd (true≢false e)
      joins Empty e = refl
      joins Neither e = refl

  to_empty : (before : Kind) → same_kind before Empty ≡ false → Stands lists n before → Relisted lists (placed name.Empty n lists) n before Empty
  to_empty before other s =
      let is = moves name.Empty (s.empty ∙ other) in
      record {
        partial = ap (λ (l : Lists). l.partial) is ∙ left_partial before Empty s refl;
        empty = ap (λ (l : Lists). l.empty) is ∙ ap (λ (l : List ℕ). n ∷ l) (without_none n lists.empty (s.empty ∙ other)) ∙ joins before other;
        retired = ap (λ (l : Lists). l.retired) is ∙ without_none n lists.retired s.retired;
      }
    where
      joins : (before : Kind) → same_kind before Empty ≡ false → n ∷ lists.empty ≡ listed Empty n before Empty lists.empty
      joins Empty e = absurd (true≢false e)
      joins Partial e = refl
      joins Neither e = refl

  to_full : (before : Kind) → among n lists.full ≡ false → Stands lists n before → Relisted lists (placed name.Full n lists) n before Neither
  to_full before other s =
      let is = moves name.Full other in
      record {
        partial = ap (λ (l : Lists). l.partial) is ∙ left_partial before Neither s refl;
        empty = ap (λ (l : Lists). l.empty) is ∙ left_empty before Neither s refl;
        retired = ap (λ (l : Lists). l.retired) is ∙ without_none n lists.retired s.retired;
      }

  from_full : (before : Kind) → Stands lists n before → among n lists.full ≡ true → Relisted lists (placed name.Full n lists) n before Neither
  from_full before s e = subst (λ (k : Kind). Relisted lists (placed name.Full n lists) n k Neither) (sym (s.full e))
      (stayed name.Full Neither (stays name.Full e) (subst (λ (k : Kind). Stands lists n k) (s.full e) s))

  pub placed_relisted : (before after : Kind) → Stands lists n before → Relisted lists (placed (list_of after) n lists) n before after
  placed_relisted Partial Partial s = stayed name.Partial Partial (stays name.Partial s.partial) s
  placed_relisted Empty Partial s = to_partial Empty refl s
  placed_relisted Neither Partial s = to_partial Neither refl s
  placed_relisted Empty Empty s = stayed name.Empty Empty (stays name.Empty s.empty) s
  placed_relisted Partial Empty s = to_empty Partial refl s
  placed_relisted Neither Empty s = to_empty Neither refl s
  placed_relisted before Neither s = ⊎_elim (from_full before s) (λ e. to_full before e s) (cases_Bool (among n lists.full))

  -- ---- retired
  unparked_is : (u : Option ℕ) (l : Lists) → ((unparked u l).partial ≡ l.partial) × ((unparked u l).empty ≡ l.empty) × ((unparked u l).full ≡ l.full) × ((unparked u l).retired ≡ with_unparked l.retired u)
  unparked_is None l = (refl, refl, refl, refl)
  unparked_is (Some m) l = (refl, refl, refl, refl)

  module _ (u : Option ℕ) (before : Kind) (s : Stands lists n before) where
    pub retired_partial : (unparked u (gone n lists)).partial ≡ listed Partial n before Neither lists.partial
    retired_partial = (unparked_is u (gone n lists)).0 ∙ left_partial before Neither s refl

    pub retired_empty : (unparked u (gone n lists)).empty ≡ listed Empty n before Neither lists.empty
    retired_empty = (unparked_is u (gone n lists)).1 ∙ left_empty before Neither s refl

    pub retired_shut : (unparked u (gone n lists)).retired ≡ with_unparked lists.retired u
    retired_shut = (unparked_is u (gone n lists)).3 ∙ ap (λ (l : List ℕ). with_unparked l u) (without_none n lists.retired s.retired)

-- ---- opened
module _ (lists : Lists) (n : ℕ) (l : IsLoose lists n) where
  pub opened_partial : (shut : List ℕ) → (opened_in shut n lists).partial ≡ lists.partial
  opened_partial [] = refl
  opened_partial (m ∷ ms) = without_none n lists.partial l.partial

  pub opened_empty : (shut : List ℕ) → (opened_in shut n lists).empty ≡ n ∷ lists.empty
  opened_empty [] = refl
  opened_empty (m ∷ ms) = ap (λ (l : List ℕ). n ∷ l) (without_none n lists.empty l.empty)

  pub opened_full : (shut : List ℕ) → (opened_in shut n lists).full ≡ lists.full
  opened_full [] = refl
  opened_full (m ∷ ms) = without_none n lists.full l.full

  -- the slab that is opened is the first of those that are shut, if any is
  pub opened_shut : (shut : List ℕ) → lists.retired ≡ shut → ((m : ℕ) (ms : List ℕ) → shut ≡ m ∷ ms → m ≡ n) → (opened_in shut n lists).retired ≡ still_shut shut
  opened_shut [] is first = is
  opened_shut (m ∷ ms) is first =
      let same : m ≡ n = first m ms refl in
      ap (λ (l : List ℕ). without n l) is ∙ without_skip n m ms same ∙ without_none n ms (none_more m ms is same)
    where
      none_more : (m : ℕ) (ms : List ℕ) → lists.retired ≡ m ∷ ms → m ≡ n → among n ms ≡ false
      none_more m ms is same = ⊎_elim
          (λ e. absurd (omega (arith, l.once, ap (λ (l : List ℕ). times n l) is, ap (λ (k : ℕ). times n (k ∷ ms)) same, times_here n ms, times_among n ms e)))
          (λ e. e) (cases_Bool (among n ms))

  pub opened_stands : (shut : List ℕ) → (shut ≡ [] → lists.retired ≡ []) → Stands (opened_in shut n lists) n Empty
  opened_stands shut none = record {
    partial = ap (λ (l : List ℕ). among n l) (opened_partial shut) ∙ l.partial;
    empty = ap (λ (l : List ℕ). among n l) (opened_empty shut) ∙ among_head n n lists.empty refl;
    full = λ e. absurd (true≢false (sym e ∙ ap (λ (l : List ℕ). among n l) (opened_full shut) ∙ l.full));
    retired = of shut none;
  }
    where
      of : (shut : List ℕ) → (shut ≡ [] → lists.retired ≡ []) → among n (opened_in shut n lists).retired ≡ false
      of [] none = ap (λ (l : List ℕ). among n l) (none refl)
      of (m ∷ ms) none = among-without_same n lists.retired

-- the lists of a slab that was opened, and then went to the list of its kind
pub opened_then_partial : (n : ℕ) (after : Kind) (list : List ℕ) → listed Partial n Empty after list ≡ listed Partial n Neither after list
opened_then_partial n Partial list = refl
opened_then_partial n Empty list = refl
opened_then_partial n Neither list = refl

pub opened_then_empty : (n : ℕ) (after : Kind) (list : List ℕ) → among n list ≡ false → listed Empty n Empty after (n ∷ list) ≡ listed Empty n Neither after list
opened_then_empty n Partial list none = without_skip n n list refl ∙ without_none n list none
opened_then_empty n Empty list none = refl
opened_then_empty n Neither list none = without_skip n n list refl ∙ without_none n list none

-- ---- the full list
full_beside : (uses uses' : Uses) (m : ℕ) → slab_in uses' m ≡ slab_in uses m → IsFull uses m → IsFull uses' m
full_beside uses uses' m same is = (
  ap (λ (o : Option SlabUse). option_map_or (λ (b : SlabUse). b.opened) o false) same ∙ is.0,
  ap (λ (o : Option SlabUse). option_map_or kind_of o Neither) same ∙ is.1,
)

pub placed_full : (uses uses' : Uses) {lists : Lists} {n : ℕ} {before : Kind} (after : Kind) → Stands lists n before → AreFull uses lists.full → open_at uses' n ≡ true → kind_at uses' n ≡ after
    → ((m : ℕ) → m ≢ n → slab_in uses' m ≡ slab_in uses m) → AreFull uses' (placed (list_of after) n lists).full
placed_full uses uses' {lists = lists} {n = n} {before = before} after s full on is beside m at =
    ⊎_elim
    (λ (e : m ≡ n). subst (λ (k : ℕ). IsFull uses' k) (sym e) (on, is ∙ here after before s (ap (λ (k : ℕ). among k (placed (list_of after) n lists).full) (sym e) ∙ at)))
    (λ (ne : m ≢ n). full_beside uses uses' m (beside m ne) (full m (sym (placed_stays (list_of after) n lists name.Full m ne) ∙ at)))
    (cases_eq m n)
  where
    left : (list : ListName) → placed list n lists ≡ headed list n (gone n lists) → (headed list n (gone n lists)).full ≡ without n lists.full → among n (placed list n lists).full ≡ true → ⊥
    left list is rest e = true≢false (sym e ∙ ap (λ (l : Lists). among n l.full) is ∙ ap (λ (l : List ℕ). among n l) rest ∙ among-without_same n lists.full)

    here : (after before : Kind) → Stands lists n before → among n (placed (list_of after) n lists).full ≡ true → after ≡ Neither
    here Neither before s e = refl
    here Partial Partial s e = absurd (partial_not (s.full (ap (λ (l : Lists). among n l.full) (sym (stays lists n name.Partial s.partial)) ∙ e)))
    here Partial Empty s e = absurd (left name.Partial (moves lists n name.Partial s.partial) refl e)
    here Partial Neither s e = absurd (left name.Partial (moves lists n name.Partial s.partial) refl e)
    here Empty Empty s e = absurd (empty_not (s.full (ap (λ (l : Lists). among n l.full) (sym (stays lists n name.Empty s.empty)) ∙ e)))
    here Empty Partial s e = absurd (left name.Empty (moves lists n name.Empty s.empty) refl e)
    here Empty Neither s e = absurd (left name.Empty (moves lists n name.Empty s.empty) refl e)

pub retired_full : (uses uses' : Uses) (lists : Lists) (n : ℕ) (u : Option ℕ) → AreFull uses lists.full → ((m : ℕ) → m ≢ n → slab_in uses' m ≡ slab_in uses m) → AreFull uses' (unparked u (gone n lists)).full
retired_full uses uses' lists n u full beside m at =
    let e : among m (without n lists.full) ≡ true = ap (λ (l : List ℕ). among m l) (sym (unparked_is lists n u (gone n lists)).2) ∙ at in
    ⊎_elim
    (λ (same : m ≡ n). absurd (true≢false (sym e ∙ ap (λ (k : ℕ). among k (without n lists.full)) same ∙ among-without_same n lists.full)))
    (λ (ne : m ≢ n). full_beside uses uses' m (beside m ne) (full m (sym (gone_stays n lists name.Full m ne) ∙ e)))
    (cases_eq m n)

pub same_full : (uses uses' : Uses) (full full' : List ℕ) → uses' ≡ uses → full' ≡ full → AreFull uses full → AreFull uses' full'
same_full uses uses' full full' is same are m at =
    subst (λ (u : Uses). IsFull u m) (sym is) (are m (ap (λ (l : List ℕ). among m l) (sym same) ∙ at))

pub opened_are_full : (uses uses' : Uses) (lists : Lists) (n : ℕ) (shut : List ℕ) → IsLoose lists n → AreFull uses lists.full → ((m : ℕ) → m ≢ n → slab_in uses' m ≡ slab_in uses m)
    → AreFull uses' (opened_in shut n lists).full
opened_are_full uses uses' lists n shut l full beside m at =
    let e : among m lists.full ≡ true = ap (λ (xs : List ℕ). among m xs) (sym (opened_full lists n l shut)) ∙ at in
    full_beside uses uses' m (beside m (λ same. true≢false (sym e ∙ ap (λ (k : ℕ). among k lists.full) same ∙ l.full))) (full m e)
