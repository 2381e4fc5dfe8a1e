-- The table after each call: what is kept, and what contracts see.
use Rattle.std.proofs.Common.{◌≡◌, ◌≢◌, ℕ, zero, suc, ◌-◌, ◌^◌, ◌<◌, ◌≤◌, inl, inr, Bool, true, false, List, map, [], ◌∷◌, ◌++◌, length, refl, sym, ap, subst, ◌∙◌, arith, length-append}
use Rattle.std.proofs.Math.ListN.{set, length-set}
use Rattle.std.proofs.lemmas.Bool.{cases_eq, cases_Bool, both_ways, or_cases, ltb-true, cond-true, cond-false}
use Rattle.std.proofs.lemmas.Option.{none-some, same_Some, slice_get_within}
use Rattle.std.specs.Prelude.{◌||◌, nat_lt, Option, Some, None, slice_get, slice_index_or, replicate, IsSome}
use Rattle.std.specs.Option.{ghost_name_of, option_copied_mut}
use Rattle.std.specs.Borrow.{MutBor}
use borrow.Follows.Closed.{read_of}
use Rattle.std.specs.FinMap as finite
use Rattle.hm_slab_meta.specs.Uses.{SlabUse, fresh_slab}
use Rattle.hm_slab_lists.specs.declared.slab.ListName.{ListName}
use Rattle.hm_slab_lists.specs.declared.slab.ListName.TheVariants.{Partial, Empty, Full, Retired}
use Rattle.hm_slab_lists.specs.Chained.{Chained, no_slabs, with_lists, with_slab}
use Rattle.hm_slab_lists.specs.ChainsLending.{with_meta_at}
use Rattle.hm_slab_lists.specs.TableLending.{with_meta_of}
use Rattle.hm_slab_lists.specs.Links.{front}
use Rattle.hm_base.specs.Members.{among}
use Rattle.hm_slab_lists.specs.Lists.{Lists, no_lists, is_open_in, list_in, gone, headed, ended, placed, IsLoose}
use Rattle.hm_sizes.specs.Guards.{after}
use Rattle.hm_slab_lists.specs.Numbers.{nth_slab}
use Rattle.hm_slab_lists.specs.Table.{Table, opened_fresh, opened_retired, settled, settled_by, unparked, retired, is_open, numbered, shown, IsParked, IsTable}
use Rattle.hm_slab_lists.specs.Named.{list_named}
use Rattle.hm_slab_lists.specs.Sources.{fresh_or_none, first_of, source_of}
use Rattle.hm_slab_lists.specs.declared.slab_lists.Place.TheVariants as place
use Rattle.hm_slab_lists.proofs.Indices.{get-set_same, get-set_other, cases_name, list_same, list_other}
use Rattle.hm_base.proofs.Members.{among_head, among_tail, among-without_other, among-last_other}
use Rattle.hm_slab_lists.proofs.Unlinking.{gone_in}
use Rattle.hm_slab_lists.proofs.Whole.{gone_loose}
use Rattle.hm_slab_lists.proofs.Numbering.{same_index, nth-after, among-numbers, list_in-numbered, numbered-gone, numbered-headed, numbered-ended, numbered-placed, numbered_member}
use Rattle.hm_slab_lists.proofs.ByNumber.{insert_last, insert_set}

-- ---- an edit of the lists at one index
abbrev pub Stays : Lists → Lists → ℕ → Type 0
Stays lists lists' p = (k : ListName) (i : ℕ) → i ≢ p → among i (list_in lists' k) ≡ among i (list_in lists k)

pub gone_stays : (p : ℕ) (lists : Lists) → Stays lists (gone p lists) p
gone_stays p lists k i n = ap (among i) (gone_in p lists k) ∙ among-without_other p i (list_in lists k) n

pub headed_stays : (j : ListName) (p : ℕ) (lists : Lists) → Stays lists (headed j p lists) p
headed_stays j p lists k i n =
    elim (cases_name k j) as (λ _. among i (list_in (headed j p lists) k) ≡ among i (list_in lists k)) [
      | inl e ↦
          ap (λ l. among i (list_in (headed j p lists) l)) e ∙ ap (among i) (list_same lists j (p ∷ list_in lists j))
          ∙ among_tail i p (list_in lists j) (λ s. n (sym s)) ∙ ap (λ l. among i (list_in lists l)) (sym e)
      | inr d ↦ ap (among i) (list_other lists k j (p ∷ list_in lists j) d)
    ]

pub ended_stays : (j : ListName) (p : ℕ) (lists : Lists) → Stays lists (ended j p lists) p
ended_stays j p lists k i n =
    elim (cases_name k j) as (λ _. among i (list_in (ended j p lists) k) ≡ among i (list_in lists k)) [
      | inl e ↦
          ap (λ l. among i (list_in (ended j p lists) l)) e ∙ ap (among i) (list_same lists j (list_in lists j ++ p ∷ []))
          ∙ among-last_other i p (list_in lists j) (λ s. n (sym s)) ∙ ap (λ l. among i (list_in lists l)) (sym e)
      | inr d ↦ ap (among i) (list_other lists k j (list_in lists j ++ p ∷ []) d)
    ]

pub both_stay : (a b c : Lists) (p : ℕ) → Stays a b p → Stays b c p → Stays a c p
both_stay a b c p one two k i n = two k i n ∙ one k i n

pub placed_stays : (j : ListName) (p : ℕ) (lists : Lists) → Stays lists (placed j p lists) p
placed_stays j p lists k i n =
    elim (cases_Bool (among p (list_in lists j))) as (λ _. among i (list_in (placed j p lists) k) ≡ among i (list_in lists k)) [
      | inl e ↦ ap (λ l. among i (list_in l k)) (cond-true (among p (list_in lists j)) lists (headed j p (gone p lists)) e)
      | inr e ↦
          ap (λ l. among i (list_in l k)) (cond-false (among p (list_in lists j)) lists (headed j p (gone p lists)) e)
          ∙ both_stay lists (gone p lists) (headed j p (gone p lists)) p (gone_stays p lists) (headed_stays j p (gone p lists)) k i n
    ]

-- ---- what is kept
-- no slab of this number is parked
abbrev pub IsUnparked : List (Option ℕ) → ℕ → Type 0
IsUnparked parking n = (i : ℕ) → slice_get parking i ≡ Some (Some n) → ⊥

pub table_moved : (chains new : Chained) (parking : List (Option ℕ)) (limit g slots p : ℕ) → IsTable chains parking limit g slots
    → length chains.metas ≤ length new.metas → length new.metas ≤ limit → Stays chains.lists new.lists p → p < length new.metas
    → IsUnparked parking (nth_slab g p) → IsTable new parking limit g slots
table_moved chains new parking limit g slots p kept longer few stays below free = record {
  limit_most = kept.limit_most;
  guards_some = kept.guards_some;
  guards_most = kept.guards_most;
  slots_some = kept.slots_some;
  slots_most = kept.slots_most;
  few = few;
  indices = λ k i is.
      elim (cases_eq i p) as (λ _. i < length new.metas) [
        | inl e ↦ omega (arith, e, below)
        | inr n ↦ let old = kept.indices k i (sym (stays k i n) ∙ is) in omega (arith, old, longer)
      ];
  parked = λ i n at.
      let old = kept.parked i n at in
      let away : old.index ≢ p = λ e. free i (at ∙ ap (λ (m : ℕ). Some (Some m)) (sym old.number ∙ ap (nth_slab g) e)) in record {
        index = old.index;
        below = omega (arith, old.below, longer);
        number = old.number;
        loose = λ k. stays k old.index away ∙ old.loose k;
      };
  apart = kept.apart;
}

-- a slab that is in a list is not parked
pub not_parked : (chains : Chained) (parking : List (Option ℕ)) (limit g slots p : ℕ) (k : ListName) → IsTable chains parking limit g slots
    → among p (list_in chains.lists k) ≡ true → IsUnparked parking (nth_slab g p)
not_parked chains parking limit g slots p k kept is i at =
    let old = kept.parked i (nth_slab g p) at in
    let same : old.index ≡ p = same_index g old.index p kept.guards_some kept.guards_most old.number in
    both_ways (among p (list_in chains.lists k)) (ap (λ q. among q (list_in chains.lists k)) (sym same) ∙ old.loose k) is

-- a slab that was never opened is not parked
pub new_unparked : (chains : Chained) (parking : List (Option ℕ)) (limit g slots p : ℕ) → IsTable chains parking limit g slots → length chains.metas ≤ p
    → IsUnparked parking (nth_slab g p)
new_unparked chains parking limit g slots p kept past i at =
    let old = kept.parked i (nth_slab g p) at in
    let same : old.index ≡ p = same_index g old.index p kept.guards_some kept.guards_most old.number in
    omega (arith, same, past, old.below)

-- ---- the place of a slab that contracts speak of
pub record Stands (chains : Chained) (g n p : ℕ) : Type 0 where
  pub list : ListName
  pub is : among p (list_in chains.lists list) ≡ true
  pub below : p < length chains.metas
  pub number : nth_slab g p ≡ n

pub stands : (chains : Chained) (parking : List (Option ℕ)) (limit g slots n p : ℕ) (now : Table) (k : ListName) → IsTable chains parking limit g slots
    → shown chains parking limit g slots ≡ now → ((q : ℕ) → q < length chains.metas → nth_slab g q ≡ n → p ≡ q)
    → among n (list_in now.lists k) ≡ true → Stands chains g n p
stands chains parking limit g slots n p now k kept view opened is =
    let in_numbers : among n (list_in (numbered g chains.lists) k) ≡ true = ap (λ (t : Table). among n (list_in t.lists k)) view ∙ is in
    let it = numbered_member g n (list_in chains.lists k) (ap (among n) (sym (list_in-numbered g chains.lists k)) ∙ in_numbers) in
    let below : it.0 < length chains.metas = kept.indices k it.0 it.2 in
    let same : p ≡ it.0 = opened it.0 below it.1 in record {
      list = k;
      is = ap (λ q. among q (list_in chains.lists k)) same ∙ it.2;
      below = omega (arith, same, below);
      number = ap (nth_slab g) same ∙ it.1;
    }

pub open_list : (n : ℕ) (t : Table) → is_open n t ≡ true → (k : ListName) × (among n (list_in t.lists k) ≡ true)
open_list n t is =
    elim (or_cases (among n t.lists.partial) (among n t.lists.empty || among n t.lists.full) is) as (λ _. (k : ListName) × (among n (list_in t.lists k) ≡ true)) [
      | inl e ↦ (Partial, e)
      | inr rest ↦ elim (or_cases (among n t.lists.empty) (among n t.lists.full) rest) as (λ _. (k : ListName) × (among n (list_in t.lists k) ≡ true)) [
        | inl e ↦ (Empty, e)
        | inr e ↦ (Full, e)
      ]
    ]

pub front_member : (n : ℕ) (xs : List ℕ) → front xs ≡ Some n → among n xs ≡ true
front_member n [] is = absurd (none-some n is)
front_member n (x ∷ xs) is = among_head n x xs (same_Some x n is)

-- ---- what contracts see
pub lists_shown : (chains : Chained) (parking : List (Option ℕ)) (limit g slots : ℕ) (lists seen : Lists) → numbered g lists ≡ seen
    → ◌≡◌ {A = Table} (shown (with_lists lists chains) parking limit g slots) (record (shown chains parking limit g slots) { lists = seen })
lists_shown chains parking limit g slots lists seen is = ap (λ (l : Lists). record (shown chains parking limit g slots) { lists = l }) is

-- ---- retiring
pub table_parked : (chains : Chained) (parking : List (Option ℕ)) (limit g slots p park n : ℕ) → IsTable chains parking limit g slots → park < length parking
    → Stands chains g n p → IsTable (with_lists (gone p chains.lists) chains) (set parking park (Some n)) limit g slots
table_parked chains parking limit g slots p park n kept within at =
    let free : IsUnparked parking n = subst (IsUnparked parking) at.number (not_parked chains parking limit g slots p at.list kept at.is) in
    let moved = table_moved chains (with_lists (gone p chains.lists) chains) parking limit g slots p kept (omega arith) kept.few (gone_stays p chains.lists) at.below (not_parked chains parking limit g slots p at.list kept at.is) in record {
      limit_most = kept.limit_most;
      guards_some = kept.guards_some;
      guards_most = kept.guards_most;
      slots_some = kept.slots_some;
      slots_most = kept.slots_most;
      few = kept.few;
      indices = moved.indices;
      parked = λ i m is.
          elim (cases_eq i park) as (λ _. IsParked (with_lists (gone p chains.lists) chains) g m) [
            | inl e ↦
                let same : n ≡ m = named i m e is in record {
                  index = p;
                  below = at.below;
                  number = at.number ∙ same;
                  loose = gone_loose p chains.lists;
                }
            | inr d ↦ moved.parked i m (sym (get-set_other parking park i (Some n) d) ∙ is)
          ];
      apart = λ i j m at_i at_j.
          elim (cases_eq i park) as (λ _. i ≡ j) [
            | inl e ↦ elim (cases_eq j park) as (λ _. i ≡ j) [
              | inl f ↦ e ∙ sym f
              | inr d ↦ absurd (free j (sym (get-set_other parking park j (Some n) d) ∙ at_j ∙ ap (λ (k : ℕ). Some (Some k)) (sym (named i m e at_i))))
            ]
            | inr c ↦ elim (cases_eq j park) as (λ _. i ≡ j) [
              | inl f ↦ absurd (free i (sym (get-set_other parking park i (Some n) c) ∙ at_i ∙ ap (λ (k : ℕ). Some (Some k)) (sym (named j m f at_j))))
              | inr d ↦ kept.apart i j m (sym (get-set_other parking park i (Some n) c) ∙ at_i) (sym (get-set_other parking park j (Some n) d) ∙ at_j)
            ]
          ];
    }
  where
    named : (i m : ℕ) → i ≡ park → slice_get (set parking park (Some n)) i ≡ Some (Some m) → n ≡ m
    named i m e is =
        same_Some n m (same_Some (Some n) (Some m) (sym (get-set_same parking park (Some n) within) ∙ ap (slice_get (set parking park (Some n))) (sym e) ∙ is))

-- what stood at the parking index is no longer parked
pub unparked_then : (chains : Chained) (parking : List (Option ℕ)) (limit g slots p park n m : ℕ) → IsTable chains parking limit g slots → park < length parking
    → Stands chains g n p → slice_get parking park ≡ Some (Some m) → IsUnparked (set parking park (Some n)) m
unparked_then chains parking limit g slots p park n m kept within at was i is =
    elim (cases_eq i park) as (λ _. ⊥) [
      | inl e ↦
          let same : n ≡ m = same_Some n m (same_Some (Some n) (Some m) (sym (get-set_same parking park (Some n) within) ∙ ap (slice_get (set parking park (Some n))) (sym e) ∙ is)) in
          not_parked chains parking limit g slots p at.list kept at.is park (was ∙ ap (λ (k : ℕ). Some (Some k)) (sym same ∙ sym at.number))
      | inr d ↦ d (kept.apart i park m (sym (get-set_other parking park i (Some n) d) ∙ is) was)
    ]

-- ---- a new table
abbrev empties : ℕ → List (Option ℕ)
empties count = replicate count None

empty_at : (count i n : ℕ) → slice_get (empties count) i ≡ Some (Some n) → ⊥
empty_at zero i n is = none-some (Some n) is
empty_at (suc count) zero n is = none-some n (same_Some None (Some n) is)
empty_at (suc count) (suc i) n is = empty_at count i n is

none_listed : (k : ListName) (i : ℕ) → among i (list_in no_lists k) ≡ true → ⊥
none_listed Partial i is = both_ways false refl is
none_listed Empty i is = both_ways false refl is
none_listed Full i is = both_ways false refl is
none_listed Retired i is = both_ways false refl is

pub table_new : (chains : Chained) (parking : List (Option ℕ)) (limit g slots count : ℕ) → limit ≤ 2 ^ 23 → 1 ≤ g → g ≤ 8 → 1 ≤ slots → slots ≤ 256
    → chains ≡ no_slabs → parking ≡ replicate count None → IsTable chains parking limit g slots
table_new chains parking limit g slots count most some few slots_some slots_most is empty =
    subst (λ (c : Chained). IsTable c parking limit g slots) (sym is) (subst (λ (p : List (Option ℕ)). IsTable no_slabs p limit g slots) (sym empty) (record {
      limit_most = most;
      guards_some = some;
      guards_most = few;
      slots_some = slots_some;
      slots_most = slots_most;
      few = omega arith;
      indices = λ k i there. absurd (none_listed k i there);
      parked = λ i n at. absurd (empty_at count i n at);
      apart = λ i j n at_i at_j. absurd (empty_at count i n at_i);
    }))

-- ---- the lists stay
pub table_same : (chains new : Chained) (parking : List (Option ℕ)) (limit g slots : ℕ) → IsTable chains parking limit g slots
    → length new.metas ≡ length chains.metas → new.lists ≡ chains.lists → IsTable new parking limit g slots
table_same chains new parking limit g slots kept long same = record {
  limit_most = kept.limit_most;
  guards_some = kept.guards_some;
  guards_most = kept.guards_most;
  slots_some = kept.slots_some;
  slots_most = kept.slots_most;
  few = omega (arith, kept.few, long);
  indices = λ k i there. let old = kept.indices k i (ap (λ (l : Lists). among i (list_in l k)) (sym same) ∙ there) in omega (arith, old, long);
  parked = λ i n at. let old = kept.parked i n at in record {
    index = old.index;
    below = omega (arith, old.below, long);
    number = old.number;
    loose = λ k. ap (λ (l : Lists). among old.index (list_in l k)) same ∙ old.loose k;
  };
  apart = kept.apart;
}

pub first_small : (chains : Chained) (parking : List (Option ℕ)) (limit g slots p : ℕ) (k : ListName) → IsTable chains parking limit g slots
    → Some p ≡ front (list_in chains.lists k) → p < 2 ^ 63
first_small chains parking limit g slots p k kept is =
    let below = kept.indices k p (front_member p (list_in chains.lists k) (sym is)) in
    omega (arith, below, kept.few, kept.limit_most)

-- ---- a fresh slab
source_fresh : (partial empty retired : List ℕ) (limit next n : ℕ) → first_of partial empty retired (fresh_or_none limit next) ≡ place.Fresh n → (next ≡ n) × (next < limit)
source_fresh [] [] [] limit next n is =
    elim (cases_Bool (nat_lt next limit)) as (λ _. (next ≡ n) × (next < limit)) [
      | inl e ↦ let same = sym (cond-true (nat_lt next limit) (place.Fresh next) place.Exhausted e) ∙ is in (fresh_is same, ltb-true next limit e)
      | inr e ↦ let same = sym (cond-false (nat_lt next limit) (place.Fresh next) place.Exhausted e) ∙ is in absurd (no_fresh same)
    ]
  where
    fresh_is : {a b : ℕ} → place.Fresh a ≡ place.Fresh b → a ≡ b
    fresh_is e = cc

    no_fresh : {b : ℕ} → place.Exhausted ≡ place.Fresh b → ⊥
    no_fresh e = cc
source_fresh [] [] (x ∷ retired) limit next n is = absurd (other is)
  where
    other : {a b : ℕ} → place.Retired a ≡ place.Fresh b → ⊥
    other e = cc
source_fresh [] (x ∷ empty) retired limit next n is = absurd (other is)
  where
    other : {a b : ℕ} → place.Empty a ≡ place.Fresh b → ⊥
    other e = cc
source_fresh (x ∷ partial) empty retired limit next n is = absurd (other is)
  where
    other : {a b : ℕ} → place.Partial a ≡ place.Fresh b → ⊥
    other e = cc

abbrev pub grown : Chained → ℕ → Chained
grown chains slots = with_lists (headed Empty (length chains.metas) chains.lists) (with_slab (fresh_slab slots) chains)

pub grown_is : (chains push put : Chained) (p slots : ℕ) (meta : SlabUse) → p ≡ length chains.metas → meta ≡ fresh_slab slots → push ≡ with_slab meta chains
    → put ≡ with_lists (headed Empty p push.lists) push → put ≡ grown chains slots
grown_is chains push put p slots meta at fresh pushed is =
    is ∙ ap (λ (c : Chained). with_lists (headed Empty p c.lists) c) pushed
    ∙ ap (λ (m : SlabUse). with_lists (headed Empty p chains.lists) (with_slab m chains)) fresh
    ∙ ap (λ (q : ℕ). with_lists (headed Empty q chains.lists) (with_slab (fresh_slab slots) chains)) at

-- the number of the next fresh slab
pub fresh_number : (chains : Chained) (parking : List (Option ℕ)) (limit g slots n : ℕ) (now : Table) → shown chains parking limit g slots ≡ now
    → source_of now ≡ place.Fresh n → (nth_slab g (length chains.metas) ≡ n) × (n < limit)
fresh_number chains parking limit g slots n now view is =
    let it = source_fresh _ _ _ limit (nth_slab g (length chains.metas)) n (ap source_of view ∙ is) in (it.0, omega (arith, it.0, it.1))

pub table_grown : (chains : Chained) (parking : List (Option ℕ)) (limit g slots n : ℕ) → IsTable chains parking limit g slots → nth_slab g (length chains.metas) ≡ n → n < limit
    → IsTable (grown chains slots) parking limit g slots
table_grown chains parking limit g slots n kept number below =
    let long = length-append chains.metas (fresh_slab slots ∷ []) in
    let less : length chains.metas ≤ nth_slab g (length chains.metas) = omega arith in
    table_moved chains (grown chains slots) parking limit g slots (length chains.metas) kept (omega (arith, long)) (omega (arith, long, less, number, below))
    (headed_stays Empty (length chains.metas) chains.lists) (omega (arith, long)) (new_unparked chains parking limit g slots (length chains.metas) kept (omega arith))

pub shown_grown : (chains : Chained) (parking : List (Option ℕ)) (limit g slots n : ℕ) (now : Table) → 1 ≤ g → g ≤ 8 → nth_slab g (length chains.metas) ≡ n
    → shown chains parking limit g slots ≡ now → shown (grown chains slots) parking limit g slots ≡ opened_fresh n now
shown_grown chains parking limit g slots n now some few number view =
    (λ t. record {
      lists = numbered-headed g (length chains.metas) Empty chains.lists t;
      parking = parking;
      next = next t;
      metas = insert_last g some few chains.metas (fresh_slab slots) t;
      spare = chains.room - 1;
      limit = limit;
      guard_interval = g;
      slots = slots;
    })
    ∙ ap (λ (m : ℕ). opened_fresh m (shown chains parking limit g slots)) number ∙ ap (opened_fresh n) view
  where
    next : nth_slab g (length (chains.metas ++ fresh_slab slots ∷ [])) ≡ after g (nth_slab g (length chains.metas))
    next = ap (nth_slab g) (length-append chains.metas (fresh_slab slots ∷ [])) ∙ nth-after g (length chains.metas) some few

-- ---- a slab that stands in a list
pub then_gone : (chains out : Chained) (p : ℕ) → out ≡ with_lists (gone p chains.lists) chains → length out.metas ≡ length chains.metas
then_gone chains out p is = ap (λ (c : Chained). length c.metas) is

pub opened_is : (chains out put : Chained) (p : ℕ) → out ≡ with_lists (gone p chains.lists) chains → put ≡ with_lists (headed Empty p out.lists) out
    → put ≡ with_lists (headed Empty p (gone p chains.lists)) chains
opened_is chains out put p gone_is is = is ∙ ap (λ (c : Chained). with_lists (headed Empty p c.lists) c) gone_is

pub table_opened : (chains : Chained) (parking : List (Option ℕ)) (limit g slots n p : ℕ) → IsTable chains parking limit g slots → Stands chains g n p
    → IsTable (with_lists (headed Empty p (gone p chains.lists)) chains) parking limit g slots
table_opened chains parking limit g slots n p kept at =
    table_moved chains (with_lists (headed Empty p (gone p chains.lists)) chains) parking limit g slots p kept (omega arith) kept.few
    (both_stay chains.lists (gone p chains.lists) (headed Empty p (gone p chains.lists)) p (gone_stays p chains.lists) (headed_stays Empty p (gone p chains.lists)))
    at.below (not_parked chains parking limit g slots p at.list kept at.is)

pub shown_opened : (chains : Chained) (parking : List (Option ℕ)) (limit g slots n p : ℕ) (now : Table) → 1 ≤ g → g ≤ 8 → nth_slab g p ≡ n
    → shown chains parking limit g slots ≡ now
    → shown (with_lists (headed Empty p (gone p chains.lists)) chains) parking limit g slots ≡ opened_retired n now
shown_opened chains parking limit g slots n p now some few number view =
    lists_shown chains parking limit g slots (headed Empty p (gone p chains.lists)) (headed Empty (nth_slab g p) (gone (nth_slab g p) (numbered g chains.lists)))
    (numbered-headed g p Empty (gone p chains.lists) ∙ ap (headed Empty (nth_slab g p)) (numbered-gone g some few p chains.lists))
    ∙ ap (λ (m : ℕ). opened_retired m (shown chains parking limit g slots)) number ∙ ap (opened_retired n) view

-- ---- a slab settles
pub table_settled : (chains : Chained) (parking : List (Option ℕ)) (limit g slots n p : ℕ) (k : ListName) → IsTable chains parking limit g slots → Stands chains g n p
    → IsTable (with_lists (placed k p chains.lists) chains) parking limit g slots
table_settled chains parking limit g slots n p k kept at =
    table_moved chains (with_lists (placed k p chains.lists) chains) parking limit g slots p kept (omega arith) kept.few
    (placed_stays k p chains.lists) at.below (not_parked chains parking limit g slots p at.list kept at.is)

pub shown_settled : (chains : Chained) (parking : List (Option ℕ)) (limit g slots n p : ℕ) (meta : SlabUse) (now : Table) → 1 ≤ g → g ≤ 8 → nth_slab g p ≡ n
    → shown chains parking limit g slots ≡ now → finite.get now.metas n ≡ Some meta
    → shown (with_lists (placed (list_named meta) p chains.lists) chains) parking limit g slots ≡ settled n now
shown_settled chains parking limit g slots n p meta now some few number view has =
    lists_shown chains parking limit g slots (placed (list_named meta) p chains.lists) (placed (list_named meta) (nth_slab g p) (numbered g chains.lists))
    (numbered-placed g p (list_named meta) chains.lists some few)
    ∙ ap (λ (m : ℕ). settled_by (Some meta) m (shown chains parking limit g slots)) number ∙ ap (settled_by (Some meta) n) view
    ∙ ap (λ o. settled_by o n now) (sym has)

-- ---- retiring
pub read_slot : (parking : List (Option ℕ)) (park : ℕ) (o : Option ℕ) → park < length parking → o ≡ slice_index_or parking park o
    → (slice_get parking park ≡ Some o) × (slice_index_or parking park None ≡ o)
read_slot [] park o within is = absurd (omega arith)
read_slot (x ∷ parking) zero o within is = (ap (λ (p : Option ℕ). Some p) (sym is), sym is)
read_slot (x ∷ parking) (suc park) o within is = read_slot parking park o (omega arith) is

pub shown_retired : (chains : Chained) (parking : List (Option ℕ)) (limit g slots n p park : ℕ) (o : Option ℕ) (lists : Lists) (now : Table) → 1 ≤ g → g ≤ 8 → nth_slab g p ≡ n
    → shown chains parking limit g slots ≡ now → slice_index_or parking park None ≡ o
    → numbered g lists ≡ unparked o (numbered g (gone p chains.lists))
    → shown (with_lists lists chains) (set parking park (Some n)) limit g slots ≡ retired n park now
shown_retired chains parking limit g slots n p park o lists now some few number view was is =
    ap (λ (l : Lists). record (shown chains (set parking park (Some n)) limit g slots) { lists = l })
    (is ∙ ap (λ (q : Option ℕ). unparked q (numbered g (gone p chains.lists))) (sym was)
    ∙ ap (unparked (slice_index_or parking park None)) (numbered-gone g some few p chains.lists ∙ ap (λ (m : ℕ). gone m (numbered g chains.lists)) number))
    ∙ ap (retired n park) view

-- what stood at the parking index, once another slab stands there
pub record Waits (chains : Chained) (g p m q : ℕ) : Type 0 where
  pub below : q < length chains.metas
  pub number : nth_slab g q ≡ m
  pub loose : IsLoose q (gone p chains.lists)

pub waits : (chains : Chained) (parking : List (Option ℕ)) (limit g slots park n p m q : ℕ) → IsTable chains parking limit g slots → Stands chains g n p
    → slice_get parking park ≡ Some (Some m) → ((i : ℕ) → i < length chains.metas → nth_slab g i ≡ m → q ≡ i) → Waits chains g p m q
waits chains parking limit g slots park n p m q kept at was opened =
    let old = kept.parked park m was in
    let same : q ≡ old.index = opened old.index old.below old.number in
    let away : old.index ≢ p = λ e. both_ways (among old.index (list_in chains.lists at.list)) (old.loose at.list) (ap (λ (i : ℕ). among i (list_in chains.lists at.list)) e ∙ at.is) in record {
      below = omega (arith, same, old.below);
      number = ap (nth_slab g) same ∙ old.number;
      loose = λ k. ap (λ (i : ℕ). among i (list_in (gone p chains.lists) k)) same ∙ gone_stays p chains.lists k old.index away ∙ old.loose k;
    }

pub table_retired : (chains : Chained) (parking : List (Option ℕ)) (limit g slots park n p m q : ℕ) → IsTable chains parking limit g slots → park < length parking
    → Stands chains g n p → slice_get parking park ≡ Some (Some m) → Waits chains g p m q
    → IsTable (with_lists (ended Retired q (gone p chains.lists)) chains) (set parking park (Some n)) limit g slots
table_retired chains parking limit g slots park n p m q kept within at was wait =
    table_moved (with_lists (gone p chains.lists) chains) (with_lists (ended Retired q (gone p chains.lists)) chains) (set parking park (Some n)) limit g slots q
    (table_parked chains parking limit g slots p park n kept within at) (omega arith) kept.few (ended_stays Retired q (gone p chains.lists)) wait.below
    (subst (IsUnparked (set parking park (Some n))) (sym wait.number) (unparked_then chains parking limit g slots p park n m kept within at was))

pub shown_unparked : (g p m q : ℕ) (lists : Lists) → nth_slab g q ≡ m → numbered g (ended Retired q (gone p lists)) ≡ unparked (Some m) (numbered g (gone p lists))
shown_unparked g p m q lists number = numbered-ended g q (gone p lists) ∙ ap (λ (k : ℕ). ended Retired k (numbered g (gone p lists))) number

pub parking_within : (chains : Chained) (parking : List (Option ℕ)) (limit g slots park : ℕ) (now : Table) → shown chains parking limit g slots ≡ now
    → park < length now.parking → park < length parking
parking_within chains parking limit g slots park now view below =
    let same : length now.parking ≡ length parking = sym (ap (λ (t : Table). length t.parking) view) in omega (arith, below, same)

pub ended_is : (chains out put : Chained) (p q : ℕ) → out ≡ with_lists (gone p chains.lists) chains → put ≡ with_lists (ended Retired q out.lists) out
    → put ≡ with_lists (ended Retired q (gone p chains.lists)) chains
ended_is chains out put p q gone_is is = is ∙ ap (λ (c : Chained). with_lists (ended Retired q c.lists) c) gone_is

-- ---- metadata
pub none_there : (metas : List SlabUse) (p : ℕ) → p < length metas → None ≡ slice_get metas p → ⊥
none_there [] p below is = omega arith
none_there (m ∷ metas) zero below is = none-some m is
none_there (m ∷ metas) (suc p) below is = none_there metas p (omega arith) is

-- what is lent is there
pub lent_below : (o : Option (MutBor SlabUse)) (metas : List SlabUse) (p : ℕ) → option_copied_mut o ≡ slice_get metas p → IsSome o → p < length metas
lent_below None metas p value is = absurd (both_ways false refl is)
lent_below (Some r) metas p value is = slice_get_within metas p r.now (sym value)

pub shown_lent : (chains : Chained) (parking : List (Option ℕ)) (limit g slots n p : ℕ) (w : SlabUse) (now : Table) → 1 ≤ g → g ≤ 8 → p < length chains.metas → nth_slab g p ≡ n
    → shown chains parking limit g slots ≡ now → shown (with_meta_at chains p w) parking limit g slots ≡ with_meta_of now n w
shown_lent chains parking limit g slots n p w now some few below number view =
    (λ t. record {
      lists = numbered g chains.lists;
      parking = parking;
      next = nth_slab g (length-set chains.metas p w t);
      metas = insert_set g some few chains.metas p w below t;
      spare = chains.room;
      limit = limit;
      guard_interval = g;
      slots = slots;
    })
    ∙ ap (λ (m : ℕ). with_meta_of (shown chains parking limit g slots) m w) number ∙ ap (λ (t : Table). with_meta_of t n w) view

-- what a loan of an optional part says, by cases
pub lent_if : (o : Option (MutBor SlabUse)) (F G : SlabUse → Table) (v u : Table) → (IsSome o → (w : SlabUse) → F w ≡ G w) → v ≡ u
    → read_of (ghost_name_of o) F v ≡ read_of (ghost_name_of o) G u
lent_if None F G v u there same = λ i. inr (same i)
lent_if (Some r) F G v u there same = λ i. inl (r.ghost_name, λ w. there refl w i)

-- ---- whether a slab is open
pub open_at_index : (chains : Chained) (parking : List (Option ℕ)) (limit g slots n p : ℕ) (now : Table) → 1 ≤ g → g ≤ 8 → nth_slab g p ≡ n
    → shown chains parking limit g slots ≡ now → is_open_in p chains.lists ≡ is_open n now
open_at_index chains parking limit g slots n p now some few number view =
    let same : (xs : List ℕ) → among p xs ≡ among n (map (nth_slab g) xs) = λ xs. sym (among-numbers g some few p xs) ∙ ap (λ (m : ℕ). among m (map (nth_slab g) xs)) number in
    ap (λ (b : Bool). b || (among p chains.lists.empty || among p chains.lists.full)) (same chains.lists.partial)
    ∙ ap (λ (b : Bool). among n (map (nth_slab g) chains.lists.partial) || (b || among p chains.lists.full)) (same chains.lists.empty)
    ∙ ap (λ (b : Bool). among n (map (nth_slab g) chains.lists.partial) || (among n (map (nth_slab g) chains.lists.empty) || b)) (same chains.lists.full)
    ∙ ap (λ (t : Table). is_open n t) view

-- one that was never opened is not open
pub past_shut : (chains : Chained) (parking : List (Option ℕ)) (limit g slots n p : ℕ) (now : Table) → IsTable chains parking limit g slots
    → shown chains parking limit g slots ≡ now → ((q : ℕ) → q < length chains.metas → nth_slab g q ≡ n → p ≡ q) → length chains.metas ≤ p
    → is_open n now ≡ false
past_shut chains parking limit g slots n p now kept view opened past =
    elim (cases_Bool (is_open n now)) as (λ _. is_open n now ≡ false) [
      | inl e ↦
          let listed = open_list n now e in
          let at = stands chains parking limit g slots n p now listed.0 kept view opened listed.1 in
          absurd (omega (arith, past, at.below))
      | inr e ↦ e
    ]
