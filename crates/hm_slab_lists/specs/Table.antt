-- The slabs of a region, as callers see them.
use Rattle.std.specs.Prelude.{◌≡◌, ℕ, suc, ◌-◌, ◌^◌, ◌<◌, ◌≤◌, Bool, true, List, [], ◌∷◌, map, length, replicate, Option, Some, None, slice_get, slice_index_or, slice_set, refl}
use Rattle.std.specs.Ordering.{nat_cmp}
use Rattle.std.specs.Coded.{Coded, code_by, coded_ℕ, coded×, coded_list, coded_option}
use Rattle.std.specs.FinMap as finite
use Rattle.std.specs.FinMap.{FinMap, from_entries}
use Rattle.hm_slab_meta.specs.Uses.{SlabUse, fresh_slab}
use Rattle.hm_slab_lists.specs.declared.slab.ListName.{ListName}
use Rattle.hm_slab_lists.specs.declared.slab.ListName.TheVariants.{Empty, Retired}
use Rattle.hm_slab_lists.specs.Chained.{Chained}
use Rattle.hm_base.specs.Members.{among}
use Rattle.hm_slab_lists.specs.Lists.{Lists, no_lists, is_open_in, list_in, gone, headed, ended, placed, IsLoose}
use Rattle.hm_slab_lists.specs.Named.{list_named}
use Rattle.hm_sizes.specs.Guards.{after}
use Rattle.hm_slab_lists.specs.Numbers.{nth_slab}

abbrev pub Metas : Type 0
Metas = FinMap nat_cmp SlabUse

pub record Table : Type 0 where
  -- the lists of slab numbers, and the parking array
  pub lists : Lists
  pub parking : List (Option ℕ)
  -- the next fresh number, and what is kept of each slab that was ever opened
  pub next : ℕ
  pub metas : Metas
  -- room for further fresh slabs
  pub spare : ℕ
  -- numbers are below the limit; so many slabs stand between two guards; so many slots are in a slab
  pub limit : ℕ
  pub guard_interval : ℕ
  pub slots : ℕ

abbrev pub lists_code : Coded Lists
lists_code =
    code_by ((List ℕ × List ℕ) × (List ℕ × List ℕ))
    (coded× (coded× (coded_list coded_ℕ) (coded_list coded_ℕ)) (coded× (coded_list coded_ℕ) (coded_list coded_ℕ)))
    (λ l. ((l.partial, l.empty), (l.full, l.retired)))
    (λ p. record { partial = p.0.0; empty = p.0.1; full = p.1.0; retired = p.1.1 }) (λ _. refl)

abbrev pub table_code : Coded SlabUse → Coded Table
table_code meta =
    code_by (((Lists × List (Option ℕ)) × (ℕ × Metas)) × ((ℕ × ℕ) × (ℕ × ℕ)))
    (coded× (coded× (coded× lists_code (coded_list (coded_option coded_ℕ))) (coded× coded_ℕ (finite.code coded_ℕ meta)))
    (coded× (coded× coded_ℕ coded_ℕ) (coded× coded_ℕ coded_ℕ)))
    (λ t. (((t.lists, t.parking), (t.next, t.metas)), ((t.spare, t.limit), (t.guard_interval, t.slots))))
    (λ p. record {
      lists = p.0.0.0;
      parking = p.0.0.1;
      next = p.0.1.0;
      metas = p.0.1.1;
      spare = p.1.0.0;
      limit = p.1.0.1;
      guard_interval = p.1.1.0;
      slots = p.1.1.1;
    }) (λ _. refl)

-- ---- calls
abbrev pub new_table : ℕ → ℕ → ℕ → ℕ → Table
new_table limit guard_interval park_length slots = record {
  lists = no_lists;
  parking = replicate park_length None;
  next = 0;
  metas = finite.empty;
  spare = 0;
  limit = limit;
  guard_interval = guard_interval;
  slots = slots;
}

abbrev pub with_spare : ℕ → Table → Table
with_spare spare t = record t { spare = spare }

-- slab n is in the partial, the empty or the full list
abbrev pub is_open : ℕ → Table → Bool
is_open n t = is_open_in n t.lists

-- slab n, a fresh one, heads the empty list
abbrev pub opened_fresh : ℕ → Table → Table
opened_fresh n t = record {
  lists = headed Empty n t.lists;
  parking = t.parking;
  next = after t.guard_interval n;
  metas = finite.insert t.metas n (fresh_slab t.slots);
  spare = t.spare - 1;
  limit = t.limit;
  guard_interval = t.guard_interval;
  slots = t.slots;
}

-- slab n leaves its list and heads the empty one
abbrev pub opened_retired : ℕ → Table → Table
opened_retired n t = record t { lists = headed Empty n (gone n t.lists) }

-- slab n goes to the front of the list that its slots name; where it is in that list, it stays in place
abbrev pub settled_by : Option SlabUse → ℕ → Table → Table
settled_by None n t = t
settled_by (Some meta) n t = record t { lists = placed (list_named meta) n t.lists }

abbrev pub settled : ℕ → Table → Table
settled n t = settled_by (finite.get t.metas n) n t

-- what stood at a parking index, if anything did, ends the retired list
abbrev pub unparked : Option ℕ → Lists → Lists
unparked None lists = lists
unparked (Some m) lists = ended Retired m lists

-- slab n leaves its list and goes to a parking index
abbrev pub retired : ℕ → ℕ → Table → Table
retired n park t = record t {
  lists = unparked (slice_index_or t.parking park None) (gone n t.lists);
  parking = slice_set t.parking park (Some n);
}

-- ---- what is kept
abbrev pub numbered : ℕ → Lists → Lists
numbered interval lists = record {
  partial = map (nth_slab interval) lists.partial;
  empty = map (nth_slab interval) lists.empty;
  full = map (nth_slab interval) lists.full;
  retired = map (nth_slab interval) lists.retired;
}

-- each slab from the i-th on beside its number
abbrev pub entries : ℕ → ℕ → List SlabUse → List (ℕ × SlabUse)
entries interval i [] = []
entries interval i (meta ∷ metas) = (nth_slab interval i, meta) ∷ entries interval (suc i) metas

abbrev pub metas_by_number : ℕ → List SlabUse → Metas
metas_by_number interval metas = from_entries (entries interval 0 metas)

abbrev pub shown : Chained → List (Option ℕ) → ℕ → ℕ → ℕ → Table
shown chains parking limit guard_interval slots = record {
  lists = numbered guard_interval chains.lists;
  parking = parking;
  next = nth_slab guard_interval (length chains.metas);
  metas = metas_by_number guard_interval chains.metas;
  spare = chains.room;
  limit = limit;
  guard_interval = guard_interval;
  slots = slots;
}

-- the slab at an index was opened, and is in no list
pub record IsParked (chains : Chained) (guard_interval n : ℕ) : Type 0 where
  pub index : ℕ
  pub below : index < length chains.metas
  pub number : nth_slab guard_interval index ≡ n
  pub loose : IsLoose index chains.lists

pub record IsTable (chains : Chained) (parking : List (Option ℕ)) (limit guard_interval slots : ℕ) : Type 0 where
  pub limit_most : limit ≤ 2 ^ 23
  pub guards_some : 1 ≤ guard_interval
  pub guards_most : guard_interval ≤ 8
  pub slots_some : 1 ≤ slots
  pub slots_most : slots ≤ 256
  pub few : length chains.metas ≤ limit
  -- what is in a list is the index of a slab
  pub indices : (list : ListName) (index : ℕ) → among index (list_in chains.lists list) ≡ true
      → index < length chains.metas
  -- a slab is parked once
  pub parked : (i n : ℕ) → slice_get parking i ≡ Some (Some n) → IsParked chains guard_interval n
  pub apart : (i j n : ℕ) → slice_get parking i ≡ Some (Some n) → slice_get parking j ≡ Some (Some n) → i ≡ j
