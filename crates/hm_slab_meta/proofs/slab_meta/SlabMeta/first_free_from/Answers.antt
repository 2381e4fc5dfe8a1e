use Rattle.std.proofs.Common.{◌≡◌, ◌<◌, ℕ, true, false, List, length, refl}
use Rattle.std.proofs.lemmas.Bool.{both_ways}
use Rattle.std.specs.Prelude.{Option, Some, None, IfSome, IfNone, IsNone, slice_get, option_map}
use Rattle.std.specs.List.{list_any}
use Rattle.hm_slab_meta.specs.Uses.{SlotUse, is_available, AreTaken, IsFirstFree, first_from}
use Rattle.hm_slab_meta.proofs.Searches.{found_past, found_before, found_none, is_there, some_free, none_free}
use Rattle.hm_slab_meta.proofs.slab_meta.SlabMeta.first_free_from.Goals as goal

-- the answer of the second search
second : (xs : List SlotUse) (start : ℕ) (r : Option ℕ) → start < length xs → AreTaken xs start (length xs) → IfSome r (IsFirstFree xs 0) → IfNone r (AreTaken xs 0 (length xs))
    → r ≡ first_from start xs
second xs start None within none some all = found_none xs start within all
second xs start (Some slot) within none first all = found_before xs start slot within none first

second_there : (xs : List SlotUse) (r : Option ℕ) → IfSome r (IsFirstFree xs 0) → IfSome r (λ slot. option_map is_available (slice_get xs slot) ≡ Some true)
second_there xs None some = tt
second_there xs (Some slot) first = is_there xs 0 slot first

second_none : (xs : List SlotUse) (r : Option ℕ) → IfSome r (IsFirstFree xs 0) → IfNone r (AreTaken xs 0 (length xs)) → IsNone r → list_any is_available xs ≡ false
second_none xs None some all is = none_free xs all
second_none xs (Some slot) first all is = cc

second_back : (xs : List SlotUse) (r : Option ℕ) → IfSome r (IsFirstFree xs 0) → list_any is_available xs ≡ false → IsNone r
second_back xs None some none = refl
second_back xs (Some slot) first none = absurd (both_ways (list_any is_available xs) none (some_free xs 0 slot first))

pub returns-in-Some-clause-first : goal.returns-in-Some-clause-first
returns-in-Some-clause-first c = found_past c.args.self.now.slots c.args.start c.in-Some.slot c.in-Some.ensures.found

pub returns-in-Some-clause-available : goal.returns-in-Some-clause-available
returns-in-Some-clause-available c = is_there c.args.self.now.slots c.args.start c.in-Some.slot c.in-Some.ensures.found

pub returns-in-None-clause-first : goal.returns-in-None-clause-first
returns-in-None-clause-first c =
    second c.args.self.now.slots c.args.start c.first_past-in-None.result c.requires c.in-None.ensures.none c.first_past-in-None.ensures.found c.first_past-in-None.ensures.none

pub returns-in-None-clause-available : goal.returns-in-None-clause-available
returns-in-None-clause-available c = second_there c.args.self.now.slots c.first_past-in-None.result c.first_past-in-None.ensures.found

pub returns-in-None-clause-none : goal.returns-in-None-clause-none
returns-in-None-clause-none c = (
  second_none c.args.self.now.slots c.first_past-in-None.result c.first_past-in-None.ensures.found c.first_past-in-None.ensures.none,
  second_back c.args.self.now.slots c.first_past-in-None.result c.first_past-in-None.ensures.found,
)
