-- The ranges that class regions reserve follow one another, and each slab lies in that of its region.
use Rattle.std.proofs.Common.{◌≡◌, ℕ, ◌+◌, ◌-◌, ◌*◌, ◌/◌, ◌^◌, ◌<◌, ◌≤◌, nat_lt, nat_le, Bool, true, false, cond, ◌&&◌, is_le, is_lt, nat_cmp, rules, sym, ap, ◌∙◌, refl, arith}
use Rattle.std.proofs.lemmas.Nat.{div-add-mod', div-mul-add, div_below, mod_below, mul-le}
use Rattle.std.proofs.lemmas.Bool.{and_from, and_parts}
use borrow.Author.Tests.{tests}
use Rattle.std.proofs.lemmas.Bool.Decides.{nat_tests}
use Rattle.hm_base.specs.declared.region.RegionId.{RegionId}
use Rattle.hm_sizes.specs.declared.config.Config.{Config}
use Rattle.hm_sizes.specs.declared.class.ClassId.{ClassId}
use Rattle.hm_sizes.specs.declared.home.Home.{Home}
use Rattle.hm_sizes.specs.declared.home.Home.TheVariants.{Class}
use Rattle.hm_sizes.specs.Classes.{slab_size}
use Rattle.hm_sizes.specs.Configs.{IsValid}
use Rattle.hm_sizes.specs.Shapes.{reserved_start, shape_of, slab_at, slab_of, slot_of, IsPlace, IsPlaceOf}
use Rattle.hm_sizes.specs.Homes.{region_count, home_of, IsInRegion, IsInLargeSpace}
use Rattle.hm_sizes.proofs.ClassTable.{is_bounded}
use Rattle.hm_sizes.proofs.PlaceTest.{place_is, slot_row}
use Rattle.hm_sizes.proofs.Shaped.{slabs_within}

-- the region in whose range an address lies, by division
pub range_of : (c : Config) (a : ℕ) → IsValid c → 2 ^ 40 ≤ a → a < reserved_start c (region_count c) → IsInRegion c ((a - 2 ^ 40) / (2 * c.class_region)) a
range_of c a valid least below =
    let width : ℕ = 2 * c.class_region in
    let some : 0 < width = omega (arith, valid.region_least) in
    let is = div-add-mod' (a - 2 ^ 40) width in
    let rest = mod_below (a - 2 ^ 40) width some in
    record {
      below = div_below (a - 2 ^ 40) width (region_count c) some (omega arith);
      from_start = omega arith;
      to_end = omega arith;
    }

pub number_of : (c : Config) (region a : ℕ) → IsInRegion c region a → (a - 2 ^ 40) / (2 * c.class_region) ≡ region
number_of c region a h =
    let width : ℕ = 2 * c.class_region in
    let rest : a - reserved_start c region < width = omega (arith, h.from_start, h.to_end) in
    let is : a - 2 ^ 40 ≡ region * width + (a - reserved_start c region) = omega (arith, h.from_start) in
    ap (λ (n : ℕ). n / width) is ∙ div-mul-add region width (a - reserved_start c region) rest

-- the range of a region lies between the first one's start and the last one's end
pub record IsBetween (c : Config) (a : ℕ) : Type 0 where
  pub least : 2 ^ 40 ≤ a
  pub below : a < reserved_start c (region_count c)

pub between : (c : Config) (region a : ℕ) → IsInRegion c region a → IsBetween c a
between c region a h = record {
  least = omega (arith, h.from_start);
  below = omega (arith, h.to_end, mul-le (region + 1) (2 * c.class_region) (region_count c) (2 * c.class_region) (omega (arith, h.below)) (omega arith));
}

-- ---- tests of ranges
abbrev lies_in : ℕ → ℕ → ℕ → Bool
lies_in low high a = is_le (nat_cmp low a) && is_lt (nat_cmp a high)

passes : (low high a : ℕ) → low ≤ a → a < high → lies_in low high a ≡ true
passes low high a le lt = search (rules, tests)

from_start : (low high a : ℕ) → lies_in low high a ≡ true → low ≤ a
from_start low high a e = let both = and_parts (is_le (nat_cmp low a)) (is_lt (nat_cmp a high)) e in search (rules, tests)

to_end : (low high a : ℕ) → lies_in low high a ≡ true → a < high
to_end low high a e = let both = and_parts (is_le (nat_cmp low a)) (is_lt (nat_cmp a high)) e in search (rules, tests)

-- the end of the ranges, as the code has it
abbrev end_of : Config → ℕ → ℕ
end_of c arenas = 2 ^ 40 + arenas * 49 * (2 * c.class_region)

same_end : (c : Config) (arenas : ℕ) → arenas ≡ c.arenas → end_of c arenas ≡ reserved_start c (region_count c)
same_end c arenas e = ap (end_of c) e

pub range_found : (c : Config) (arenas a : ℕ) (s : Bool) → IsValid c → arenas ≡ c.arenas → s ≡ lies_in (2 ^ 40) (end_of c arenas) a → s ≡ true
    → IsInRegion c ((a - 2 ^ 40) / (2 * c.class_region)) a
range_found c arenas a s valid e is passed =
    let below : a < end_of c arenas = to_end (2 ^ 40) (end_of c arenas) a (sym is ∙ passed) in
    range_of c a valid (from_start (2 ^ 40) (end_of c arenas) a (sym is ∙ passed)) (omega (arith, same_end c arenas e))

pub no_range : (c : Config) (arenas a : ℕ) (s : Bool) → arenas ≡ c.arenas → s ≡ lies_in (2 ^ 40) (end_of c arenas) a → s ≡ false
    → (region : ℕ) → IsInRegion c region a → ⊥
no_range c arenas a s e is failed region h =
    let inside = between c region a h in
    let passed = passes (2 ^ 40) (end_of c arenas) a inside.least (omega (arith, inside.below, same_end c arenas e)) in
    cc

pub not_in_space : (c : Config) (a : ℕ) (s : Bool) → s ≡ lies_in (2 ^ 46) (2 ^ 46 + c.large_space) a → s ≡ false → IsInLargeSpace c a → ⊥
not_in_space c a s is failed h = let passed = passes (2 ^ 46) (2 ^ 46 + c.large_space) a h.from_start h.to_end in cc

-- ---- homes
first_home : (s : Bool) (x y : Home) → s ≡ true → cond s x y ≡ x
first_home true x y e = refl
first_home false x y e = cc

is_at_most : (a b : ℕ) → a ≤ b → nat_le a b ≡ true
is_at_most a b le = grind (arith, nat_tests)

is_below : (a b : ℕ) → a < b → nat_lt a b ≡ true
is_below a b lt = grind (arith, nat_tests)

pub home_in : (c : Config) (region : RegionId) (a : ℕ) → IsInRegion c region.0 a → home_of c a ≡ Class region
home_in c region a h =
    let inside = between c region.0 a h in
    first_home _ _ _ (and_from _ _ (is_at_most (2 ^ 40) a inside.least) (is_below a (reserved_start c (region_count c)) inside.below))
    ∙ ap (λ (n : ℕ). Class (record { 0 = n })) (number_of c region.0 a h)

-- ---- slabs and places
pub slab_in : (c : Config) (arena : ℕ) (class : ClassId) (gap n a : ℕ) → arena < c.arenas → class.0 < 49 → gap ≤ c.class_region
    → n < (shape_of c arena class gap).limit → slab_at (shape_of c arena class gap) n ≤ a
    → a < slab_at (shape_of c arena class gap) n + (shape_of c arena class gap).slab → IsInRegion c (arena * 49 + class.0) a
slab_in c arena class gap n a lt below most limit least less =
    let slab : ℕ = slab_size class.0 in
    let row : n * slab + slab ≤ c.class_region / slab * slab = slot_row slab n (c.class_region / slab) limit in
    let within : c.class_region / slab * slab ≤ c.class_region = slabs_within c.class_region slab in
    record { below = omega arith; from_start = omega arith; to_end = omega arith }

pub place_in : (c : Config) (arena : ℕ) (class : ClassId) (gap a : ℕ) → arena < c.arenas → class.0 < 49 → gap ≤ c.class_region
    → IsPlace (shape_of c arena class gap) a → IsInRegion c (arena * 49 + class.0) a
place_in c arena class gap a lt below most place =
    let p = shape_of c arena class gap in
    let at : IsPlaceOf p a (slab_of p a) (slot_of p a) = place_is p a (slab_of p a) (slot_of p a) place in
    let b = is_bounded class.0 below in
    let row : slot_of p a * p.slot + p.slot ≤ p.slots * p.slot = slot_row p.slot (slot_of p a) p.slots at.slot in
    let some : 1 ≤ p.slot = omega (arith, b.slot_least) in
    let fits : p.slots * p.slot ≤ p.slab = b.slots_fit in
    slab_in c arena class gap (slab_of p a) a lt below most at.below (omega (arith, at.is)) (omega (arith, at.is))
