-- The numbers of a class region of a valid configuration fit together.
use Rattle.std.proofs.Common.{◌≡◌, ℕ, ◌+◌, ◌*◌, ◌/◌, ◌%◌, ◌^◌, ◌<◌, ◌≤◌, ◌≢◌, ◌⊎◌, inl, inr, ⊎_elim, ◌∙◌, ap, arith}
use Rattle.std.proofs.lemmas.Nat.{mod-mul-add, mul-le, div-add-mod', same_from_place}
use Rattle.std.proofs.lemmas.Bool.{cases_lt}
use Rattle.hm_sizes.specs.declared.config.Config.{Config}
use Rattle.hm_sizes.specs.declared.class.ClassId.{ClassId}
use Rattle.hm_sizes.specs.Classes.{slab_size}
use Rattle.hm_sizes.specs.Configs.{IsValid}
use Rattle.hm_sizes.specs.Shapes.{shape_of, region_start, IsShape}
use Rattle.hm_sizes.specs.Laws.{region_end, IsOther}
use Rattle.hm_sizes.proofs.ClassTable.{IsBounded, is_bounded}

-- multiples of a page
pages_sum : (a b : ℕ) → a % 4096 ≡ 0 → b % 4096 ≡ 0 → (a + b) % 4096 ≡ 0
pages_sum a b e f = omega arith

pages_product : (n a : ℕ) → a % 4096 ≡ 0 → (n * (2 * a)) % 4096 ≡ 0
pages_product n a e =
    let q : ℕ = a / 4096 in
    let is : a ≡ q * 4096 = omega (arith, div-add-mod' a 4096) in
    let whole : n * (2 * a) ≡ (n * (2 * q)) * 4096 + 0 = ap (λ (x : ℕ). n * (2 * x)) is ∙ omega arith in
    ap (λ (x : ℕ). x % 4096) whole ∙ mod-mul-add (n * (2 * q)) 4096 0 (omega arith)

-- a region's number is below 196
region_below : (arenas arena class : ℕ) → arenas ≤ 4 → arena < arenas → class < 49 → arena * 49 + class + 1 ≤ 196
region_below arenas arena class most lt below = omega arith

-- where a region ends, at most
space_most : (region half : ℕ) → region + 1 ≤ 196 → half ≤ 2 ^ 35 → region * (2 * half) + 2 * half ≤ 196 * 2 ^ 36
space_most region half most small = omega (arith, mul-le (region + 1) (2 * half) 196 (2 ^ 36) most (omega arith))

-- whole slabs below a size
pub slabs_within : (size slab : ℕ) → size / slab * slab ≤ size
slabs_within size slab = omega (arith, div-add-mod' size slab)

quotient_most : (size slab : ℕ) → size ≤ 2 ^ 35 → 4096 ≤ slab → size / slab ≤ 2 ^ 23
quotient_most size slab most least =
    omega (arith, slabs_within size slab, mul-le (size / slab) 4096 (size / slab) slab (omega arith) least)

pub shape_fits : (c : Config) (arena : ℕ) (class : ClassId) (gap : ℕ) → IsValid c → arena < c.arenas → class.0 < 49
    → gap % 4096 ≡ 0 → 4096 ≤ gap → gap ≤ c.class_region → IsShape (shape_of c arena class gap)
shape_fits c arena class gap valid lt below pages least most =
    let b : IsBounded class.0 = is_bounded class.0 below in
    let region : ℕ = arena * 49 + class.0 in
    let number : region + 1 ≤ 196 = region_below c.arenas arena class.0 valid.arenas_most lt below in
    let end : region * (2 * c.class_region) + 2 * c.class_region ≤ 196 * 2 ^ 36 =
    space_most region c.class_region number valid.region_most in
    let within : c.class_region / slab_size class.0 * slab_size class.0 ≤ c.class_region =
    slabs_within c.class_region (slab_size class.0) in
    record {
      class_below = below;
      slots_some = b.slots_some;
      slots_most = b.slots_most;
      slot_least = b.slot_least;
      slots_fit = b.slots_fit;
      slab_pages = b.slab_pages;
      slab_most = b.slab_most;
      first_pages = pages_sum (2 ^ 40 + region * (2 * c.class_region)) gap
          (pages_sum (2 ^ 40) (region * (2 * c.class_region)) (omega arith) (pages_product region c.class_region valid.region_pages)) pages;
      first_least = omega arith;
      space = omega arith;
      limit_most = quotient_most c.class_region (slab_size class.0) valid.region_most b.slab_least;
      guards_some = valid.guards_some;
      guards_most = valid.guards_most;
    }

-- ---- the address spaces of regions
-- the space of a region ends before that of a later one begins
earlier_ends : (c : Config) (region later : ℕ) → region < later
    → 2 ^ 40 + region * (2 * c.class_region) + 2 * c.class_region ≤ 2 ^ 40 + later * (2 * c.class_region)
earlier_ends c region later less = omega (arith, mul-le (region + 1) (2 * c.class_region) later (2 * c.class_region) (omega arith) (omega arith))

pub regions_apart : (c : Config) (arena class other_arena other_class : ℕ) → class < 49 → other_class < 49 → IsOther arena class other_arena other_class
    → (region_end c arena class ≤ region_start c other_arena other_class) ⊎ (region_end c other_arena other_class ≤ region_start c arena class)
regions_apart c arena class other_arena other_class below other_below other =
    let region : ℕ = arena * 49 + class in
    let other_region : ℕ = other_arena * 49 + other_class in
    let differ : region ≢ other_region =
    λ e. let parts = same_from_place arena class other_arena other_class 49 below other_below e in
    ⊎_elim (λ (a : arena ≢ other_arena). a parts.0) (λ (k : class ≢ other_class). k parts.1) other in
    ⊎_elim (λ (less : region < other_region). inl (earlier_ends c region other_region less))
    (λ (ge : other_region ≤ region). let less : other_region < region = omega (arith, differ) in inr (earlier_ends c other_region region less))
    (cases_lt region other_region)
