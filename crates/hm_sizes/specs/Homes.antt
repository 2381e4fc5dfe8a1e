-- The region to which an address belongs.
use Rattle.std.specs.Prelude.{ℕ, ◌+◌, ◌-◌, ◌*◌, ◌/◌, ◌^◌, ◌<◌, ◌≤◌, nat_lt, nat_le, ◌&&◌, if◌then◌else◌}
use Rattle.hm_base.specs.declared.region.RegionId.{RegionId}
use Rattle.hm_sizes.specs.declared.config.Config.{Config}
use Rattle.hm_sizes.specs.declared.home.Home.{Home}
use Rattle.hm_sizes.specs.declared.home.Home.TheVariants.{Class, Large, Outside}
use Rattle.hm_sizes.specs.Classes.{class_count}
use Rattle.hm_sizes.specs.Origins.{class_region_number}
use Rattle.hm_sizes.specs.Shapes.{reserved_start}
pub use Rattle.hm_sizes.specs.Shapes.{large_start}

-- the number of class regions
abbrev pub region_count : Config → ℕ
region_count c = c.arenas * class_count

-- the address lies in the range that a class region reserves: twice its bytes
pub record IsInRegion (c : Config) (region a : ℕ) : Type 0 where
  pub below : region < region_count c
  pub from_start : reserved_start c region ≤ a
  pub to_end : a < reserved_start c region + 2 * c.class_region

-- the address lies in the large space
pub record IsInLargeSpace (c : Config) (a : ℕ) : Type 0 where
  pub from_start : large_start ≤ a
  pub to_end : a < large_start + c.large_space

-- the address lies in none of them
pub record IsOutside (c : Config) (a : ℕ) : Type 0 where
  pub no_class : (region : ℕ) → IsInRegion c region a → ⊥
  pub not_large : IsInLargeSpace c a → ⊥

-- the number of the region of this class in this arena
abbrev pub region_of : ℕ → ℕ → RegionId
region_of arena class = record { 0 = class_region_number arena (record { 0 = class }) }

-- the ranges of the class regions follow one another
abbrev pub home_of : Config → ℕ → Home
home_of c a =
    if nat_le (2 ^ 40) a && nat_lt a (reserved_start c (region_count c))
    then Class (record { 0 = (a - 2 ^ 40) / (2 * c.class_region) })
    else if nat_le large_start a && nat_lt a (large_start + c.large_space) then Large
    else Outside
