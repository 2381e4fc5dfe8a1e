-- The number of a region, and what of it no call changes.
use Rattle.std.specs.Prelude.{ℕ, ◌+◌, ◌*◌, Bool}
use Rattle.hm_sizes.specs.declared.class.ClassId.{ClassId}
use Rattle.hm_sizes.specs.declared.config.Config.{Config}
use Rattle.hm_sizes.specs.Classes.{class_count}

-- the regions are numbered, those of the classes by arena and class
abbrev pub class_region_number : ℕ → ClassId → ℕ
class_region_number arena class = arena * class_count + class.0

abbrev pub large_region_number : ℕ
large_region_number = 196

-- the configuration and the seed, the region's number, and whether its pages tell. No call changes it
pub record Origin : Type 0 where
  pub config : Config
  pub seed : ℕ
  pub region : ℕ
  pub told : Bool
