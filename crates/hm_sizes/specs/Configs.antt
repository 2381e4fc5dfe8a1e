-- Configurations.
use Rattle.std.specs.Prelude.{◌≡◌, ◌^◌, ◌%◌, ◌≤◌, true, false}
use Rattle.hm_sizes.specs.declared.config.Config.{Config}

abbrev pub standard : Config
standard = record {
  arenas = 4;
  class_region = 2 ^ 35;
  large_space = 2 ^ 40;
  guard_interval = 1;
  array_base = 1;
  ring_base = 1;
  park_length = 32;
  check_reuse = true;
  random_slots = true;
}

-- no quarantine of slots, no look at what a free slot holds, no drawn start, and a guard after eight slabs
abbrev pub light : Config
light = record {
  arenas = 4;
  class_region = 2 ^ 35;
  large_space = 2 ^ 40;
  guard_interval = 8;
  array_base = 0;
  ring_base = 0;
  park_length = 32;
  check_reuse = false;
  random_slots = false;
}

-- the numbers of a configuration are in range; either flag may be set or not
pub record IsValid (c : Config) : Type 0 where
  pub arenas_some : 1 ≤ c.arenas
  pub arenas_most : c.arenas ≤ 4
  pub region_pages : c.class_region % 4096 ≡ 0
  pub region_least : 2 ^ 20 ≤ c.class_region
  pub region_most : c.class_region ≤ 2 ^ 35
  pub space_pages : c.large_space % 4096 ≡ 0
  pub space_least : 2 ^ 20 ≤ c.large_space
  pub space_most : c.large_space ≤ 2 ^ 40
  pub guards_some : 1 ≤ c.guard_interval
  pub guards_most : c.guard_interval ≤ 8
  pub array_most : c.array_base ≤ 1
  pub ring_most : c.ring_base ≤ 1
  pub park_some : 1 ≤ c.park_length
  pub park_most : c.park_length ≤ 32
