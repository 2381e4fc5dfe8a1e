-- The origin of a region, spelled as a list of numbers and read back.
use Rattle.std.specs.Prelude.{ℕ, ◌==◌, Bool, if◌then◌else◌, List, [], ◌∷◌, slice_index_or}
use Rattle.hm_sizes.specs.Origins.{Origin}

-- a flag as a number
abbrev pub bit : Bool → ℕ
bit b = if b then 1 else 0

-- the fields of the configuration, the seed, the number of the region, and whether its pages tell
abbrev pub numbers_of : Origin → List ℕ
numbers_of o =
    o.config.arenas ∷ o.config.class_region ∷ o.config.large_space ∷ o.config.guard_interval ∷ o.config.array_base
    ∷ o.config.ring_base ∷ o.config.park_length ∷ bit o.config.check_reuse ∷ bit o.config.random_slots
    ∷ o.seed ∷ o.region ∷ bit o.told ∷ []

-- the origin that the numbers spell
abbrev pub origin_in : List ℕ → Origin
origin_in numbers = record {
  config = record {
    arenas = slice_index_or numbers 0 0;
    class_region = slice_index_or numbers 1 0;
    large_space = slice_index_or numbers 2 0;
    guard_interval = slice_index_or numbers 3 0;
    array_base = slice_index_or numbers 4 0;
    ring_base = slice_index_or numbers 5 0;
    park_length = slice_index_or numbers 6 0;
    check_reuse = slice_index_or numbers 7 0 == 1;
    random_slots = slice_index_or numbers 8 0 == 1;
  };
  seed = slice_index_or numbers 9 0;
  region = slice_index_or numbers 10 0;
  told = slice_index_or numbers 11 0 == 1;
}
