-- The size that a request of a given size has in the end.
use Rattle.std.specs.Prelude.{◌≡◌, ℕ, ◌+◌, ◌-◌, ◌^◌, ◌<◌, ◌≤◌, nat_lt, nat_le, ◌==◌, if◌then◌else◌, List, [], ◌∷◌, map, max}
use Rattle.std.specs.List.{range_with_len}
use Rattle.hm_sizes.specs.Classes.{class_count, class_size, round_up, bit_length}
use Rattle.hm_sizes.specs.declared.class.Kind.{Kind}
use Rattle.hm_sizes.specs.declared.class.Kind.TheVariants.{Small, Large, TooLarge}

-- with room for a canary, from 1 to 131,072; 0 and greater requests as they are
abbrev pub raised : ℕ → ℕ
raised asked = if asked == 0 then 0 else if nat_le asked 131072 then asked + 8 else asked

-- the class holds r, and none before it does
pub record IsLeastClass (r class : ℕ) : Type 0 where
  pub below : class < class_count
  pub holds : r ≤ class_size class
  pub least : (smaller : ℕ) → smaller < class → class_size smaller < r

-- the first of these sizes that holds r, or r
abbrev pub least_size : ℕ → List ℕ → ℕ
least_size r [] = r
least_size r (size ∷ sizes) = if nat_le r size then size else least_size r sizes

abbrev pub class_sizes : List ℕ
class_sizes = map class_size (range_with_len 0 class_count)

-- large sizes stand this far apart
abbrev pub spacing : ℕ → ℕ
spacing r = if nat_le r 32768 then 4096 else 2 ^ (bit_length (r - 1) - 3)

-- the size of a large block
abbrev pub large_size : ℕ → ℕ
large_size r = round_up (spacing r) (max r 1)

-- the size of the block for a request: the class size, the large size, or the request itself above 2 ^ 30
abbrev pub block_size : ℕ → ℕ
block_size asked =
    if nat_lt (2 ^ 30) asked then asked
    else if nat_le (raised asked) 131072 then least_size (raised asked) class_sizes
    else large_size (raised asked)

-- where a request goes
abbrev pub IsKindOf : ℕ → Kind → Type 0
IsKindOf asked (Small class) = (raised asked ≤ 131072) × IsLeastClass (raised asked) class.0
IsKindOf asked (Large size) = (131072 < raised asked) × (asked ≤ 2 ^ 30) × (size ≡ large_size (raised asked))
IsKindOf asked TooLarge = 2 ^ 30 < asked
