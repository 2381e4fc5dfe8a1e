-- Where a request goes whose block is to begin at a multiple of an alignment.
use Rattle.std.specs.Prelude.{◌≡◌, ℕ, ◌%◌, ◌^◌, ◌<◌, ◌≤◌, ◌⊎◌, Option, Some, None}
use Rattle.hm_sizes.specs.declared.class.Kind.{Kind}
use Rattle.hm_sizes.specs.declared.class.Kind.TheVariants.{Small, Large, TooLarge}
use Rattle.hm_sizes.specs.Classes.{class_count, slot_size}
use Rattle.hm_sizes.specs.Sizes.{raised, large_size, IsKindOf}

-- a power of two up to 2 ^ 21
abbrev pub IsAlignment : ℕ → Type 0
IsAlignment align = (k : ℕ) × (k ≤ 21) × (align ≡ 2 ^ k)

-- the class is not class 0, and its slot size holds r and is a multiple of the alignment
pub record ServesAligned (r align class : ℕ) : Type 0 where
  pub some : 1 ≤ class
  pub below : class < class_count
  pub holds : r ≤ slot_size class
  pub multiple : slot_size class % align ≡ 0

-- the class is such a one, and none before it is
pub record IsLeastAligned (r align class : ℕ) : Type 0 where
  pub serves : ServesAligned r align class
  pub least : (smaller : ℕ) → smaller < class → ServesAligned r align smaller → ⊥

-- where a request goes at an alignment above 16
abbrev pub IsWideKindOf : ℕ → ℕ → Kind → Type 0
IsWideKindOf asked align (Small class) =
    (align ≤ 4096) × (raised asked ≤ 131072) × IsLeastAligned (raised asked) align class.0
IsWideKindOf asked align (Large size) =
    ((4096 < align) ⊎ (131072 < raised asked)) × (asked ≤ 2 ^ 30) × (size ≡ large_size (raised asked))
IsWideKindOf asked align TooLarge = 2 ^ 30 < asked

-- where a request goes at an alignment
pub record IsAlignedKindOf (asked align : ℕ) (kind : Kind) : Type 0 where
  pub narrow : align ≤ 16 → IsKindOf asked kind
  pub wide : 16 < align → IsWideKindOf asked align kind

-- where a request goes: None exactly where the alignment is none
abbrev pub AlignedGives : ℕ → ℕ → Option Kind → Type 0
AlignedGives asked align None = IsAlignment align → ⊥
AlignedGives asked align (Some kind) = IsAlignment align × IsAlignedKindOf asked align kind
