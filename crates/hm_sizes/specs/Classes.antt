-- The 49 size classes: their slots, how many of them make a slab, and how long their quarantine is.
use Rattle.std.specs.Prelude.{ℕ, ◌+◌, ◌-◌, ◌*◌, ◌/◌, ◌^◌, ◌==◌, if◌then◌else◌, List, [], ◌∷◌, slice_index_or}
use Rattle.std.specs.Int.{leading_zeros}
use mir.Syntax.{w64}

-- the bytes from one slot to the next, class by class
abbrev pub slot_sizes : List ℕ
slot_sizes =
    16 ∷ 16 ∷ 32 ∷ 48 ∷ 64 ∷ 80 ∷ 96 ∷ 112 ∷ 128 ∷ 160 ∷ 192 ∷ 224 ∷ 256 ∷ 320 ∷ 384 ∷ 448 ∷ 512 ∷ 640 ∷ 768 ∷ 896 ∷ 1024
    ∷ 1280 ∷ 1536 ∷ 1792 ∷ 2048 ∷ 2560 ∷ 3072 ∷ 3584 ∷ 4096 ∷ 5120 ∷ 6144 ∷ 7168 ∷ 8192 ∷ 10240 ∷ 12288 ∷ 14336 ∷ 16384
    ∷ 20480 ∷ 24576 ∷ 28672 ∷ 32768 ∷ 40960 ∷ 49152 ∷ 57344 ∷ 65536 ∷ 81920 ∷ 98304 ∷ 114688 ∷ 131072 ∷ []

-- the slots of a slab, class by class
abbrev pub slot_counts : List ℕ
slot_counts =
    256 ∷ 256 ∷ 128 ∷ 85 ∷ 64 ∷ 51 ∷ 42 ∷ 36 ∷ 64 ∷ 51 ∷ 64 ∷ 54 ∷ 64 ∷ 64 ∷ 64 ∷ 64 ∷ 64 ∷ 64 ∷ 64 ∷ 64 ∷ 64
    ∷ 16 ∷ 16 ∷ 16 ∷ 16 ∷ 8 ∷ 8 ∷ 8 ∷ 8 ∷ 8 ∷ 8 ∷ 8 ∷ 8 ∷ 6 ∷ 5 ∷ 4 ∷ 4
    ∷ 1 ∷ 1 ∷ 1 ∷ 1 ∷ 1 ∷ 1 ∷ 1 ∷ 1 ∷ 1 ∷ 1 ∷ 1 ∷ 1 ∷ []

abbrev pub class_count : ℕ
class_count = 49

abbrev pub slot_size : ℕ → ℕ
slot_size class = slice_index_or slot_sizes class 0

abbrev pub slot_count : ℕ → ℕ
slot_count class = slice_index_or slot_counts class 0

-- the size of a block of the class: a slot's, but 0 in class 0
abbrev pub class_size : ℕ → ℕ
class_size class = if class == 0 then 0 else slot_size class

-- the least multiple of m that is at least n
abbrev pub round_up : ℕ → ℕ → ℕ
round_up m n = ((n + (m - 1)) / m) * m

-- the slots of a slab, rounded up to a page
abbrev pub slab_size : ℕ → ℕ
slab_size class = round_up 4096 (slot_count class * slot_size class)

-- the number of binary digits
abbrev pub bit_length : ℕ → ℕ
bit_length n = 64 - leading_zeros w64 n

-- the array's and the ring's length of the quarantine, for a base of 1: 2 ^ (17 - floor(log2 slot))
abbrev pub quarantine_length : ℕ → ℕ
quarantine_length class = 2 ^ (17 - (bit_length (slot_size class) - 1))
