-- Free ranges in order, and the addresses in them.
use Rattle.std.specs.Prelude.{◌≡◌, ℕ, suc, ◌+◌, ◌%◌, ◌^◌, ◌<◌, ◌≤◌, ◌⊎◌, ◌↔◌, ◌==◌, nat_le, List, [], ◌∷◌, if◌then◌else◌}
use Rattle.hm_space.specs.declared.free_range.FreeRange.{FreeRange}

-- the address past its last one
abbrev pub end_of : FreeRange → ℕ
end_of range = range.start + range.len

-- the address is one of so many from `at` on
pub record IsWithin (at len a : ℕ) : Type 0 where
  pub from : at ≤ a
  pub below : a < at + len

-- the address is in one of the ranges
abbrev pub IsInSome : List FreeRange → ℕ → Type 0
IsInSome [] a = ⊥
IsInSome (range ∷ ranges) a = IsWithin range.start range.len a ⊎ IsInSome ranges a

-- a range that begins at `low` or past it, is not empty, and ends below 2^64
pub record IsRangeFrom (low : ℕ) (range : FreeRange) : Type 0 where
  pub from : low ≤ range.start
  pub some : 0 < range.len
  pub below : range.start + range.len < 2 ^ 64

-- ranges that rise from `low` on, no two of which touch
abbrev pub AreApart : ℕ → List FreeRange → Type 0
AreApart low [] = Unit {0}
AreApart low (range ∷ ranges) = IsRangeFrom low range × AreApart (end_of range + 1) ranges

-- so many addresses from `at` on all lie in the range
pub record LiesIn (range : FreeRange) (at len : ℕ) : Type 0 where
  pub from : range.start ≤ at
  pub to : at + len ≤ range.start + range.len

-- the list of the range, or of none where it is empty
abbrev pub range_or_none : ℕ → ℕ → List FreeRange
range_or_none start len = if len == 0 then [] else record { start = start; len = len } ∷ []

-- how many ranges at the front begin at this address or below it
abbrev pub begun : List FreeRange → ℕ → ℕ
begun [] at = 0
begun (range ∷ ranges) at = if nat_le range.start at then suc (begun ranges at) else 0

-- the new ranges have all addresses of the old ones but these
pub record Takes (old new : List FreeRange) (at len : ℕ) : Type 0 where
  pub apart : AreApart 0 new
  pub each : (a : ℕ) → IsInSome new a ↔ (IsInSome old a × (IsWithin at len a → ⊥))

-- the new ranges have all addresses of the old ones and these
pub record Gives (old new : List FreeRange) (at len : ℕ) : Type 0 where
  pub apart : AreApart 0 new
  pub each : (a : ℕ) → IsInSome new a ↔ (IsInSome old a ⊎ IsWithin at len a)

-- an address in the range from which so many lie in it, and `front` past it is a multiple
pub record IsFitIn (range : FreeRange) (len align front at : ℕ) : Type 0 where
  pub lies : LiesIn range at len
  pub aligned : (at + front) % align ≡ 0
