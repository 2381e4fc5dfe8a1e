-- The bits of one word, lowest first.
use Rattle.std.specs.Prelude.{◌≡◌, ℕ, ◌<◌, ◌≤◌}
use Rattle.std.specs.Int.{bit_at}

-- each of these bits is set
abbrev pub AreSet : ℕ → ℕ → ℕ → Type 0
AreSet word from to = (i : ℕ) → from ≤ i → i < to → bit_at word i ≡ 1

-- this bit is clear, and all before it from `from` on are set
pub record IsFirstClear (word from bit : ℕ) : Type 0 where
  pub at_least : from ≤ bit
  pub below : bit < 64
  pub clear : bit_at word bit ≡ 0
  pub before : AreSet word from bit
