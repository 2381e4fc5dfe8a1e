-- The free ranges of the large space.
use Rattle.std.specs.Prelude.{◌↔◌, ℕ}
use Rattle.hm_space.specs.Space.{FreeSpace, IsFree}
use Rattle.hm_sizes.specs.declared.config.Config.{Config}
use Rattle.hm_large_rules.specs.State.{State, IsOpen}

-- free is what is in the large space and in no block or guard
abbrev pub IsSpaceOf : Config → State → FreeSpace → Type 0
IsSpaceOf c s space = (q : ℕ) → IsFree space q ↔ IsOpen c s q
