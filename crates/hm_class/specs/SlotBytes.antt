-- What writing bytes changes.
use Rattle.std.specs.Prelude.{◌≡◌, ℕ, IsTrue, List}
use Rattle.hm_outside.specs.declared.pages.Pages as pages
use Rattle.hm_outside.specs.PageRuns.{IsHeld, Writes}

module _ {P : Type 0} (meaning : pages.Ghosts P) (before now : P) where
  -- the pages tell as before and belong to the same region, and no page fault occurred
  pub record KeepsPages : Type 0 where
    pub told : meaning.told now ≡ meaning.told before
    pub owner : meaning.owner now ≡ meaning.owner before
    pub count : meaning.faults now ≡ meaning.faults before

  -- these bytes were written over the len addresses from a on, where the pages hold them
  pub record Puts (a len : ℕ) (bytes : List ℕ) : Type 0 where
    pub pages : KeepsPages
    pub written : IsTrue (meaning.told before) → IsHeld (meaning.runs before) a len
        → Writes (meaning.runs before) a len bytes (meaning.runs now)
