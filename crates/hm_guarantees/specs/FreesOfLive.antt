-- Which blocks a free takes back.
use Rattle.std.specs.Prelude.{◌≡◌, ℕ, List, [], ◌∷◌, ◌++◌}
use Rattle.hm_model.specs.declared.entry.Entry.{Entry}
use Rattle.hm_model.specs.Calls.{IsFreedAt}
use Rattle.hm_class_rules.specs.Laws.{IsGivenAt}
use Rattle.hm_class_rules.specs.Rules as class
use Rattle.hm_large_rules.specs.Rules as large
use Rattle.hm_guarantees.specs.FreedBlocks.{GivesBlock, GivesNoneAt}
use Rattle.hm_guarantees.specs.Given.{GivesNone, FreesNone}

-- one of these entries gave slot a, and none after it gave or took it back
pub record WasGiven (es : List Entry) (a : ℕ) : Type 0 where
  pub before : List Entry
  pub given : Entry
  pub later : List Entry
  pub entries : es ≡ before ++ given ∷ later
  pub gives : IsGivenAt given a
  pub given_once : GivesNone a later
  pub never_freed : FreesNone a later

-- each free that is accepted takes back a slot that was given and not freed since
abbrev pub FreesOfLiveSlots : Type 0
FreesOfLiveSlots = (t : class.Terms) (before : List Entry) (freed : Entry) (a : ℕ)
    → class.IsLegal t (before ++ freed ∷ []) → IsFreedAt freed a → WasGiven before a

-- the same of a large block
pub record BlockWasGiven (es : List Entry) (a : ℕ) : Type 0 where
  pub before : List Entry
  pub given : Entry
  pub later : List Entry
  pub entries : es ≡ before ++ given ∷ later
  pub asked : ℕ
  pub gives : GivesBlock given a asked
  pub given_once : GivesNoneAt a later
  pub never_freed : FreesNone a later

abbrev pub FreesOfLiveBlocks : Type 0
FreesOfLiveBlocks = (t : large.Terms) (before : List Entry) (freed : Entry) (a : ℕ)
    → large.IsLegal t (before ++ freed ∷ []) → IsFreedAt freed a → BlockWasGiven before a
