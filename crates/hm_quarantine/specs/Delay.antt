-- How long a freed slot stays in quarantine. `array` and `ring` are the lengths of the two.
use Rattle.std.specs.Prelude.{◌≡◌, ℕ, ◌+◌, ◌≤◌, min, true, false, List, [], ◌∷◌, map, length, take, IfSome}
use Rattle.hm_base.specs.Members.{among, without_option}
use Rattle.hm_quarantine.specs.LookingBack.{Free, released, AreIndices}

abbrev pub slots_of : List Free → List ℕ
slots_of past = map (λ (free : Free). free.slot) past

-- the slots in quarantine after these frees: each free brings its slot, and what it releases goes
abbrev pub quarantined : ℕ → ℕ → List Free → List ℕ
quarantined array ring [] = []
quarantined array ring (free ∷ past) = without_option (released array ring past free) (free.slot ∷ quarantined array ring past)

-- no free is of a slot that is in quarantine
abbrev pub AreNew : ℕ → ℕ → List Free → Type 0
AreNew array ring [] = Unit {0}
AreNew array ring (free ∷ past) = (among free.slot (quarantined array ring past) ≡ false) × AreNew array ring past

-- how many further frees stand at least between the free of a slot and its release
abbrev pub delay : ℕ → ℕ → ℕ
delay array ring = ring + min array 1

-- a slot that a free releases was in quarantine, and none of the latest frees is its own
pub record IsDelayed (array ring : ℕ) (past : List Free) (free : Free) (slot : ℕ) : Type 0 where
  pub was_quarantined : among slot (free.slot ∷ quarantined array ring past) ≡ true
  pub late : among slot (take (delay array ring) (slots_of (free ∷ past))) ≡ false

-- what is released is delayed
abbrev pub Delays : Type 0
Delays = (array ring : ℕ) (past : List Free) (free : Free) → AreIndices array (free ∷ past)
    → AreNew array ring (free ∷ past) → IfSome (released array ring past free) (IsDelayed array ring past free)

-- no more slots are in quarantine than the array and the ring have cells
abbrev pub HoldsFew : Type 0
HoldsFew = (array ring : ℕ) (past : List Free) → AreIndices array past → AreNew array ring past
    → length (quarantined array ring past) ≤ array + ring
