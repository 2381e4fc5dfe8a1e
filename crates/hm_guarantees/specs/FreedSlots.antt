-- What a slot is between its free and its next giving.
use Rattle.std.specs.Prelude.{◌≡◌, ◌⊎◌, ℕ, ◌+◌, ◌≤◌, List, [], ◌∷◌, ◌++◌, Option}
use Rattle.hm_model.specs.declared.entry.Entry.{Entry}
use Rattle.hm_model.specs.declared.entry.Call.TheVariants.{GiveBack, Measure}
use Rattle.hm_model.specs.declared.entry.Reply.TheVariants.{DoubleFree}
use Rattle.hm_model.specs.Calls.{IsFreedAt}
use Rattle.hm_sizes.specs.declared.shape.Shape.{Shape}
use Rattle.hm_sizes.specs.Shapes.{IsShape}
use Rattle.hm_class_rules.specs.State.{State}
use Rattle.hm_class_rules.specs.Steps.{step}
use Rattle.hm_class_rules.specs.Rules.{Terms, IsLegal, state}
use Rattle.hm_class_rules.specs.Laws.{IsGivenAt}
use Rattle.hm_guarantees.specs.Given.{GivesNone}

-- in state s the entry does nothing with slot a but give it: a free of it, and a question for its size, is refused by
-- its name and leaves the state as it was, and a slot that is given is a itself, or shares no address with it
pub record LeavesFreed (p : Shape) (s : State) (e : Entry) (a : ℕ) : Type 0 where
  pub free : (stated : Option ℕ) → e.call ≡ GiveBack a stated → e.reply ≡ DoubleFree
  pub kept : (stated : Option ℕ) → e.call ≡ GiveBack a stated → step p s e ≡ record s { faults = e.faults_after }
  pub size : e.call ≡ Measure a → e.reply ≡ DoubleFree
  pub apart : (b : ℕ) → IsGivenAt e b → (b ≡ a) ⊎ (b + p.slot ≤ a) ⊎ (a + p.slot ≤ b)

-- from a free of a slot on, as long as no entry gives it
abbrev pub FreedSlots : Type 0
FreedSlots = (t : Terms) (before middle : List Entry) (freed e : Entry) (a : ℕ)
    → IsShape t.shape → IsLegal t (before ++ (freed ∷ (middle ++ (e ∷ []))))
    → IsFreedAt freed a → GivesNone a middle
    → LeavesFreed t.shape (state t (before ++ (freed ∷ middle))) e a
