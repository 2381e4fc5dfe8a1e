-- What becomes of a write to a slot that was freed.
use Rattle.std.specs.Prelude.{◌≡◌, ℕ, ◌+◌, ◌<◌, true, IsTrue, List, [], ◌∷◌, ◌++◌, Some}
use Rattle.std.specs.List.{AllByRecursion as EachIs}
use Rattle.hm_model.specs.declared.entry.Entry.{Entry}
use Rattle.hm_model.specs.Calls.{IsFreedAt}
use Rattle.hm_sizes.specs.declared.shape.Shape.{Shape}
use Rattle.hm_sizes.specs.Shapes.{IsShape, usable, slab_of}
use Rattle.hm_class_rules.specs.Laws.{IsGivenAt, IsOverwrittenAt}
use Rattle.hm_class_rules.specs.Rules.{Terms, IsLegal}
use Rattle.hm_guarantees.specs.Given.{GivesNone}
use Rattle.hm_guarantees.specs.KeptBytes.{byte_after}

-- no entry retires slab n, or purges it: what was written there is not forgotten
abbrev pub KeepsSlab : ℕ → List Entry → Type 0
KeepsSlab n es = EachIs (λ e. (e.choices.retired ≡ Some n → ⊥) × (e.choices.purged ≡ Some n → ⊥)) es

-- what these entries' fills left at usable byte i of slot a, which was zero
abbrev pub left_at : List Entry → ℕ → ℕ → ℕ
left_at es a i = byte_after es (a + i) 0

-- it is the first that they left nonzero
pub record IsFirstLeft (p : Shape) (es : List Entry) (a i : ℕ) : Type 0 where
  pub within : i < usable p
  pub nonzero : left_at es a i ≡ 0 → ⊥
  pub first : (j : ℕ) → j < i → left_at es a j ≡ 0

-- after them an entry does not give slot a where one is left nonzero; where it picks it, it reports the first
pub record TellsWrites (p : Shape) (es : List Entry) (e : Entry) (a : ℕ) : Type 0 where
  pub not_given : (i : ℕ) → IsFirstLeft p es a i → IsGivenAt e a → ⊥
  pub told : (i : ℕ) → IsFirstLeft p es a i → (over : IsOverwrittenAt e a)
      → (over.place ≡ i) × (over.found ≡ left_at es a i)
  pub clean : ((i : ℕ) → i < usable p → left_at es a i ≡ 0) → IsOverwrittenAt e a → ⊥

-- from the free of a slot until it is given again, over pages that tell and where reuse is checked, as long as its slab
-- is neither retired nor purged
abbrev pub FoundWrites : Type 0
FoundWrites = (t : Terms) (before middle : List Entry) (freed e : Entry) (a : ℕ) → IsShape t.shape → IsTrue t.told
    → t.config.check_reuse ≡ true → IsLegal t (before ++ (freed ∷ (middle ++ (e ∷ []))))
    → IsFreedAt freed a → GivesNone a middle → KeepsSlab (slab_of t.shape a) (freed ∷ middle)
    → TellsWrites t.shape middle e a
