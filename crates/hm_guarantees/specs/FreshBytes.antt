-- What is read of a block.
use Rattle.std.specs.Prelude.{◌≡◌, ℕ, ◌+◌, ◌≤◌, true, IsTrue, List, [], ◌∷◌, ◌++◌, map}
use Rattle.std.specs.List.{range_with_len}
use Rattle.hm_model.specs.declared.entry.Call.TheVariants.{Fetch}
use Rattle.hm_model.specs.declared.entry.Entry.{Entry}
use Rattle.hm_model.specs.declared.entry.Reply.TheVariants.{Bytes}
use Rattle.hm_model.specs.Runs.{expand}
use Rattle.hm_sizes.specs.Shapes.{IsShape, usable}
use Rattle.hm_class_rules.specs.Laws.{IsGivenAt}
use Rattle.hm_class_rules.specs.Rules as class
use Rattle.hm_large_rules.specs.Rules as large
use Rattle.hm_large_rules.specs.State.{size_for}
use Rattle.hm_guarantees.specs.FreedBlocks.{GivesBlock}
use Rattle.hm_guarantees.specs.Given.{FreesNone}
use Rattle.hm_guarantees.specs.KeptBytes.{byte_after}

-- a read of some of the len bytes from a on is replied with what the fills among these entries wrote there, and zeros
-- where none did
abbrev pub ReadsFresh : List Entry → Entry → ℕ → ℕ → Type 0
ReadsFresh es e a len = (from count : ℕ) → e.call ≡ Fetch from count → a ≤ from → from + count ≤ a + len
    → (runs : List (ℕ × ℕ)) × (e.reply ≡ Bytes runs)
    × (expand runs ≡ map (λ q. byte_after es q 0) (range_with_len from count))

-- of a slot, over pages that tell and where reuse is checked, from its giving until it is freed, whatever was there
-- before
abbrev pub FreshSlots : Type 0
FreshSlots = (t : class.Terms) (before middle : List Entry) (given e : Entry) (a : ℕ) → IsShape t.shape → IsTrue t.told
    → t.config.check_reuse ≡ true → class.IsLegal t (before ++ (given ∷ (middle ++ (e ∷ []))))
    → IsGivenAt given a → FreesNone a middle → ReadsFresh middle e a (usable t.shape)

-- of a large block, over pages that tell
abbrev pub FreshBlocks : Type 0
FreshBlocks = (t : large.Terms) (before middle : List Entry) (given e : Entry) (a asked : ℕ) → IsTrue t.told
    → large.IsLegal t (before ++ (given ∷ (middle ++ (e ∷ []))))
    → GivesBlock given a asked → FreesNone a middle → ReadsFresh middle e a (size_for asked)
