-- The sizes of the live blocks, as the changes that entries make say them.
use Rattle.std.specs.Prelude.{◌≡◌, ℕ, List, option_map}
use Rattle.std.specs.List.{sum_by}
use Rattle.hm_model.specs.declared.entry.Entry.{Entry}
use Rattle.hm_model.specs.Changes.{changes_of, sizes, size_at, total_of}
use Rattle.hm_model.specs.Maps.{at}
use Rattle.hm_large_rules.specs.State.{Block, Blocks}
use Rattle.hm_large_rules.specs.Rules.{Terms, state, IsLegal}

-- a map of sizes has at each address the size of the block there, and nothing elsewhere; its sum is that of the blocks
pub record AreSizes (blocks : Blocks) (es : List (ℕ × ℕ)) : Type 0 where
  pub alike : (a : ℕ) → size_at es a ≡ option_map (λ (b : Block). b.size) (at a blocks)
  pub total : total_of es ≡ sum_by (λ (e : ℕ × Block). e.1.size) blocks

-- what the changes of a legal history make of sizes are those of the live blocks
abbrev pub LiveSizes : Type 0
LiveSizes = (t : Terms) (es : List Entry) → IsLegal t es → AreSizes (state t es).live (sizes (changes_of es))
