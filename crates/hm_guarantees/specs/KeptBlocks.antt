-- Who writes the bytes of a live large block.
use Rattle.std.specs.Prelude.{◌≡◌, ◌⊎◌, ◌↔◌, ℕ, ◌+◌, ◌<◌, ◌≤◌, List, [], ◌∷◌, ◌++◌, Some}
use Rattle.hm_model.specs.declared.entry.Entry.{Entry}
use Rattle.hm_model.specs.declared.entry.Call.{Call}
use Rattle.hm_model.specs.declared.entry.Reply.{Reply}
use Rattle.hm_model.specs.Maps.{at}
use Rattle.hm_large_rules.specs.State.{Block, State}
use Rattle.hm_large_rules.specs.Bytes.{byte_at}
use Rattle.hm_large_rules.specs.Rules.{Terms, Allows, IsLegal, state}
use Rattle.hm_guarantees.specs.Given.{FreesNone}
use Rattle.hm_guarantees.specs.KeptBytes.{byte_after}
use Rattle.hm_guarantees.specs.ContainedFills.{FillsWithin, ReadsNone}

-- each address of a live block has a byte
abbrev pub LiveBlockBytes : Type 0
LiveBlockBytes = (t : Terms) (es : List Entry) (a q : ℕ) (block : Block) → IsLegal t es
    → at a (state t es).live ≡ Some block → a ≤ q → q < a + block.size
    → (byte : ℕ) × (byte_at (state t es).live q ≡ Some byte)

-- as long as a block is live, its bytes are what fills write: nothing else changes one
abbrev pub KeptBlockBytes : Type 0
KeptBlockBytes = (t : Terms) (before middle : List Entry) (a q was : ℕ) (block : Block) → IsLegal t (before ++ middle)
    → at a (state t before).live ≡ Some block → FreesNone a middle → a ≤ q → q < a + block.size
    → byte_at (state t before).live q ≡ Some was
    → byte_at (state t (before ++ middle)).live q ≡ Some (byte_after middle q was)

-- from state s to state s', only bytes among len from a on may differ
pub record IsBlockContained (t : Terms) (s s' : State) (a len : ℕ) : Type 0 where
  pub bytes : (q : ℕ) → (q < a) ⊎ (a + len ≤ q) → byte_at s'.live q ≡ byte_at s.live q
  -- any call that does not read them may be answered exactly as before, with the same choices
  pub answers : (e : Entry) (call : Call) (reply : Reply) → ReadsNone a len call
      → Allows t s e call reply ↔ Allows t s' e call reply

-- a fill within a live block is contained
abbrev pub ContainedBlockFills : Type 0
ContainedBlockFills = (t : Terms) (before : List Entry) (fill : Entry) (a : ℕ) (block : Block)
    → IsLegal t (before ++ fill ∷ []) → at a (state t before).live ≡ Some block → FillsWithin fill a block.size
    → IsBlockContained t (state t before) (state t (before ++ fill ∷ [])) a block.size
