-- Who writes the bytes of a live slot.
use Rattle.std.specs.Prelude.{◌≡◌, ℕ, ◌+◌, ◌<◌, ◌≤◌, true, List, [], ◌∷◌, ◌++◌, Some, unwrap_or}
use Rattle.hm_model.specs.declared.entry.Entry.{Entry}
use Rattle.hm_sizes.specs.Shapes.{IsShape, has_bytes}
use Rattle.hm_class_rules.specs.State.{is_live}
use Rattle.hm_class_rules.specs.Bytes.{byte_at}
use Rattle.hm_class_rules.specs.Rules.{Terms, IsLegal, state}
use Rattle.hm_class_rules.specs.Laws.{written_at}
use Rattle.hm_guarantees.specs.Given.{FreesNone}

-- the byte at an address after these entries: what the latest of their fills wrote there, or, where none did, what it was
abbrev pub byte_after : List Entry → ℕ → ℕ → ℕ
byte_after [] q was = was
byte_after (e ∷ es) q was = byte_after es q (unwrap_or (written_at e.call e.reply q) was)

-- each address of a live slot has a byte, its canary's too, but in class 0
abbrev pub LiveBytes : Type 0
LiveBytes = (t : Terms) (es : List Entry) (a q : ℕ) → IsShape t.shape → IsLegal t es → has_bytes t.shape ≡ true
    → is_live (state t es) a ≡ true → a ≤ q → q < a + t.shape.slot
    → (byte : ℕ) × (byte_at t.shape (state t es) q ≡ Some byte)

-- as long as a slot is live, its bytes and its canary's are what fills write: nothing else changes one
abbrev pub KeptBytes : Type 0
KeptBytes = (t : Terms) (before middle : List Entry) (a q was : ℕ) → IsShape t.shape → IsLegal t (before ++ middle)
    → is_live (state t before) a ≡ true → FreesNone a middle → a ≤ q → q < a + t.shape.slot
    → byte_at t.shape (state t before) q ≡ Some was
    → byte_at t.shape (state t (before ++ middle)) q ≡ Some (byte_after middle q was)
