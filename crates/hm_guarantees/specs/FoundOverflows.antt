-- What becomes of a write past a slot's usable bytes.
use Rattle.std.specs.Prelude.{◌≡◌, ℕ, ◌+◌, ◌<◌, ◌^◌, true, IsTrue, List, [], ◌∷◌, ◌++◌, get_or, Option, None, ⊤}
use Rattle.std.specs.List.{AllByRecursion as EachIs}
use Rattle.std.specs.Int.{w64, to_le_bytes}
use Rattle.hm_model.specs.declared.entry.Entry.{Entry}
use Rattle.hm_model.specs.declared.entry.Call.{Call}
use Rattle.hm_model.specs.declared.entry.Call.TheVariants.{GiveBack, Fill}
use Rattle.hm_model.specs.declared.entry.Reply.TheVariants.{Freed, Canary}
use Rattle.hm_report.specs.Text.{canary_index}
use Rattle.hm_sizes.specs.declared.shape.Shape.{Shape}
use Rattle.hm_sizes.specs.Shapes.{IsShape, has_bytes, usable}
use Rattle.hm_class_rules.specs.Bytes.{kept_canary}
use Rattle.hm_class_rules.specs.Rules.{Terms, IsLegal, state, wrong_size}
use Rattle.hm_class_rules.specs.Laws.{IsGivenAt}
use Rattle.hm_guarantees.specs.Given.{FreesNone}
use Rattle.hm_guarantees.specs.KeptBytes.{byte_after}

-- what a fill writes are bytes
abbrev pub WritesBytes : Call → Type 0
WritesBytes (Fill a runs) = EachIs (λ run. run.0 < 256) runs
WritesBytes call = ⊤

-- byte i of a canary, lowest first; and what stands there after these entries, in slot a
abbrev pub canary_byte : ℕ → ℕ → ℕ
canary_byte canary i = get_or (to_le_bytes w64 canary) i 0

abbrev pub found_byte : Shape → List Entry → ℕ → ℕ → ℕ → ℕ
found_byte p es a canary i = byte_after es (a + usable p + i) (canary_byte canary i)

abbrev pub IsIntact : Shape → List Entry → ℕ → ℕ → ℕ → Type 0
IsIntact p es a canary i = found_byte p es a canary i ≡ canary_byte canary i

-- byte i of the canary is the first that the entries changed
pub record IsFirstChanged (p : Shape) (es : List Entry) (a canary i : ℕ) : Type 0 where
  pub is_byte : i < 8
  pub changed : IsIntact p es a canary i → ⊥
  pub first : (j : ℕ) → j < i → IsIntact p es a canary j

-- a free of slot a, after these entries since it was given: where they left each byte of its canary as it was, it is
-- taken back; else the free is refused, and the report tells the first byte that they changed
pub record TellsOverflow (p : Shape) (es : List Entry) (free : Entry) (a canary : ℕ) : Type 0 where
  pub intact : ((i : ℕ) → i < 8 → IsIntact p es a canary i) → free.reply ≡ Freed
  pub changed : (i : ℕ) → IsFirstChanged p es a canary i
      → (found : ℕ) × (free.reply ≡ Canary canary found) × (canary_index canary found ≡ i)

-- of each free of a live slot with no size stated, or the right one, over pages that tell
abbrev pub FoundOverflows : Type 0
FoundOverflows = (t : Terms) (before middle : List Entry) (given free : Entry) (a : ℕ)
    → IsShape t.shape → IsTrue t.told → has_bytes t.shape ≡ true
    → IsLegal t (before ++ (given ∷ (middle ++ (free ∷ []))))
    → IsGivenAt given a → FreesNone a middle → EachIs (λ e. WritesBytes e.call) middle
    → (stated : Option ℕ) → free.call ≡ GiveBack a stated → wrong_size t.shape stated ≡ None
    → let canary = kept_canary t.shape (state t (before ++ given ∷ [])) a in canary < 2 ^ 64
    → TellsOverflow t.shape middle free a canary
