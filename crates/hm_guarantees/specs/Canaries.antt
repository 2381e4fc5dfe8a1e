-- The canaries of slabs.
use Rattle.std.specs.Prelude.{◌≡◌, ℕ, ◌%◌, ◌<◌, ◌≤◌, ◌^◌, List}
use Rattle.hm_model.specs.declared.entry.Entry.{Entry}
use Rattle.hm_sizes.specs.Shapes.{IsShape}
use Rattle.hm_class_rules.specs.Bytes.{kept_canary}
use Rattle.hm_class_rules.specs.Rules.{Terms, IsLegal, state}
use Rattle.hm_class_rules.specs.Drawn.{IsDrawn}

-- it has 8 bytes, and the lowest of them is 0, so that no text that is read from a block's start runs through it
pub record IsCanary (k : ℕ) : Type 0 where
  pub fits : k < 2 ^ 64
  pub ends_text : k % 256 ≡ 0

-- after every legal and drawn history each slab keeps such a canary
abbrev pub CanariesFit : Type 0
CanariesFit = (seed arena : ℕ) (t : Terms) (es : List Entry) (a : ℕ) → 1 ≤ t.config.park_length → IsShape t.shape
    → IsLegal t es → IsDrawn seed arena t es → IsCanary (kept_canary t.shape (state t es) a)
