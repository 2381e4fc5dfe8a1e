-- What a write within a slot's usable bytes leaves as it is.
use Rattle.std.specs.Prelude.{◌≡◌, ◌⊎◌, ◌↔◌, ℕ, ◌+◌, ◌<◌, ◌≤◌, true, List, [], ◌∷◌, ◌++◌, length, ⊤}
use Rattle.hm_model.specs.declared.entry.Entry.{Entry}
use Rattle.hm_model.specs.declared.entry.Call.{Call}
use Rattle.hm_model.specs.declared.entry.Call.TheVariants.{Fetch, Fill}
use Rattle.hm_model.specs.declared.entry.Choices.{Choices}
use Rattle.hm_model.specs.declared.entry.Reply.{Reply}
use Rattle.hm_model.specs.declared.entry.Reply.TheVariants.{Filled}
use Rattle.hm_model.specs.Runs.{expand}
use Rattle.hm_sizes.specs.Shapes.{IsShape, usable}
use Rattle.hm_class_rules.specs.State.{State, is_live}
use Rattle.hm_class_rules.specs.Bytes.{byte_at}
use Rattle.hm_class_rules.specs.Rules.{Terms, Allows, IsLegal, state, wrong_canary}

-- it wrote some of the len bytes from a on, and no other
pub record FillsWithin (e : Entry) (a len : ℕ) : Type 0 where
  pub from : ℕ
  pub runs : List (ℕ × ℕ)
  pub call : e.call ≡ Fill from runs
  pub reply : e.reply ≡ Filled
  pub low : a ≤ from
  pub high : from + length (expand runs) ≤ a + len

-- the call reads none of the len bytes from a on
abbrev pub ReadsNone : ℕ → ℕ → Call → Type 0
ReadsNone a len (Fetch from count) = (from + count ≤ a) ⊎ (a + len ≤ from)
ReadsNone a len call = ⊤

-- from state s to state s', only usable bytes of slot a may differ
pub record IsContained (t : Terms) (s s' : State) (a : ℕ) : Type 0 where
  -- no byte of another slot, live or free, and no byte of a canary is another
  pub bytes : (q : ℕ) → (q < a) ⊎ (a + usable t.shape ≤ q) → byte_at t.shape s' q ≡ byte_at t.shape s q
  pub canaries : (b : ℕ) → is_live s b ≡ true → wrong_canary t.shape s' b ≡ wrong_canary t.shape s b
  -- any call that does not read them may be answered exactly as before, with the same choices
  pub answers : (before now : ℕ) (c : Choices) (call : Call) (reply : Reply) → ReadsNone a (usable t.shape) call
      → Allows t s before now c call reply ↔ Allows t s' before now c call reply

-- a fill within the usable bytes of a live slot is contained
abbrev pub ContainedFills : Type 0
ContainedFills = (t : Terms) (before : List Entry) (fill : Entry) (a : ℕ) → IsShape t.shape
    → IsLegal t (before ++ fill ∷ []) → is_live (state t before) a ≡ true → FillsWithin fill a (usable t.shape)
    → IsContained t (state t before) (state t (before ++ fill ∷ [])) a
