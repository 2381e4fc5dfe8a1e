-- What becomes of a read or a write that leaves a large block.
use Rattle.std.specs.Prelude.{◌≡◌, ◌⊎◌, ℕ, ◌+◌, ◌<◌, ◌≤◌, true, IsTrue, List, [], ◌∷◌, ◌++◌, length, Some}
use Rattle.hm_model.specs.declared.entry.Call.{Call}
use Rattle.hm_model.specs.declared.entry.Call.TheVariants.{Fetch, Fill}
use Rattle.hm_model.specs.declared.entry.Entry.{Entry}
use Rattle.hm_model.specs.declared.entry.Reply.TheVariants.{Trap}
use Rattle.hm_model.specs.Maps.{at}
use Rattle.hm_model.specs.Runs.{expand}
use Rattle.hm_large_rules.specs.Drawn.{IsDrawn}
use Rattle.hm_large_rules.specs.Rules.{Terms, IsLegal, state}
use Rattle.hm_large_rules.specs.State.{Block, State, covers}
use Rattle.hm_large_rules.specs.Steps.{step}

-- the call reads or writes the len bytes from an address on
abbrev pub Accesses : ℕ → ℕ → Call → Type 0
Accesses from len (Fetch a count) = (a ≡ from) × (count ≡ len)
Accesses from len (Fill a runs) = (a ≡ from) × (length (expand runs) ≡ len)
Accesses from len call = ⊥

-- of the live block x at a, after state s
pub record TrapsOutside (s : State) (e : Entry) (a : ℕ) (x : Block) : Type 0 where
  -- what begins within it, or right behind it, and goes on past its end traps at its end
  pub past : (from len : ℕ) → Accesses from len e.call → a ≤ from → from ≤ a + x.size → a + x.size < from + len
      → e.reply ≡ Trap (a + x.size)
  -- what begins in one of its guards, of which each has a page at least, traps there
  pub guarded : 1 ≤ x.guard
  pub guard : (from len : ℕ) → Accesses from len e.call → covers from (a, x) ≡ true
      → (from < a) ⊎ (a + x.size ≤ from) → e.reply ≡ Trap from
  -- and what traps writes nothing
  pub kept : (q : ℕ) → e.reply ≡ Trap q → (step s e).live ≡ s.live

-- over pages that tell
abbrev pub OverrunsTrap : Type 0
OverrunsTrap = (seed : ℕ) (t : Terms) (before : List Entry) (e : Entry) (a : ℕ) (x : Block) → IsTrue t.told
    → IsLegal t (before ++ e ∷ []) → IsDrawn seed (before ++ e ∷ []) → at a (state t before).live ≡ Some x
    → TrapsOutside (state t before) e a x
