-- What a large block is after its free.
use Rattle.std.specs.Prelude.{◌≡◌, ◌⊎◌, ℕ, ◌+◌, ◌<◌, ◌≤◌, List, [], ◌∷◌, ◌++◌, Option, Some, None}
use Rattle.std.specs.List.{AllByRecursion as EachIs}
use Rattle.hm_model.specs.declared.entry.Entry.{Entry}
use Rattle.hm_model.specs.declared.entry.Call.TheVariants.{Allot, GiveBack, Measure}
use Rattle.hm_model.specs.declared.entry.Reply.TheVariants.{Given, NotLive}
use Rattle.hm_model.specs.Calls.{IsFreedAt}
use Rattle.hm_model.specs.Maps.{at}
use Rattle.hm_large_rules.specs.State.{Block, size_for, State}
use Rattle.hm_large_rules.specs.Bytes.{byte_at}
use Rattle.hm_large_rules.specs.Steps.{step}
use Rattle.hm_large_rules.specs.Rules.{Terms, IsLegal, state}

-- it gave a block of the size for a request, from an address on
pub record GivesBlock (e : Entry) (a asked : ℕ) : Type 0 where
  pub align : ℕ
  pub usable : ℕ
  pub call : e.call ≡ Allot asked align
  pub reply : e.reply ≡ Given a usable

-- no entry gives a block that begins at a; none gives one that has the address q
abbrev pub GivesNoneAt : ℕ → List Entry → Type 0
GivesNoneAt a es = EachIs (λ e. (asked : ℕ) → GivesBlock e a asked → ⊥) es

abbrev pub GivesNoneOver : ℕ → List Entry → Type 0
GivesNoneOver q es = EachIs (λ e. (b asked : ℕ) → GivesBlock e b asked → (q < b) ⊎ (b + size_for asked ≤ q)) es

-- in state s the entry refuses to do anything with a: a free of it, and a question for its size, is refused by its name,
-- and leaves the blocks as they were
pub record RefusesFreed (s : State) (e : Entry) (a : ℕ) : Type 0 where
  pub free : (stated : Option ℕ) → e.call ≡ GiveBack a stated → e.reply ≡ NotLive
  pub live : (stated : Option ℕ) → e.call ≡ GiveBack a stated → (step s e).live ≡ s.live
  pub quarantined : (stated : Option ℕ) → e.call ≡ GiveBack a stated → (step s e).quarantined ≡ s.quarantined
  pub size : e.call ≡ Measure a → e.reply ≡ NotLive

-- from a free of the block at a on, as long as no entry gives one that begins there
abbrev pub FreedBlocks : Type 0
FreedBlocks = (t : Terms) (before middle : List Entry) (freed e : Entry) (a : ℕ)
    → IsLegal t (before ++ (freed ∷ (middle ++ (e ∷ []))))
    → IsFreedAt freed a → GivesNoneAt a middle
    → RefusesFreed (state t (before ++ (freed ∷ middle))) e a

-- and as long as none gives one that has an address of it, no byte stands there
abbrev pub FreedBytes : Type 0
FreedBytes = (t : Terms) (before middle : List Entry) (freed : Entry) (a q : ℕ) (block : Block)
    → IsLegal t (before ++ (freed ∷ middle))
    → IsFreedAt freed a → at a (state t before).live ≡ Some block → a ≤ q → q < a + block.size → GivesNoneOver q middle
    → byte_at (state t (before ++ (freed ∷ middle))).live q ≡ None
