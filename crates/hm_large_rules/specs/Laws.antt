-- Laws of legal histories of the large region.
use Rattle.std.specs.Prelude.{◌≡◌, ◌≢◌, ℕ, ◌+◌, ◌*◌, ◌%◌, ◌<◌, ◌≤◌, ◌^◌, true, List, [], ◌∷◌, ◌++◌, length, Some, ◌⊎◌, ⊤}
use Rattle.hm_model.specs.declared.entry.Entry.{Entry}
use Rattle.hm_model.specs.declared.entry.Call.TheVariants.{Allot}
use Rattle.hm_model.specs.declared.entry.Reply.TheVariants.{Given}
use Rattle.hm_model.specs.Calls.{IsFreedAt}
use Rattle.hm_model.specs.Maps.{at}
use Rattle.hm_sizes.specs.Homes.{large_start}
use Rattle.hm_sizes.specs.declared.config.Config.{Config}
use Rattle.hm_large_rules.specs.State.{Block, Blocks, is_quarantined, covers, taken, State, size_for}
use Rattle.hm_large_rules.specs.Steps.{new_block}
use Rattle.hm_large_rules.specs.Bytes.{byte_at}
use Rattle.hm_large_rules.specs.Rules.{Terms, Allowed, IsLegal, state}

-- ---- prefixes
abbrev pub Prefixes : Type 0
Prefixes = (t : Terms) (es fs : List Entry) → IsLegal t (es ++ fs) → IsLegal t es

abbrev pub OneMore : Type 0
OneMore = (t : Terms) (es : List Entry) (e : Entry) → IsLegal t es → Allowed t (state t es) e → IsLegal t (es ++ e ∷ [])

abbrev pub OneLess : Type 0
OneLess = (t : Terms) (es : List Entry) (e : Entry) → IsLegal t (es ++ e ∷ []) → IsLegal t es × Allowed t (state t es) e

-- ---- where blocks lie
-- the block is whole pages, has all its bytes, and lies with its guards in the large space
pub record IsInSpace (c : Config) (e : ℕ × Block) : Type 0 where
  pub from : large_start + 4096 * e.1.guard ≤ e.0
  pub to : e.0 + e.1.size + 4096 * e.1.guard ≤ large_start + c.large_space
  pub aligned : e.0 % 4096 ≡ 0
  pub some : 1 ≤ e.1.size
  pub pages : e.1.size % 4096 ≡ 0
  pub most : e.1.size ≤ 2 ^ 30
  pub whole : length e.1.bytes ≡ e.1.size

abbrev pub AreInSpace : Config → Blocks → Type 0
AreInSpace c [] = ⊤
AreInSpace c (e ∷ blocks) = IsInSpace c e × AreInSpace c blocks

pub record IsSound (c : Config) (s : State) : Type 0 where
  pub live : AreInSpace c s.live
  pub quarantined : AreInSpace c s.quarantined
  -- no address is in two live blocks or blocks in quarantine, or their guards
  pub once : (q : ℕ) → taken s q ≤ 1

abbrev pub Sound : Type 0
Sound = (t : Terms) (es : List Entry) → IsLegal t es → IsSound t.config (state t es)

-- ---- live blocks never overlap
abbrev pub Apart : Type 0
Apart = (t : Terms) (es : List Entry) (a b : ℕ) (x y : Block) → IsLegal t es → at a (state t es).live ≡ Some x
    → at b (state t es).live ≡ Some y → a ≢ b
    → (a + x.size ≤ b) ⊎ (b + y.size ≤ a)

-- ---- the delay
pub record IsGivenAt (e : Entry) (a asked guard : ℕ) : Type 0 where
  pub align : ℕ
  pub size : ℕ
  pub call : e.call ≡ Allot asked align
  pub reply : e.reply ≡ Given a size
  pub guard_is : e.choices.guard ≡ Some guard

-- the two blocks, with their guards, share an address
pub record Meets (x y : ℕ × Block) : Type 0 where
  pub address : ℕ
  pub first : covers address x ≡ true
  pub second : covers address y ≡ true

-- between the free of a block that goes into quarantine and a given one that meets it stand at least 1,025 further
-- frees of such blocks
abbrev pub Delays : Type 0
Delays = (t : Terms) (before middle after : List Entry) (f g : Entry) (a b asked guard : ℕ) (x : Block)
    → IsLegal t (before ++ (f ∷ (middle ++ (g ∷ after))))
    → IsFreedAt f a → at a (state t before).live ≡ Some x → is_quarantined x ≡ true → IsGivenAt g b asked guard
    → Meets (a, x) (b, new_block asked guard)
    → length (state t (before ++ f ∷ [])).frees + 1025 ≤ length (state t (before ++ (f ∷ middle))).frees

-- ---- bytes
-- all bytes of a given block are zero
abbrev pub Zeroed : Type 0
Zeroed = (t : Terms) (es : List Entry) (g : Entry) (b asked guard k : ℕ) → IsLegal t (es ++ (g ∷ []))
    → IsGivenAt g b asked guard → k < size_for asked → byte_at (state t (es ++ (g ∷ []))).live (b + k) ≡ Some 0
