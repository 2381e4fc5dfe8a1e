-- Who writes the bytes of a live block.
use Rattle.std.specs.Prelude.{◌≡◌, ℕ, ◌+◌, ◌<◌, ◌≤◌, nat_lt, true, if◌then◌else◌, List, [], ◌∷◌, ◌++◌, Option, Some, unwrap_or}
use Rattle.std.specs.List.{AllByRecursion as EachIs}
use Rattle.hm_outside.specs.declared.pages.Pages as pages
use Rattle.hm_model.specs.declared.entry.Entry.{Entry}
use Rattle.hm_model.specs.Calls.{IsFreedAt}
use Rattle.hm_model.specs.Maps.{at}
use Rattle.hm_sizes.specs.Origins.{Origin, large_region_number}
use Rattle.hm_sizes.specs.Shapes.{IsShape}
use Rattle.hm_class_rules.specs.Bytes as slots
use Rattle.hm_class_rules.specs.Laws.{written_at}
use Rattle.hm_class_rules.specs.State.{is_live}
use Rattle.hm_heap.specs.ClassRules as class
use Rattle.hm_large_rules.specs.State as block_state
use Rattle.hm_large_rules.specs.Bytes as block_bytes
use Rattle.hm_heap.specs.LargeRules as large
use Rattle.hm_heap.specs.Lawful.{class_terms, large_terms}
use Rattle.hm_heap.specs.Laws.{IsOfBlock}
use Rattle.hm_heap.specs.declared.close.Closed.{Closed}
use Rattle.hm_run.specs.declared.words.Options.{Options}
use Rattle.hm_run.specs.Laws.{Begins}
use Rattle.hm_run.specs.Replayed.{origin_at}

-- no entry takes back what begins at this address
abbrev pub FreesNone : ℕ → List Entry → Type 0
FreesNone a es = EachIs (λ e. IsFreedAt e a → ⊥) es

-- the byte at an address after these entries: what the latest of their fills wrote there, or, where none did, what it was
abbrev pub byte_after : List Entry → ℕ → ℕ → ℕ
byte_after [] q was = was
byte_after (e ∷ es) q was = byte_after es q (unwrap_or (written_at e.call e.reply q) was)

-- the byte at an address after a history of the region of this origin: none where it is not accessible
abbrev pub byte_in : Origin → List Entry → ℕ → Option ℕ
byte_in o history q = if nat_lt o.region large_region_number
    then slots.byte_at (class_terms o).shape (class.state (class_terms o) history) q
    else block_bytes.byte_at (large.state (large_terms o) history).live q

-- ---- of one region
-- as long as a slot is live, its bytes and its canary's are what fills write: nothing else changes one
abbrev pub KeptSlots : Type 0
KeptSlots = (t : class.Terms) (before middle : List Entry) (a q was : ℕ) → IsShape t.shape
    → class.IsLegal t (before ++ middle) → is_live (class.state t before) a ≡ true → FreesNone a middle
    → a ≤ q → q < a + t.shape.slot → slots.byte_at t.shape (class.state t before) q ≡ Some was
    → slots.byte_at t.shape (class.state t (before ++ middle)) q ≡ Some (byte_after middle q was)

-- as long as a large block is live, its bytes are what fills write
abbrev pub KeptBlocks : Type 0
KeptBlocks = (t : large.Terms) (before middle : List Entry) (a q was : ℕ) (block : block_state.Block)
    → large.IsLegal t (before ++ middle) → at a (large.state t before).live ≡ Some block → FreesNone a middle
    → a ≤ q → q < a + block.size → block_bytes.byte_at (large.state t before).live q ≡ Some was
    → block_bytes.byte_at (large.state t (before ++ middle)).live q ≡ Some (byte_after middle q was)

-- ---- of the histories that a run hands out
-- each byte of a live block is what the latest fill wrote there since any moment, or what it was then, as long as no
-- entry frees the block
abbrev pub BytesKept : {P : Type 0} → pages.Ghosts P → Options → Closed P → ℕ → P → Type 0
BytesKept {P} meaning o closed index p = (before middle : List Entry) (a q was : ℕ)
    → Begins meaning o closed index p (before ++ middle)
    → IsOfBlock (origin_at meaning o index p) before a q → FreesNone a middle
    → byte_in (origin_at meaning o index p) before q ≡ Some was
    → byte_in (origin_at meaning o index p) (before ++ middle) q ≡ Some (byte_after middle q was)
