-- Cells in a circle, each empty or with an entry, and what holds of them.
use Rattle.std.specs.Prelude.{◌≡◌, ◌≢◌, ℕ, ◌+◌, ◌*◌, ◌/◌, ◌%◌, ◌^◌, ◌<◌, ◌==◌, ◌⊎◌, List, [], ◌∷◌, length, Option, Some, None, slice_get, if◌then◌else◌}
use Rattle.hm_region_table.specs.declared.entry.Block.{Block}
use Rattle.hm_region_table.specs.declared.entry.Entry.{Entry}

abbrev pub Cells : Type 0
Cells = List (Option Entry)

-- a key's page number, spread by an odd factor over 32 bits
abbrev pub spread : ℕ → ℕ
spread addr = addr / 4096 * 11400714819323198485 % 2 ^ 64 / 2 ^ 32

-- the cell where the search for a key begins
unfoldable pub home : ℕ → ℕ → ℕ
home count addr = spread addr % count

-- the cell after this one
abbrev pub next : ℕ → ℕ → ℕ
next count index = if index + 1 == count then 0 else index + 1

-- index is `far` cells on from `start`, of count cells in a circle
abbrev pub IsOn : ℕ → ℕ → ℕ → ℕ → Type 0
IsOn count start far index = (index < count) × ((index ≡ start + far) ⊎ (index + count ≡ start + far))

-- the entry stands at the index
abbrev pub At : Cells → ℕ → Entry → Type 0
At cells index entry = slice_get cells index ≡ Some (Some entry)

-- nothing stands at the index
abbrev pub Empty : Cells → ℕ → Type 0
Empty cells index = slice_get cells index ≡ Some None

-- each key stands once, and no cell between its home and its index is empty
pub record IsKept (cells : Cells) : Type 0 where
  pub some : 0 < length cells
  pub apart : (p q : ℕ) (e f : Entry) → At cells p e → At cells q f → e.addr ≡ f.addr → p ≡ q
  pub reached : (p d m r : ℕ) (e : Entry) → At cells p e
      → IsOn (length cells) (home (length cells) e.addr) d p → d < length cells
      → m < d → IsOn (length cells) (home (length cells) e.addr) m r → Empty cells r → ⊥

-- the key's entry stands at the index
abbrev pub IsThere : Cells → ℕ → ℕ → Type 0
IsThere cells addr index = (e : Entry) × At cells index e × (e.addr ≡ addr)

abbrev pub IsNotThere : Cells → ℕ → Type 0
IsNotThere cells addr = (p : ℕ) (e : Entry) → At cells p e → e.addr ≢ addr

-- some cell is empty
abbrev pub HasRoom : Cells → Type 0
HasRoom cells = (p : ℕ) × Empty cells p

-- the cell is empty, and none from the key's home up to it is
pub record IsCellFor (cells : Cells) (addr index : ℕ) : Type 0 where
  pub far : ℕ
  pub few : far < length cells
  pub on : IsOn (length cells) (home (length cells) addr) far index
  pub empty : Empty cells index
  pub full : (m r : ℕ) → m < far → IsOn (length cells) (home (length cells) addr) m r → Empty cells r → ⊥

-- the entries are those of old but for the one that stood at the index
abbrev pub IsWithout : Cells → ℕ → Cells → Type 0
IsWithout old gone cells =
    ((p : ℕ) (e : Entry) → At cells p e → (q : ℕ) × At old q e × (q ≢ gone))
    × ((q : ℕ) (e : Entry) → At old q e → q ≢ gone → (p : ℕ) × At cells p e)

-- an entry stands at the index
abbrev pub IsFull : Cells → ℕ → Type 0
IsFull cells index = (e : Entry) × At cells index e

-- the entries, in the order of their cells
abbrev pub entries_of : Cells → List (ℕ × Block)
entries_of [] = []
entries_of (None ∷ cells) = entries_of cells
entries_of (Some e ∷ cells) = (e.addr, e.block) ∷ entries_of cells
