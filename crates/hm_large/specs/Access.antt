-- What reading and writing a range find.
use Rattle.std.specs.Prelude.{◌≡◌, ◌≢◌, ℕ, ◌+◌, ◌≤◌, ◌⊎◌, List, length, Option, Some, None}
use Rattle.std.specs.FinMap as map
use Rattle.hm_model.specs.declared.entry.Reply.{Reply}
use Rattle.hm_model.specs.declared.entry.Reply.TheVariants as reply
use Rattle.hm_model.specs.Runs.{expand}
use Rattle.hm_outside.specs.declared.pages.Pages as pages
use Rattle.hm_outside.specs.PageRuns.{PageRuns}
use Rattle.hm_large.specs.declared.access.Fetched.{Fetched}
use Rattle.hm_large.specs.declared.access.Fetched.TheVariants as fetched
use Rattle.hm_large_rules.specs.State.{Blocks}
use Rattle.hm_large_rules.specs.Bytes.{first_trap, bytes_read}

-- the reply to a fetch
abbrev pub fetch_reply : Fetched → Reply
fetch_reply (fetched.Bytes runs) = reply.Bytes runs
fetch_reply (fetched.Trap q) = reply.Trap q

-- the reply to a fill, by the address at which it traps
abbrev pub fill_reply : Option ℕ → Reply
fill_reply None = reply.Filled
fill_reply (Some q) = reply.Trap q

-- the bytes that the blocks have, or the first address at which they have none
abbrev pub IsRead : Blocks → ℕ → ℕ → Fetched → Type 0
IsRead live addr len (fetched.Bytes runs) = (first_trap live addr len ≡ None) × (expand runs ≡ bytes_read live addr len)
IsRead live addr len (fetched.Trap q) = first_trap live addr len ≡ Some q

-- the pages are as before, and of the same region, but for their runs and bytes
pub record SameButPageRuns {P : Type 0} (meaning : pages.Ghosts P) (before now : P) : Type 0 where
  pub told : meaning.told now ≡ meaning.told before
  pub owner : meaning.owner now ≡ meaning.owner before
  pub count : meaning.faults now ≡ meaning.faults before

-- no address is in two page runs
abbrev pub AreDisjoint : PageRuns → Type 0
AreDisjoint runs = (p q : ℕ) (b d : List ℕ) → map.get runs p ≡ Some b → map.get runs q ≡ Some d → p ≢ q
    → (p + length b ≤ q) ⊎ (q + length d ≤ p)
