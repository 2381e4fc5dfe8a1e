-- The replies that each call of a region may have, whatever its pages tell. Which of them comes is the rule of a legal
-- history.
use Rattle.std.specs.Prelude.{◌≡◌, ◌≢◌, ℕ, ◌+◌, ◌<◌, ◌≤◌, ◌^◌, Bool, true, false, length, Option, None, unwrap_or, ⊤}
use Rattle.hm_model.specs.declared.entry.Call.{Call}
use Rattle.hm_model.specs.declared.entry.Call.TheVariants.{Allot, GiveBack, Measure, Fetch, Fill}
use Rattle.hm_model.specs.declared.entry.Reply.{Reply}
use Rattle.hm_model.specs.declared.entry.Reply.TheVariants.{Given, Overwritten, Exhausted, NoSpace, PagesFailed, Freed, NoSlot, Unused, DoubleFree, WrongSize, Canary, Usable, Bytes, Filled, Trap, NotLive}
use Rattle.hm_model.specs.Runs.{expand, AreRuns}

-- ---- what a reply says, in either kind of region
-- a page fault occurred: none was made accessible, or those of a block did not go
abbrev pub is_page_fault : Reply → Bool
is_page_fault PagesFailed = true
is_page_fault reply = false

-- the bytes that were read stand in as few runs as they can
abbrev pub HasRuns : Reply → Type 0
HasRuns (Bytes runs) = AreRuns runs
HasRuns reply = ⊤

-- ---- reading and writing, in either kind of region
-- q is one of the len addresses from addr on
abbrev pub IsWithin : ℕ → ℕ → ℕ → Type 0
IsWithin addr len q = (addr ≤ q) × (q < addr + len)

-- as many bytes as were asked for, or an address of the range
abbrev pub IsFetchReply : ℕ → ℕ → Reply → Type 0
IsFetchReply addr len (Bytes runs) = length (expand runs) ≡ len
IsFetchReply addr len (Trap q) = IsWithin addr len q
IsFetchReply addr len reply = ⊥

abbrev pub IsFillReply : ℕ → ℕ → Reply → Type 0
IsFillReply addr len Filled = ⊤
IsFillReply addr len (Trap q) = IsWithin addr len q
IsFillReply addr len reply = ⊥

-- by the first address that is not accessible, if there is one: nothing is read or written then; a trap is there, or at
-- the range's own address where all are accessible and the pages do not lend them
abbrev pub ReplyTraps : Option ℕ → ℕ → Reply → Type 0
ReplyTraps found addr (Bytes runs) = found ≡ None
ReplyTraps found addr Filled = found ≡ None
ReplyTraps found addr (Trap q) = q ≡ unwrap_or found addr
ReplyTraps found addr reply = ⊤

-- ---- a class region whose slots have so many usable bytes; in class 0 there are none
abbrev pub IsSlotReply : ℕ → Reply → Type 0
IsSlotReply usable (Given addr size) = (addr < 2 ^ 47) × (size ≡ usable)
IsSlotReply usable (Overwritten addr at found) = (addr < 2 ^ 47) × (at < usable) × (found ≢ 0)
IsSlotReply usable Exhausted = ⊤
IsSlotReply usable PagesFailed = ⊤
IsSlotReply usable reply = ⊥

abbrev pub IsFreeReply : Reply → Type 0
IsFreeReply NoSlot = ⊤
IsFreeReply Unused = ⊤
IsFreeReply DoubleFree = ⊤
IsFreeReply (WrongSize block stated) = ⊤
IsFreeReply (Canary kept found) = kept ≢ found
IsFreeReply Freed = ⊤
IsFreeReply reply = ⊥

abbrev pub IsMeasureReply : ℕ → Reply → Type 0
IsMeasureReply usable NoSlot = ⊤
IsMeasureReply usable Unused = ⊤
IsMeasureReply usable DoubleFree = ⊤
IsMeasureReply usable (Usable size) = size ≡ usable
IsMeasureReply usable reply = ⊥

abbrev pub IsClassReply : ℕ → Call → Reply → Type 0
IsClassReply usable (Allot asked align) reply = IsSlotReply usable reply
IsClassReply usable (GiveBack addr stated) reply = IsFreeReply reply
IsClassReply usable (Measure addr) reply = IsMeasureReply usable reply
IsClassReply usable (Fetch addr len) reply = IsFetchReply addr len reply
IsClassReply usable (Fill addr runs) reply = IsFillReply addr (length (expand runs)) reply

-- ---- the large region
abbrev pub IsBlockReply : Reply → Type 0
IsBlockReply (Given addr size) = addr < 2 ^ 47
IsBlockReply NoSpace = ⊤
IsBlockReply PagesFailed = ⊤
IsBlockReply reply = ⊥

abbrev pub IsBlockFreeReply : Reply → Type 0
IsBlockFreeReply NotLive = ⊤
IsBlockFreeReply (WrongSize block stated) = ⊤
IsBlockFreeReply PagesFailed = ⊤
IsBlockFreeReply Freed = ⊤
IsBlockFreeReply reply = ⊥

abbrev pub IsBlockMeasureReply : Reply → Type 0
IsBlockMeasureReply NotLive = ⊤
IsBlockMeasureReply (Usable size) = ⊤
IsBlockMeasureReply reply = ⊥

abbrev pub IsLargeReply : Call → Reply → Type 0
IsLargeReply (Allot asked align) reply = IsBlockReply reply
IsLargeReply (GiveBack addr stated) reply = IsBlockFreeReply reply
IsLargeReply (Measure addr) reply = IsBlockMeasureReply reply
IsLargeReply (Fetch addr len) reply = IsFetchReply addr len reply
IsLargeReply (Fill addr runs) reply = IsFillReply addr (length (expand runs)) reply
