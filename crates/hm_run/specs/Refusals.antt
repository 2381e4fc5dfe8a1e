-- Each refusal of a region exactly where its cause holds.
use Rattle.std.specs.Prelude.{◌≡◌, ◌<◌, ◌↔◌, ℕ, IsTrue, true, false, Option, Some, None, is_some, unwrap_or, length}
use Rattle.hm_model.specs.declared.entry.Call.{Call}
use Rattle.hm_model.specs.declared.entry.Call.TheVariants.{Allot, GiveBack, Measure, Fetch, Fill}
use Rattle.hm_model.specs.declared.entry.Choices.{Choices}
use Rattle.hm_model.specs.declared.entry.Entry.{Entry}
use Rattle.hm_model.specs.declared.entry.Reply.{Reply}
use Rattle.hm_model.specs.declared.entry.Reply.TheVariants.{Given, Overwritten, Exhausted, NoSpace, PagesFailed, NoSlot, Unused, DoubleFree, WrongSize, Canary, Trap, NotLive}
use Rattle.hm_model.specs.Maps.{at, has}
use Rattle.hm_model.specs.Runs.{expand}
use Rattle.hm_sizes.specs.Shapes.{has_bytes}
use Rattle.hm_class_rules.specs.Bytes as slabs
use Rattle.hm_heap.specs.ClassRules as class
use Rattle.hm_class_rules.specs.State as class_state
use Rattle.hm_class_rules.specs.Steps.{opened}
use Rattle.hm_large_rules.specs.Bytes as large_bytes
use Rattle.hm_heap.specs.LargeRules as large
use Rattle.hm_large_rules.specs.State as large_state

-- ---- a class region in state s
module _ (t : class.Terms) (s : class_state.State) where
  -- the checks of a block that is given back, in their order
  pub record RefusesFree (reply : Reply) (a : ℕ) (stated : Option ℕ) : Type 0 where
    pub no_slot : (reply ≡ NoSlot) ↔ class.IsNoSlot t.shape s a
    pub unused : (reply ≡ Unused) ↔ class.IsUnused t.shape s a
    pub double_free : (reply ≡ DoubleFree) ↔ class.IsDoubleFree t.shape s a
    pub wrong_size : (block other : ℕ) → (reply ≡ WrongSize block other)
        ↔ (class.IsLiveBlock t.shape s a × (class.wrong_size t.shape stated ≡ Some (block, other)))
    pub canary : IsTrue t.told → (kept found : ℕ) → (reply ≡ Canary kept found)
        ↔ (class.IsLiveBlock t.shape s a × (class.wrong_size t.shape stated ≡ None)
        × (class.wrong_canary t.shape s a ≡ Some (kept, found)))

  -- those of a block whose usable size is asked for
  pub record RefusesMeasure (reply : Reply) (a : ℕ) : Type 0 where
    pub no_slot : (reply ≡ NoSlot) ↔ class.IsNoSlot t.shape s a
    pub unused : (reply ≡ Unused) ↔ class.IsUnused t.shape s a
    pub double_free : (reply ≡ DoubleFree) ↔ class.IsDoubleFree t.shape s a

  -- what the check on reuse finds, once a slab was opened, if need be
  abbrev pub found_in : Choices → ℕ → Option (ℕ × ℕ)
  found_in c a = class.reuse_finds t.config t.shape (opened t.shape c.opened c.canary s) a

  -- the index that was picked, which is given or told as overwritten
  abbrev pub picked : Reply → Option ℕ
  picked (Given a size) = Some a
  picked (Overwritten a offset byte) = Some a
  picked reply = None

  -- a place that was picked is told as overwritten exactly where one of its usable bytes is not zero; a page fault
  -- occurs only where a slab with bytes was to be opened and the count of faults rose
  pub record RefusesAllot (c : Choices) (before now : ℕ) (reply : Reply) : Type 0 where
    pub exhausted : (reply ≡ Exhausted)
        ↔ (class.NoneServes t.shape s × (class_state.unopened t.shape s.shut s.next ≡ None))
    pub overwritten : IsTrue t.told → (a offset byte : ℕ) → picked reply ≡ Some a
        → (reply ≡ Overwritten a offset byte) ↔ (found_in c a ≡ Some (offset, byte))
    pub given : IsTrue t.told → (a : ℕ) → picked reply ≡ Some a
        → ((size : ℕ) × (reply ≡ Given a size)) ↔ (found_in c a ≡ None)
    pub page_fault : reply ≡ PagesFailed → class.NoneServes t.shape s
        × (is_some (class_state.unopened t.shape s.shut s.next) ≡ true) × (has_bytes t.shape ≡ true) × (before < now)

  -- a trap is at the first address that is not accessible
  abbrev pub Traps : Reply → ℕ → ℕ → Type 0
  Traps reply a len = (q : ℕ) → (reply ≡ Trap q) ↔ (slabs.first_trap t.shape s a len ≡ Some q)

  -- of an entry, by its call
  abbrev pub RefusesClass : Entry → Call → Type 0
  RefusesClass e (Allot asked align) = RefusesAllot e.choices e.faults_before e.faults_after e.reply
  RefusesClass e (GiveBack a stated) = RefusesFree e.reply a stated
  RefusesClass e (Measure a) = RefusesMeasure e.reply a
  RefusesClass e (Fetch a len) = IsTrue t.told → Traps e.reply a len
  RefusesClass e (Fill a runs) = IsTrue t.told → Traps e.reply a (length (expand runs))

-- ---- the large region in state s
module _ (t : large.Terms) (s : large_state.State) where
  -- there is no room exactly where no address of the space serves the block with its guard; a page fault occurs only
  -- where one does and the count of faults rose
  pub record RefusesLargeAllot (guard before now : ℕ) (reply : Reply) (asked align : ℕ) : Type 0 where
    pub no_space : (reply ≡ NoSpace)
        ↔ ((a : ℕ) → large.IsCandidate t.config s align (large_state.size_for asked) guard a → ⊥)
    pub page_fault : reply ≡ PagesFailed
        → ((a : ℕ) × large.IsCandidate t.config s align (large_state.size_for asked) guard a) × (before < now)

  -- a page fault occurs only where a live block of the right size was to be taken back and the count of faults rose
  pub record RefusesLargeFree (before now : ℕ) (reply : Reply) (a : ℕ) (stated : Option ℕ) : Type 0 where
    pub not_live : (reply ≡ NotLive) ↔ (has a s.live ≡ false)
    pub wrong_size : (block other : ℕ) → (reply ≡ WrongSize block other)
        ↔ (large.wrong_size (at a s.live) stated ≡ Some (block, other))
    pub page_fault : reply ≡ PagesFailed
        → (has a s.live ≡ true) × (large.wrong_size (at a s.live) stated ≡ None) × (before < now)

  -- a trap is at the first address that is not accessible
  abbrev pub TrapsLarge : Reply → ℕ → ℕ → Type 0
  TrapsLarge reply a len = (q : ℕ) → (reply ≡ Trap q) ↔ (large_bytes.first_trap s.live a len ≡ Some q)

  -- of an entry, by its call
  abbrev pub RefusesLarge : Entry → Call → Type 0
  RefusesLarge e (Allot asked align) =
      RefusesLargeAllot (unwrap_or e.choices.guard 0) e.faults_before e.faults_after e.reply asked align
  RefusesLarge e (GiveBack a stated) = RefusesLargeFree e.faults_before e.faults_after e.reply a stated
  RefusesLarge e (Measure a) = (e.reply ≡ NotLive) ↔ (has a s.live ≡ false)
  RefusesLarge e (Fetch a len) = IsTrue t.told → TrapsLarge e.reply a len
  RefusesLarge e (Fill a runs) = IsTrue t.told → TrapsLarge e.reply a (length (expand runs))
