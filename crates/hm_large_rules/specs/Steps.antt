-- How an entry changes the state.
use Rattle.std.specs.Prelude.{ℕ, ◌+◌, ◌==◌, ◌||◌, false, if◌then◌else◌, ◌∷◌, map, Option, Some, None, unwrap_or}
use Rattle.hm_base.specs.Lists.{zeros}
use Rattle.hm_model.specs.declared.entry.Entry.{Entry}
use Rattle.hm_model.specs.declared.entry.Call.{Call}
use Rattle.hm_model.specs.declared.entry.Call.TheVariants.{Allot, GiveBack, Fill}
use Rattle.hm_model.specs.declared.entry.Reply.{Reply}
use Rattle.hm_model.specs.declared.entry.Reply.TheVariants.{Given, PagesFailed, Freed, Filled}
use Rattle.hm_model.specs.Maps.{at, removed}
use Rattle.hm_model.specs.Runs.{expand}
use Rattle.hm_quarantine.specs.LookingBack.{Free}
use Rattle.hm_large_rules.specs.State.{Block, Blocks, State, size_for, is_quarantined}
use Rattle.hm_large_rules.specs.Bytes.{write}
use Rattle.hm_large_rules.specs.Draws.{array_index}

-- ---- allotting
abbrev pub new_block : ℕ → ℕ → Block
new_block asked guard = record {
  asked = asked;
  size = size_for asked;
  guard = guard;
  failed = false;
  bytes = zeros (size_for asked);
}

abbrev pub gives : ℕ → ℕ → ℕ → State → State
gives a asked guard s = record s { live = (a, new_block asked guard) ∷ s.live }

-- ---- giving back
-- a page fault occurred as the block at a was to be taken back
abbrev pub mark : ℕ → ℕ × Block → ℕ × Block
mark a e = (e.0, record e.1 { failed = e.0 == a || e.1.failed })

abbrev pub marked : ℕ → Blocks → Blocks
marked a blocks = map (mark a) blocks

abbrev pub marks : ℕ → State → State
marks a s = record s { live = marked a s.live }

-- the free of the block at a, with the word that was drawn for it
abbrev pub free_at : ℕ → ℕ → Free
free_at a word = record { slot = a; index = array_index word }

-- the block at a is no longer live: a greater one has left, any other is in quarantine
abbrev pub takes_back : ℕ → ℕ → Option Block → State → State
takes_back a word None s = s
takes_back a word (Some b) s =
    if is_quarantined b then record s {
      live = removed a s.live;
      quarantined = (a, b) ∷ s.quarantined;
      frees = free_at a word ∷ s.frees;
    }
    else record s { live = removed a s.live }

abbrev pub releases : Option ℕ → State → State
releases None s = s
releases (Some b) s = record s { quarantined = removed b s.quarantined }

-- ---- an entry
abbrev pub changed : Entry → Call → Reply → State → State
changed e (Allot asked align) (Given a size) s = gives a asked (unwrap_or e.choices.guard 0) s
changed e (GiveBack a stated) PagesFailed s = marks a s
changed e (GiveBack a stated) Freed s = releases e.choices.released (takes_back a e.draws.w0 (at a s.live) s)
changed e (Fill a runs) Filled s = write a (expand runs) s
changed e call reply s = s

abbrev pub step : State → Entry → State
step s e = record (changed e e.call e.reply s) { words = e.draws.used + s.words; faults = e.faults_after }
