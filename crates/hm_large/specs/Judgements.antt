-- What is said of an address that is measured or given back.
use Rattle.std.specs.Prelude.{◌≡◌, ℕ, ◌⊎◌, false, Option, Some, None, Result, Ok, Err}
use Rattle.hm_model.specs.Maps.{at}
use Rattle.hm_region_table.specs.declared.entry.Block.{Block as KeptBlock}
use Rattle.hm_model.specs.declared.entry.Reply.{Reply}
use Rattle.hm_model.specs.declared.entry.Reply.TheVariants as reply
use Rattle.hm_large_rules.specs.State.{Block, State}
use Rattle.hm_large_rules.specs.Rules.{wrong_size}
use Rattle.hm_large.specs.Kept.{kept_of}

-- the replies of a free that is refused: there is no live block, or the stated size is not its own
abbrev pub Refuses : State → ℕ → Option ℕ → Reply → Type 0
Refuses s a stated r = ((r ≡ reply.NotLive) × (at a s.live ≡ None))
    ⊎ ((block other : ℕ) × (r ≡ reply.WrongSize block other)
    × (wrong_size (at a s.live) stated ≡ Some (block, other)))

-- the live block that is given back, or the reply of a free that is refused
abbrev pub Judges : State → ℕ → Option ℕ → Result KeptBlock Reply → Type 0
Judges s a stated (Ok k) =
    (x : Block) × (at a s.live ≡ Some x) × (k ≡ kept_of false x) × (wrong_size (at a s.live) stated ≡ None)
Judges s a stated (Err r) = Refuses s a stated r

-- what a measurement replies
abbrev pub measured_reply : Option KeptBlock → Reply
measured_reply None = reply.NotLive
measured_reply (Some k) = reply.Usable k.size
