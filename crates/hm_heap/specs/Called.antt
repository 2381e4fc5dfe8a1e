-- What one call of a region tells its turn.
use Rattle.std.specs.Prelude.{◌≡◌, ◌≤◌, List, [], ◌∷◌, ◌++◌, Result, MatchResult, Option, MatchOption}
use Rattle.hm_base.specs.declared.memory.NoMemory.{NoMemory}
use Rattle.hm_model.specs.declared.entry.Call.{Call}
use Rattle.hm_model.specs.declared.entry.Entry.{Entry}
use Rattle.hm_model.specs.declared.entry.Reply.{Reply}
use Rattle.hm_model.specs.declared.entry.Who.{Who}
use Rattle.hm_model.specs.Entries.{calls_of}
use Rattle.hm_turn.specs.Histories.{StartsWith}
use Rattle.hm_turn.specs.Knowledge.{Knowledge, with_lost}
use Rattle.hm_turn.specs.Known.{Lock, Known, IsOf}
use Rattle.hm_heap.specs.Accepted.{IsAccepted}
use Rattle.hm_heap.specs.Lawful.{IsLawful}
use Rattle.hm_heap.specs.Origins.{origin_in}
use Rattle.hm_heap.specs.Requests.{call_of, Asks, IsReply}
use Rattle.hm_heap.specs.declared.request.RegionCall.{RegionCall}

pub record IsEntryOf (who : Who) (call : Call) (reply : Reply) (e : Entry) : Type 0 where
  pub who_is : e.who ≡ who
  pub call_is : e.call ≡ call
  pub reply_is : e.reply ≡ reply

-- the history ends with the call and its reply, which is one more entry of the caller's
pub record Makes (who : Who) (call : Call) (reply : Reply) (before after : Knowledge) : Type 0 where
  pub entry : Entry
  pub is : IsEntryOf who call reply entry
  pub kind : IsReply (origin_in before.origin) call reply
  pub earlier : List Entry
  pub seen : after.seen ≡ earlier ++ entry ∷ []
  pub mine : after.mine ≡ before.mine ++ entry ∷ []

-- memory lacked: there is no entry, and the call was no free of a live block with its own size and canary
pub record Lacks (call : Call) (before after : Knowledge) : Type 0 where
  pub mine : after.mine ≡ before.mine
  pub not_accepted : IsAccepted (origin_in before.origin) after.seen call → ⊥

-- the history is lawful and goes on from what was seen. Where the call was replied to, it ends with the call
pub record Called (who : Who) (call : Call) (result : Result Reply NoMemory) (before after : Knowledge) : Type 0 where
  pub same : after ≡ record before { seen = after.seen; mine = after.mine; lost = after.lost }
  pub lost : before.lost ≤ after.lost
  pub begins : StartsWith after.seen before.seen
  pub lawful : IsLawful (origin_in before.origin) after.seen
  pub own : calls_of after.seen before.caller ≡ after.mine
  pub made : MatchResult result (λ reply. Makes who call reply before after) (λ _. Lacks call before after)

-- a call that may find the turn not free: then one more step of this turn found it so, and nothing else changed
abbrev pub Tried : Who → Call → Option (Result Reply NoMemory) → Knowledge → Knowledge → Type 0
Tried who call tried before after =
    MatchOption tried (after ≡ with_lost before) (λ result. Called who call result before after)

-- ---- the turn under which it is made
-- the turn is of the lock, its caller makes the call, and its region is asked what it may be asked
pub record MayMake (lock : Lock) (turn : Known) (call : RegionCall) : Type 0 where
  pub of : IsOf lock turn
  pub caller : call.who.caller ≡ turn.knows.caller
  pub asks : Asks (origin_in turn.knows.origin).region (call_of call.request)

-- turn t made it, and is turn u from then on
pub record MakesCall (call : RegionCall) (result : Result Reply NoMemory) (t u : Known) : Type 0 where
  pub lock : u.lock ≡ t.lock
  pub called : Called call.who (call_of call.request) result t.knows u.knows

-- the same, where the turn may not have been free
pub record TriesCall (call : RegionCall) (made : Option (Result Reply NoMemory)) (t u : Known) : Type 0 where
  pub lock : u.lock ≡ t.lock
  pub tried : Tried call.who (call_of call.request) made t.knows u.knows
