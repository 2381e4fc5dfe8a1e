-- What the types of an entry's parts promise: each number is in the range of its type, and runs keep the rules of runs.
use Rattle.std.specs.Prelude.{ℕ, ◌<◌, ◌^◌, List, Option, Some, None, ⊤}
use Rattle.std.specs.List.{All}
use Rattle.hm_model.specs.declared.entry.Call.{Call}
use Rattle.hm_model.specs.declared.entry.Call.TheVariants.{Allot, GiveBack, Measure, Fetch, Fill}
use Rattle.hm_model.specs.declared.entry.Choices.{Choices}
use Rattle.hm_model.specs.declared.entry.Draws.{Draws}
use Rattle.hm_model.specs.declared.entry.Entry.{Entry}
use Rattle.hm_model.specs.declared.entry.Reply.{Reply}
use Rattle.hm_model.specs.declared.entry.Reply.TheVariants.{Given, Overwritten, WrongSize, Canary, Usable, Bytes, Trap}
use Rattle.hm_model.specs.declared.entry.Who.{Who}
use Rattle.hm_model.specs.Calls.{CallRuns}
use Rattle.hm_model.specs.Replies.{HasRuns}

-- ---- numbers
abbrev pub Fits8 : ℕ → Type 0
Fits8 n = n < 2 ^ 8

abbrev pub Fits32 : ℕ → Type 0
Fits32 n = n < 2 ^ 32

abbrev pub Fits64 : ℕ → Type 0
Fits64 n = n < 2 ^ 64

abbrev pub OptionFits : Option ℕ → Type 0
OptionFits None = ⊤
OptionFits (Some n) = Fits64 n

abbrev pub RunFits : ℕ × ℕ → Type 0
RunFits run = Fits8 run.0 × Fits64 run.1

abbrev pub WhoFits : Who → Type 0
WhoFits w = Fits32 w.caller × Fits32 w.round × Fits32 w.thread × Fits32 w.step × Fits8 w.part

abbrev pub DrawsFit : Draws → Type 0
DrawsFit d = Fits8 d.used × Fits32 d.w0 × Fits32 d.w1 × Fits32 d.w2

abbrev pub ChoicesFit : Choices → Type 0
ChoicesFit c =
    OptionFits c.canary × OptionFits c.opened × OptionFits c.released × OptionFits c.retired × OptionFits c.purged
    × OptionFits c.unparked × OptionFits c.guard

abbrev pub CallFits : Call → Type 0
CallFits (Allot asked align) = Fits64 asked × Fits64 align
CallFits (GiveBack addr stated) = Fits64 addr × OptionFits stated
CallFits (Measure addr) = Fits64 addr
CallFits (Fetch addr len) = Fits64 addr × Fits64 len
CallFits (Fill addr runs) = Fits64 addr × All RunFits runs

abbrev pub ReplyFits : Reply → Type 0
ReplyFits (Given addr usable) = Fits64 addr × Fits64 usable
ReplyFits (Overwritten addr at found) = Fits64 addr × Fits64 at × Fits8 found
ReplyFits (WrongSize block stated) = Fits64 block × Fits64 stated
ReplyFits (Canary kept found) = Fits64 kept × Fits64 found
ReplyFits (Usable size) = Fits64 size
ReplyFits (Bytes runs) = All RunFits runs
ReplyFits (Trap addr) = Fits64 addr
ReplyFits reply = ⊤

pub record EntryFits (e : Entry) : Type 0 where
  pub who : WhoFits e.who
  pub call : CallFits e.call
  pub reply : ReplyFits e.reply
  pub choices : ChoicesFit e.choices
  pub draws : DrawsFit e.draws
  pub before : Fits64 e.faults_before
  pub after : Fits64 e.faults_after

-- ---- runs
-- the bytes that are written, and those that were read, stand in as few runs as they can
pub record EntryRuns (e : Entry) : Type 0 where
  pub call : CallRuns e.call
  pub reply : HasRuns e.reply

-- ---- both
pub record IsTyped (e : Entry) : Type 0 where
  pub fits : EntryFits e
  pub runs : EntryRuns e

-- each entry of a history is such, and the room for more is one that memory has
pub record HoldsTyped (es : List Entry) (spare : ℕ) : Type 0 where
  pub typed : All IsTyped es
  pub few : spare < 2 ^ 63
