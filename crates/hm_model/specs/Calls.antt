-- What a call of a region asks of its arguments, and the entry that it adds, whatever the kind of region.
use Rattle.std.specs.Prelude.{◌≡◌, ℕ, ◌<◌, ◌≤◌, ◌^◌, List, [], ◌∷◌, ◌++◌, length, Option, None, ⊤}
use Rattle.hm_model.specs.declared.entry.Call.{Call}
use Rattle.hm_model.specs.declared.entry.Call.TheVariants.{GiveBack, Fetch, Fill}
use Rattle.hm_model.specs.declared.entry.Choices.{Choices}
use Rattle.hm_model.specs.declared.entry.Draws.{Draws}
use Rattle.hm_model.specs.declared.entry.Entry.{Entry}
use Rattle.hm_model.specs.declared.entry.Reply.{Reply}
use Rattle.hm_model.specs.declared.entry.Reply.TheVariants.{Freed}
use Rattle.hm_model.specs.declared.entry.Who.{Who}
use Rattle.hm_model.specs.Runs.{expand, AreRuns}

-- ---- arguments
-- a range that may be read or written: it has from 1 to 2 ^ 30 bytes and begins below 2 ^ 47
abbrev pub IsRange : ℕ → ℕ → Type 0
IsRange addr len = (1 ≤ len) × (len ≤ 2 ^ 30) × (addr < 2 ^ 47)

-- what reading and writing ask; the other calls ask nothing here
abbrev pub AsksRange : Call → Type 0
AsksRange (Fetch addr len) = IsRange addr len
AsksRange (Fill addr runs) = IsRange addr (length (expand runs))
AsksRange call = ⊤

-- the bytes that are written stand in as few runs as they can
abbrev pub CallRuns : Call → Type 0
CallRuns (Fill addr runs) = AreRuns runs
CallRuns call = ⊤

-- ---- entries
-- nothing is chosen
abbrev pub no_choices : Choices
no_choices = record {
  canary = None;
  opened = None;
  released = None;
  retired = None;
  purged = None;
  unparked = None;
  guard = None;
}

-- no word is drawn, or one
abbrev pub no_words : Draws
no_words = record { used = 0; w0 = 0; w1 = 0; w2 = 0 }

abbrev pub one_word : ℕ → Draws
one_word word = record { used = 1; w0 = word; w1 = 0; w2 = 0 }

-- the counts of page faults are those at the call's start and at its end
abbrev pub entry_of : Who → Call → Reply → Choices → Draws → ℕ → ℕ → Entry
entry_of who call reply choices draws before now = record {
  who = who;
  call = call;
  reply = reply;
  choices = choices;
  draws = draws;
  faults_before = before;
  faults_after = now;
}

-- it took back what begins at this address
pub record IsFreedAt (e : Entry) (a : ℕ) : Type 0 where
  pub stated : Option ℕ
  pub call : e.call ≡ GiveBack a stated
  pub reply : e.reply ≡ Freed

-- exactly one entry was added: that of this call with this reply and these counts
pub record Adds (who : Who) (call : Call) (reply : Reply) (before now : ℕ) (old new : List Entry) : Type 0 where
  pub choices : Choices
  pub draws : Draws
  pub entries : new ≡ old ++ entry_of who call reply choices draws before now ∷ []
