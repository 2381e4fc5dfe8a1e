-- The words of an entry's line.
use Rattle.std.specs.Prelude.{ℕ, List, [], ◌∷◌, ◌++◌, codes}
use Rattle.std.specs.Fmt.{decimal}
use Rattle.hm_model.specs.declared.entry.Call.{Call}
use Rattle.hm_model.specs.declared.entry.Call.TheVariants.{Allot, GiveBack, Measure, Fetch, Fill}
use Rattle.hm_model.specs.declared.entry.Choices.{Choices}
use Rattle.hm_model.specs.declared.entry.Draws.{Draws}
use Rattle.hm_model.specs.declared.entry.Entry.{Entry}
use Rattle.hm_model.specs.declared.entry.Reply.{Reply}
use Rattle.hm_model.specs.declared.entry.Reply.TheVariants.{Given, Overwritten, Exhausted, NoSpace, PagesFailed, Freed, NoSlot, Unused, DoubleFree, WrongSize, Canary, Usable, Bytes, Filled, Trap, NotLive}
use Rattle.hm_model.specs.declared.entry.Who.{Who}
use Rattle.hm_base.specs.Bytes.{byte_word}
use Rattle.hm_journal.specs.Words.{option_word, runs_word}

-- CALLER ROUND THREAD STEP PART
abbrev pub who_words : Who → List (List ℕ)
who_words w = decimal w.caller ∷ decimal w.round ∷ decimal w.thread ∷ decimal w.step ∷ decimal w.part ∷ []

-- FB FA: the counts of page faults before and after
abbrev pub faults_words : Entry → List (List ℕ)
faults_words e = decimal e.faults_before ∷ decimal e.faults_after ∷ []

-- USED W0 W1 W2
abbrev pub draws_words : Draws → List (List ℕ)
draws_words d = decimal d.used ∷ decimal d.w0 ∷ decimal d.w1 ∷ decimal d.w2 ∷ []

-- CANARY OPENED RELEASED RETIRED PURGED UNPARKED GUARD
abbrev pub choices_words : Choices → List (List ℕ)
choices_words c =
    option_word c.canary ∷ option_word c.opened ∷ option_word c.released ∷ option_word c.retired
    ∷ option_word c.purged ∷ option_word c.unparked ∷ option_word c.guard ∷ []

-- the call's name and its arguments
abbrev pub call_words : Call → List (List ℕ)
call_words (Allot asked align) = codes "allot" ∷ decimal asked ∷ decimal align ∷ []
call_words (GiveBack addr stated) = codes "giveback" ∷ decimal addr ∷ option_word stated ∷ []
call_words (Measure addr) = codes "measure" ∷ decimal addr ∷ []
call_words (Fetch addr len) = codes "fetch" ∷ decimal addr ∷ decimal len ∷ []
call_words (Fill addr runs) = codes "fill" ∷ decimal addr ∷ runs_word runs ∷ []

-- the reply's number and its fields
abbrev pub reply_words : Reply → List (List ℕ)
reply_words (Given addr usable) = codes "1" ∷ decimal addr ∷ decimal usable ∷ []
reply_words (Overwritten addr at found) = codes "2" ∷ decimal addr ∷ decimal at ∷ byte_word found ∷ []
reply_words Exhausted = codes "3" ∷ []
reply_words NoSpace = codes "4" ∷ []
reply_words PagesFailed = codes "5" ∷ []
reply_words Freed = codes "7" ∷ []
reply_words NoSlot = codes "8" ∷ []
reply_words Unused = codes "9" ∷ []
reply_words DoubleFree = codes "10" ∷ []
reply_words (WrongSize block stated) = codes "11" ∷ decimal block ∷ decimal stated ∷ []
reply_words (Canary kept found) = codes "12" ∷ decimal kept ∷ decimal found ∷ []
reply_words (Usable size) = codes "13" ∷ decimal size ∷ []
reply_words (Bytes runs) = codes "14" ∷ runs_word runs ∷ []
reply_words Filled = codes "15" ∷ []
reply_words (Trap addr) = codes "16" ∷ decimal addr ∷ []
reply_words NotLive = codes "17" ∷ []

-- who, the page faults, the words drawn, the choices, the call, a colon, and the reply
abbrev pub entry_words : Entry → List (List ℕ)
entry_words e =
    who_words e.who ++ faults_words e ++ draws_words e.draws ++ choices_words e.choices
    ++ call_words e.call ++ codes ":" ∷ reply_words e.reply
