-- Drawn choices of the large region, by the state before each entry.
use Rattle.std.specs.Prelude.{◌≡◌, ℕ, List, Option, Some, None}
use Rattle.std.specs.Bool.{MatchBool}
use Rattle.hm_model.specs.declared.entry.Entry.{Entry}
use Rattle.hm_model.specs.declared.entry.Call.{Call}
use Rattle.hm_model.specs.declared.entry.Call.TheVariants.{Allot, GiveBack}
use Rattle.hm_model.specs.declared.entry.Reply.{Reply}
use Rattle.hm_model.specs.declared.entry.Reply.TheVariants.{Freed}
use Rattle.hm_model.specs.Calls.{no_words, one_word}
use Rattle.hm_model.specs.Machine.{Legal}
use Rattle.hm_model.specs.Maps.{at}
use Rattle.hm_quarantine.specs.LookingBack.{released}
use Rattle.hm_large_rules.specs.State.{Block, State, start, size_for, is_quarantined, array_length, ring_length}
use Rattle.hm_large_rules.specs.Steps.{free_at, step}
use Rattle.hm_large_rules.specs.Draws.{word_at, guard_of}

-- ---- an entry
-- the free of a block that goes into quarantine holds the next word, and releases what looking back finds; that of any
-- other holds none
abbrev pub IsDrawnFree : ℕ → State → ℕ → Entry → Option Block → Type 0
IsDrawnFree seed s a e None = ⊥
IsDrawnFree seed s a e (Some b) =
    MatchBool (is_quarantined b)
    ((e.draws ≡ one_word (word_at seed s.words))
    × (e.choices.released ≡ released array_length ring_length s.frees (free_at a (word_at seed s.words))))
    (e.draws ≡ no_words)

-- an allotment holds the next word, whatever its reply, and the guard is drawn by it
abbrev pub IsDrawnEvent : ℕ → State → Entry → Call → Reply → Type 0
IsDrawnEvent seed s e (Allot asked align) reply = (e.draws ≡ one_word (word_at seed s.words))
    × (e.choices.guard ≡ Some (guard_of (size_for asked) (word_at seed s.words)))
IsDrawnEvent seed s e (GiveBack a stated) Freed = IsDrawnFree seed s a e (at a s.live)
IsDrawnEvent seed s e call reply = e.draws ≡ no_words

abbrev pub IsDrawnEntry : ℕ → State → Entry → Type 0
IsDrawnEntry seed s e = IsDrawnEvent seed s e e.call e.reply

-- ---- a history
-- the words put one after another are the consecutive words of the stream from its first on, and the choices follow
abbrev pub IsDrawn : ℕ → List Entry → Type 0
IsDrawn seed entries = Legal step (IsDrawnEntry seed) start entries
