-- What is said of an entry.
use Rattle.std.specs.Prelude.{◌≡◌, ◌+◌, Bool, true, IsTrue}
use Rattle.hm_model.specs.declared.entry.Entry.{Entry}
use Rattle.hm_model.specs.declared.entry.Call.{Call}
use Rattle.hm_model.specs.declared.entry.Reply.{Reply}
use Rattle.hm_model.specs.Calls.{no_choices, no_words}
use Rattle.hm_sizes.specs.declared.config.Config.{Config}
use Rattle.hm_large_rules.specs.State.{State}
use Rattle.hm_large_rules.specs.Steps.{changed}
use Rattle.hm_large_rules.specs.Rules.{Terms, Allows}
use Rattle.hm_large_rules.specs.Drawn.{IsDrawnEvent}
use Rattle.hm_model.specs.declared.judgement.Judgement.{Judgement}
use Rattle.hm_model.specs.declared.judgement.Judgement.TheVariants.{Taken, NotLegal, NotDrawn}
use Rattle.hm_large_book.specs.declared.book.LargeBook.{LargeBook}
use Rattle.hm_large_book.specs.Book.{Shows, Stands}

-- the regions of a journal count as told
abbrev pub terms_of : Config → Terms
terms_of c = record { config = c; told = true }

-- an entry that changes nothing, draws no word and chooses nothing, by whether its reply is allowed
abbrev pub JudgesPlain : Bool → Entry → Judgement → Type 0
JudgesPlain allowed e Taken = IsTrue allowed × (e.choices ≡ no_choices) × (e.draws ≡ no_words)
JudgesPlain allowed e NotLegal = IsTrue allowed → e.choices ≡ no_choices → ⊥
JudgesPlain allowed e NotDrawn = IsTrue allowed × (e.choices ≡ no_choices) × (e.draws ≡ no_words → ⊥)

-- ---- an entry by its call and its reply
-- the state after it, but for the count of page faults
abbrev pub changed_to : State → Entry → Call → Reply → State
changed_to s e call reply = record (changed e call reply s) { words = e.draws.used + s.words }

-- it is allowed, it is drawn, and the new book shows the state after it; or which of the first two does not hold
abbrev pub IsJudged : LargeBook → State → Entry → Call → Reply → LargeBook → Judgement → Type 0
IsJudged old s e call reply new Taken =
    Allows (terms_of old.config) s e call reply × IsDrawnEvent old.seed s e call reply × Shows (changed_to s e call reply) new
IsJudged old s e call reply new NotLegal = Allows (terms_of old.config) s e call reply → ⊥
IsJudged old s e call reply new NotDrawn =
    Allows (terms_of old.config) s e call reply × (IsDrawnEvent old.seed s e call reply → ⊥)

-- the same in every state that the old book shows; the configuration and the seed stay
pub record Judges (old : LargeBook) (e : Entry) (call : Call) (reply : Reply) (new : LargeBook) (j : Judgement) : Type 0 where
  pub judged : (s : State) → Stands s old → IsJudged old s e call reply new j
  pub config_same : new.config ≡ old.config
  pub seed_same : new.seed ≡ old.seed

-- some state is shown
abbrev pub Holds : LargeBook → Type 0
Holds k = (s : State) × Stands s k
