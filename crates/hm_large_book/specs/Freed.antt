-- What is said of the free of a live block, its size being right.
use Rattle.std.specs.Prelude.{◌≡◌, ℕ, ◌+◌, Some}
use Rattle.hm_model.specs.declared.entry.Entry.{Entry}
use Rattle.hm_model.specs.Maps.{at}
use Rattle.hm_large_rules.specs.State.{Block, State}
use Rattle.hm_large_rules.specs.Steps.{takes_back, releases}
use Rattle.hm_large_rules.specs.Rules.{ReleasesFor}
use Rattle.hm_large_rules.specs.Drawn.{IsDrawnFree}
use Rattle.hm_large_book.specs.declared.blocks.Extent.{Extent}
use Rattle.hm_model.specs.declared.judgement.Judgement.{Judgement}
use Rattle.hm_model.specs.declared.judgement.Judgement.TheVariants.{Taken, NotLegal, NotDrawn}
use Rattle.hm_large_book.specs.declared.book.LargeBook.{LargeBook}
use Rattle.hm_large_book.specs.Book.{extent_of, Shows, Stands}

-- the block x at a was taken back, and what the entry chose left the quarantine
abbrev pub freed_to : State → Entry → ℕ → Block → State
freed_to s e a x = record (releases e.choices.released (takes_back a e.draws.w0 (Some x) s)) { words = e.draws.used + s.words }

-- what leaves may leave, the words and what leaves are those that come next, and the new book shows the state after it; or
-- which of the first two does not hold
abbrev pub IsFreeJudged : LargeBook → State → Entry → ℕ → Block → LargeBook → Judgement → Type 0
IsFreeJudged old s e a x new Taken =
    ReleasesFor (Some x) (takes_back a e.draws.w0 (Some x) s) e.choices.released × IsDrawnFree old.seed s a e (Some x)
    × Shows (freed_to s e a x) new
IsFreeJudged old s e a x new NotLegal = ReleasesFor (Some x) (takes_back a e.draws.w0 (Some x) s) e.choices.released → ⊥
IsFreeJudged old s e a x new NotDrawn =
    ReleasesFor (Some x) (takes_back a e.draws.w0 (Some x) s) e.choices.released × (IsDrawnFree old.seed s a e (Some x) → ⊥)

pub record JudgesFree (old : LargeBook) (e : Entry) (a : ℕ) (extent : Extent) (new : LargeBook) (j : Judgement) : Type 0 where
  pub judged : (s : State) (x : Block) → Stands s old → at a s.live ≡ Some x → extent ≡ extent_of x
      → IsFreeJudged old s e a x new j
  pub config_same : new.config ≡ old.config
  pub seed_same : new.seed ≡ old.seed
