-- The book of a history, and what is said of a further entry.
use Rattle.std.specs.Prelude.{◌≡◌, ℕ, ◌≤◌, List, [], ◌∷◌, ◌++◌}
use Rattle.hm_model.specs.declared.entry.Entry.{Entry}
use Rattle.hm_model.specs.Entries.{AreDraws}
use Rattle.hm_sizes.specs.Configs.{IsValid}
use Rattle.hm_sizes.specs.declared.config.Config.{Config}
use Rattle.hm_large_rules.specs.Rules.{Asks, Allowed, IsLegal, state}
use Rattle.hm_large_rules.specs.Drawn.{IsDrawnEntry, IsDrawn}
use Rattle.hm_model.specs.declared.judgement.Judgement.{Judgement}
use Rattle.hm_model.specs.declared.judgement.Judgement.TheVariants.{Taken, NotLegal, NotDrawn}
use Rattle.hm_large_book.specs.declared.book.LargeBook.{LargeBook}
use Rattle.hm_large_book.specs.Book.{Shows}
use Rattle.hm_large_book.specs.Judged.{terms_of}

-- what is asked of an entry, whatever its reply, after so many page faults
pub record IsFormed (faults : ℕ) (e : Entry) : Type 0 where
  pub draws : AreDraws e.draws
  pub asks : Asks e.call
  pub follows : e.faults_before ≡ faults
  pub later : e.faults_before ≤ e.faults_after

-- the entries are a legal and drawn history, and the book shows the state after them
pub record IsBookOf (c : Config) (seed : ℕ) (es : List Entry) (k : LargeBook) : Type 0 where
  pub config_is : k.config ≡ c
  pub seed_is : k.seed ≡ seed
  pub valid : IsValid c
  pub legal : IsLegal (terms_of c) es
  pub drawn : IsDrawn seed es
  pub shows : Shows (state (terms_of c) es) k

-- there is such a history
pub record IsReached (k : LargeBook) : Type 0 where
  pub config : Config
  pub seed : ℕ
  pub entries : List Entry
  pub is : IsBookOf config seed entries k

-- the entry is allowed and drawn after these, and the new book is that of all of them; or it is not allowed; or it is
-- allowed and not drawn
abbrev pub Says : Config → ℕ → List Entry → Entry → LargeBook → Judgement → Type 0
Says c seed es e new Taken =
    Allowed (terms_of c) (state (terms_of c) es) e × IsDrawnEntry seed (state (terms_of c) es) e × IsBookOf c seed (es ++ e ∷ []) new
Says c seed es e new NotLegal = Allowed (terms_of c) (state (terms_of c) es) e → ⊥
Says c seed es e new NotDrawn =
    Allowed (terms_of c) (state (terms_of c) es) e × (IsDrawnEntry seed (state (terms_of c) es) e → ⊥)
