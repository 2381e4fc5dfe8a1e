-- What the check of a source says of its bytes.
use Rattle.std.specs.Prelude.{ℕ, List}
use Rattle.hm_sizes.specs.declared.config.Config.{Config}
use Rattle.hm_heap.specs.declared.close.History.{History}
use Rattle.hm_check.specs.Journals.{IsJournalOf}
use Rattle.hm_run.specs.Streams.{Stream, IsReadToEnd}

-- the bytes are the journal of the legal and drawn histories of all regions of some configuration
pub record IsJournal (bytes : List ℕ) : Type 0 where
  pub entries : ℕ
  pub config : Config
  pub seed : ℕ
  pub histories : List History
  pub journal : IsJournalOf bytes entries config seed histories

-- the source was read to its end, and its bytes are such a journal
pub record HasJournal (source : Stream) : Type 0 where
  pub bytes : List ℕ
  pub read : IsReadToEnd source bytes
  pub journal : IsJournal bytes

-- the source was read to its end, and its bytes are no such journal
pub record HasNoJournal (source : Stream) : Type 0 where
  pub bytes : List ℕ
  pub read : IsReadToEnd source bytes
  pub none : IsJournal bytes → ⊥
