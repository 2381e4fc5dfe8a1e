-- What the line of a check says of the bytes of its source.
use Rattle.std.specs.Prelude.{ℕ, List}
use Rattle.hm_outside.specs.Streams.{Put}
use Rattle.hm_sizes.specs.declared.config.Config.{Config}
use Rattle.hm_heap.specs.declared.close.History.{History}
use Rattle.hm_check.specs.declared.verdict.JournalFault.{JournalFault}
use Rattle.hm_check.specs.FirstFaults.{IsFirstFault}
use Rattle.hm_check.specs.Journals.{IsJournalOf}
use Rattle.hm_run.specs.Streams.{Stream}
use Rattle.hm_run.specs.Verdicts.{yes_text, no_text}

-- they are the journal of legal and drawn histories of all regions, and the line that counts its entries was put
pub record TellsJournal (sink : Stream) (bytes : List ℕ) : Type 0 where
  pub entries : ℕ
  pub config : Config
  pub seed : ℕ
  pub histories : List History
  pub journal : IsJournalOf bytes entries config seed histories
  pub put : Put sink.before sink.after (yes_text entries)

-- this line of theirs is the first one at fault, and the line that names it was put
pub record TellsFirstFault (sink : Stream) (bytes : List ℕ) : Type 0 where
  pub line : ℕ
  pub fault : JournalFault
  pub first : IsFirstFault bytes line fault
  pub put : Put sink.before sink.after (no_text line fault)
