-- In a state of the large region an entry follows from who calls, the call, the count of page faults and whether a page
-- fault occurred.
use Rattle.std.specs.Prelude.{◌≡◌, ℕ, IsTrue}
use Rattle.hm_model.specs.declared.entry.Entry.{Entry}
pub use Rattle.hm_model.specs.Replies.{is_page_fault, HasRuns}
use Rattle.hm_large_rules.specs.State.{State}
use Rattle.hm_large_rules.specs.Rules.{Terms, Allowed}
use Rattle.hm_large_rules.specs.Drawn.{IsDrawnEntry}

-- the entry may come next
pub record IsNext (seed : ℕ) (t : Terms) (s : State) (e : Entry) : Type 0 where
  pub allowed : Allowed t s e
  pub drawn : IsDrawnEntry seed s e
  pub runs : HasRuns e.reply

abbrev pub OneEntry : Type 0
OneEntry = (seed : ℕ) (t : Terms) (s : State) (e f : Entry) → IsTrue t.told
    → IsNext seed t s e → IsNext seed t s f
    → e.who ≡ f.who → e.call ≡ f.call → e.faults_after ≡ f.faults_after
    → is_page_fault e.reply ≡ is_page_fault f.reply
    → e ≡ f
