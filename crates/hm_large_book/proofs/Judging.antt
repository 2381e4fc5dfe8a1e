-- What is said of an entry, by what is known of its parts.
use Rattle.std.proofs.Common.{◌≡◌, ℕ, ◌+◌, Bool, sym, ◌∙◌, ap, arith}
use Rattle.std.specs.Prelude.{IsTrue}
use Rattle.hm_model.specs.declared.entry.Entry.{Entry}
use Rattle.hm_model.specs.declared.entry.Draws.{Draws}
use Rattle.hm_model.specs.declared.entry.Call.{Call}
use Rattle.hm_model.specs.declared.entry.Reply.{Reply}
use Rattle.hm_model.specs.Calls.{no_choices, no_words}
use Rattle.hm_sizes.specs.declared.config.Config.{Config}
use Rattle.hm_large_rules.specs.State.{State}
use Rattle.hm_large_rules.specs.Steps.{changed}
use Rattle.hm_large_rules.specs.Rules.{Allows}
use Rattle.hm_large_rules.specs.Draws.{stream_after}
use Rattle.hm_large_rules.specs.Drawn.{IsDrawnEvent}
use Rattle.hm_model.specs.declared.judgement.Judgement.{Judgement}
use Rattle.hm_model.specs.declared.judgement.Judgement.TheVariants.{Taken, NotLegal, NotDrawn}
use Rattle.hm_large_book.specs.declared.book.LargeBook.{LargeBook}
use Rattle.hm_large_book.specs.Book.{ShowsBlocks, Shows, Stands}
use Rattle.hm_large_book.specs.Judged.{terms_of, JudgesPlain, IsJudged, Judges}

-- blocks look at no word and no count
pub blocks_words : (c : Config) (s : State) (k : _) (words : ℕ) → ShowsBlocks c s k → ShowsBlocks c (record s { words = words }) k
blocks_words c s k words h = record { live = h.live; quarantined = h.quarantined; recent = h.recent; space = h.space; out = h.out }

pub shows_words : (s : State) (k : LargeBook) (words : ℕ) → words ≡ s.words → Shows s k → Shows (record s { words = words }) k
shows_words s k words e h = record {
  blocks = blocks_words k.config s k.blocks words h.blocks;
  quarantine = h.quarantine;
  indices = h.indices;
  words = h.words ∙ ap (stream_after k.seed) (sym e);
  faults = h.faults;
}

module _ (k new : LargeBook) (e : Entry) (call : Call) (reply : Reply) (allowed : Bool) where
  -- an entry that chooses nothing and draws no word
  pub plain_judged : ((s : State) → Stands s k → Allows (terms_of k.config) s e call reply → IsTrue allowed × (e.choices ≡ no_choices))
      → ((s : State) → Stands s k → IsTrue allowed → e.choices ≡ no_choices → Allows (terms_of k.config) s e call reply)
      → ((s : State) → IsDrawnEvent k.seed s e call reply → e.draws ≡ no_words)
      → ((s : State) → e.draws ≡ no_words → IsDrawnEvent k.seed s e call reply)
      → ((s : State) → Stands s k → IsTrue allowed → (words : ℕ) → words ≡ s.words → Shows (record (changed e call reply s) { words = words }) new)
      → new.config ≡ k.config → new.seed ≡ k.seed → (j : Judgement) → JudgesPlain allowed e j → Judges k e call reply new j
  plain_judged legal allows from_draws to_draws shows config seed j h =
      record { judged = λ s stands. by j h s stands; config_same = config; seed_same = seed }
    where
      by : (j : Judgement) → JudgesPlain allowed e j → (s : State) → Stands s k → IsJudged k s e call reply new j
      by Taken h s stands = (allows s stands h.0 h.1, to_draws s h.2, shows s stands h.0 (e.draws.used + s.words) (omega (arith, ap (λ (d : Draws). d.used) h.2)))
      by NotLegal h s stands = λ a. (let r = legal s stands a in h r.0 r.1)
      by NotDrawn h s stands = (allows s stands h.0 h.1, λ d. h.2 (from_draws s d))
