use Rattle.std.proofs.Common.{◌≡◌, ℕ, List, map, Bor, ◌∙◌, ap}
use Rattle.hm_journal.specs.Reading.{words_at}
use Rattle.hm_journal.proofs.EntryBack.{guessed}
use Rattle.hm_journal.proofs.entry_reading.guess_entry.Goals as goal

pub returns : goal.returns
returns c = record {
  only = λ e fits runs is.
      let words : map (λ (w : Bor (List ℕ)). w.now) c.deref.result.now ≡ words_at c.args.line.now =
      ap (map (λ (w : Bor (List ℕ)). w.now)) c.deref.ensures.value ∙ c.in_ok-words.ensures in
      guessed c.entry_of.result c.args.line.now (map (λ (w : Bor (List ℕ)). w.now) c.deref.result.now) words
      c.entry_of.ensures.value e fits runs is;
}
