use Rattle.std.proofs.Common.{◌≡◌}
use Rattle.hm_journal.proofs.WordsFrom as lemma
use Rattle.hm_journal.proofs.entry_reading.words_from.Goals as goal

pub returns : goal.returns
returns c = lemma.words_from c.args.words.now c.args.index c.min-start.result c.min-start.ensures
