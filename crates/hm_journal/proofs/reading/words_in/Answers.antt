use Rattle.std.proofs.Common.{◌-◌, arith, length, rules, take, tests}
use Rattle.std.proofs.lemmas.Iterator.Consumers.{map_from_collect}
use Rattle.std.proofs.lemmas.Iterator.Splits.{YieldsList-from_slice_split}
use Rattle.std.proofs.lemmas.Grind.{common_steps}
use Rattle.hm_journal.proofs.reading.words_in.Goals as goal

pub returns : goal.returns
returns c =
    map_from_collect _ c.collect.ensures.ran
    (YieldsList-from_slice_split _ _ (take (length c.args.line.now - 1) c.args.line.now) (grind (arith, common_steps, c.split.ensures.rest)) c.split.ensures.done c.split.ensures.closure
    (λ x r q k. search (rules, tests)))
