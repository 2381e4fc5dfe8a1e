use Rattle.std.proofs.Common.{sym, ◌∙◌}
use Rattle.hm_run.proofs.Numerals.{parsed}
use Rattle.hm_run.proofs.words.number.Goals as goal

pub returns-then-is_numeral : goal.returns-then-is_numeral
returns-then-is_numeral c = c.ok.ensures.value ∙ parsed c.args.word.now c.from_str_radix.result (sym c.is_numeral.ensures ∙ c.if-is_numeral.true) c.from_str_radix.ensures.value
