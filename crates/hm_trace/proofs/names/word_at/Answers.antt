use Rattle.std.proofs.Common.{◌∙◌, arith}
use Rattle.hm_trace.proofs.ByWords.{eight_are}
use Rattle.hm_trace.proofs.names.word_at.Goals as goal

pub returns : goal.returns
returns c = c.from_be_bytes.ensures ∙ eight_are c.args.bytes.now c.args.at (omega arith)
