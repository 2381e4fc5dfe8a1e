use Rattle.std.proofs.Common.{◌∙◌, ap, length}
use Rattle.std.specs.Option.{unwrap_or}
use Rattle.hm_trace.proofs.Signs.{found_sign}
use Rattle.hm_trace.proofs.words.sign_at.Goals as goal

pub returns-clause-position : goal.returns-clause-position
returns-clause-position c =
    c.unwrap_or.ensures ∙ ap (λ o. unwrap_or o (length c.args.word.now)) c.first_sign.ensures
    ∙ found_sign c.args.word.now
