use Rattle.std.proofs.Common.{sym, ◌∙◌}
use Rattle.hm_run.specs.Words.{config_of}
use Rattle.hm_run.proofs.Journals.{journal_of}
use Rattle.hm_run.proofs.laws.journals_tell.Goals as goal

pub returns : goal.returns
returns g c = λ run other o theirs left right text ours its.
    let mine = journal_of g.P.Pages run o left text ours in
    let second = journal_of g.P.Pages other theirs right text its in
    c.journals_differ.ensures (config_of o) (config_of theirs) o.seed theirs.seed left.histories right.histories
    mine.1 second.1 (sym mine.0 ∙ second.0)
