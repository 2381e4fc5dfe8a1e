use Rattle.std.proofs.Common.{rules, tests}
use Rattle.hm_check.proofs.LineEnds.{cut_with_feed, uncut}
use Rattle.hm_check.proofs.lines.first_line.Goals as goal

pub returns-in_err-end-clause-cut : goal.returns-in_err-end-clause-cut
returns-in_err-end-clause-cut c = let none = uncut c.args.bytes.now in search (rules, tests, none)

pub returns-clause-cut : goal.returns-clause-cut
returns-clause-cut c = cut_with_feed c.args.bytes.now c.in_ok-end.end (search (rules, tests))
