use Rattle.std.proofs.Common.{rules, tests, ◌+◌, ◌-◌, length, drop, arith}
use Rattle.std.proofs.lemmas.List.{take_all, length-drop}
use Rattle.hm_trace.proofs.LineEnds.{cut_at, uncut}
use Rattle.hm_trace.proofs.lines.first_line.Goals as goal

pub returns-in_err-end-clause-cut : goal.returns-in_err-end-clause-cut
returns-in_err-end-clause-cut c = let none = uncut c.args.bytes.now in search (rules, tests, none)

pub returns-clause-cut : goal.returns-clause-cut
returns-clause-cut c =
    let rest = drop (c.in_ok-end.end + 1) c.args.bytes.now in
    rw (take_all (length c.args.bytes.now - (c.in_ok-end.end + 1)) rest (omega (arith, length-drop (c.in_ok-end.end + 1) c.args.bytes.now)))
    (cut_at c.args.bytes.now c.in_ok-end.end (search (rules, tests)))
