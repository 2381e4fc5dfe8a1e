use Rattle.std.proofs.Common.{Option, None, arith, subst}
use Rattle.hm_check.specs.declared.verdict.JournalFault.{JournalFault}
use Rattle.hm_check.specs.Progress.{Comes, reader_of}
use Rattle.hm_check.proofs.Kept.{first_at_fault, first_passes, total_most}
use Rattle.hm_check.proofs.checking.check_journal.Goals as goal

pub returns-in-Some-2 : goal.returns-in-Some-2
returns-in-Some-2 c =
    let i = c.lines.invariant in
    let r = reader_of c.lines.progress i.past in
    i.verdict _ (first_at_fault r c.lines.number c.lines.rest.now c.in-Some.line.now c.in-Some.after.now
    c.in-Some-2.fault c.in-Some.ensures.cut
    (subst (λ (o : Option JournalFault). Comes r c.in-Some.line.now c.line.new.self o) c.in-Some-2.is
    (c.in_ok-fault.ensures i.past i.known)))

pub lines-preserved : goal.lines-preserved
lines-preserved c =
    let i = c.lines.invariant in
    let p = c.lines.progress in
    let new = c.line.new.self in
    let comes : Comes (reader_of p i.past) c.in-Some.line.now new None =
    subst (λ (o : Option JournalFault). Comes (reader_of p i.past) c.in-Some.line.now new o) c.in_default-2.is
    (c.in_ok-fault.ensures i.past i.known) in
    record {
      past = comes.1;
      known = comes.4;
      number = omega (arith, i.number, c.in-Some.ensures.shorter);
      total = omega (arith, i.total, total_most p new i.past c.in-Some.line.now comes);
      verdict = λ v judges. i.verdict v (first_passes p new i.past c.lines.number c.lines.rest.now c.in-Some.line.now
          c.in-Some.after.now v c.in-Some.ensures.cut comes judges);
    }
