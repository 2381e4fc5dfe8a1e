use Rattle.std.proofs.Common.{sym, ap, ◌∙◌, arith}
use Rattle.std.specs.Ordering.{nat_cmp, ordering_then}
use Rattle.hm_trace.proofs.ByWords.{by_all, by_words}
use Rattle.hm_trace.proofs.names.NameOrd.cmp.Goals as goal

pub returns-in-Equal : goal.returns-in-Equal
returns-in-Equal c =
    let name = c.args.self.now in
    let other = c.args.other.now in
    let all = by_all name.bytes other.bytes name.len other.len name.within other.within (omega arith) (omega arith) name.zeros other.zeros in
    c.cmp.ensures
    ∙ ap (λ r. ordering_then r (nat_cmp name.len other.len)) (sym c.in-Equal.is ∙ c.order_of.ensures)
    ∙ all

pub returns-in_default : goal.returns-in_default
returns-in_default c =
    let name = c.args.self.now in
    let other = c.args.other.now in
    let all = by_all name.bytes other.bytes name.len other.len name.within other.within (omega arith) (omega arith) name.zeros other.zeros in
    sym (by_words c.order_of.result (nat_cmp name.len other.len) c.in_default.not-Equal)
    ∙ ap (λ r. ordering_then r (nat_cmp name.len other.len)) c.order_of.ensures
    ∙ all
