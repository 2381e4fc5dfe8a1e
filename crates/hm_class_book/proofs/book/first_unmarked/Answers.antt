use Rattle.std.proofs.Common.{◌≡◌, ◌-◌, ℕ, Bool, get_or, not, true, sym, ◌∙◌, ap, arith}
use Rattle.hm_class_book.proofs.Lookups.{find_found, find_none, same_default}
use Rattle.hm_class_book.proofs.book.first_unmarked.Goals as goal

pub returns-then-not-marks-i : goal.returns-then-not-marks-i
returns-then-not-marks-i c =
    let marks = c.args.marks.now in
    sym (find_found (λ (i : ℕ). not (get_or marks i true)) c.args.from (c.args.to - c.args.from) c.loop-i.i (omega arith) (omega arith)
    (ap (λ (b : Bool). not b) (same_default marks c.loop-i.i true _ (omega arith) ∙ c.if-not-marks-i.true))
    (λ k low high. ap (λ (b : Bool). not b) (c.loop-i.invariant k low high)))

pub returns : goal.returns
returns c =
    let marks = c.args.marks.now in
    sym (find_none (λ (i : ℕ). not (get_or marks i true)) c.args.from (c.args.to - c.args.from) (λ k low high. ap (λ (b : Bool). not b) (c.loop-i.invariant k low (omega (arith, high, low)))))
