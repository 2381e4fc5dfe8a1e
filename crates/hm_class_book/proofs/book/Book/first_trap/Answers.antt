use Rattle.std.proofs.Common.{◌≡◌, ◌+◌, ◌≤◌, ◌<◌, ℕ, Option, is_some, length, sym, ◌∙◌, ap, arith}
use Rattle.hm_outside.specs.Piece.{bytes_in}
use Rattle.hm_class_rules.specs.Bytes.{byte_at}
use Rattle.hm_class_book.specs.Book.{state_in}
use Rattle.hm_class_book.proofs.Lookups.{failing_found, failing_none}
use Rattle.hm_class_book.proofs.Rests.{get_some, all_on}
use Rattle.hm_class_book.proofs.book.Book.first_trap.Goals as goal

pub returns-then-left-eq0 : goal.returns-then-left-eq0
returns-then-left-eq0 c =
    let p = c.args.shape.now in
    let s = state_in c.args.self.now in
    sym (failing_found (λ (q : ℕ). is_some (byte_at p s q)) c.args.addr c.args.len c.loop-at.at c.loop-at.invariant.later (omega (arith, c.loop-at-test.true))
    (λ k low high. c.loop-at.invariant.all k low high) (ap (λ (o : Option ℕ). is_some o) (c.rest.ensures.none (sym c.len-left.ensures ∙ c.if-left-eq0.true))))

pub loop-at-preserved : goal.loop-at-preserved
loop-at-preserved c =
    let p = c.args.shape.now in
    let s = state_in c.args.self.now in record {
      later = omega (arith, c.loop-at.invariant.later, c.loop-at.invariant.within, c.saturating_add.ensures, c.min-at.ensures);
      within = omega (arith, c.min-at.ensures);
      all = all_on (λ (q : ℕ). is_some (byte_at p s q)) c.args.addr c.loop-at.at c.min-at.result (length (bytes_in c.rest.result)) (omega (arith, c.saturating_add.ensures, c.min-at.ensures, c.len-left.ensures))
          (λ k low high. c.loop-at.invariant.all k low high) (λ k lt. ap (λ (o : Option ℕ). is_some o) (c.rest.ensures.bytes k lt) ∙ get_some (bytes_in c.rest.result) k lt);
    }

pub returns : goal.returns
returns c =
    let p = c.args.shape.now in
    let s = state_in c.args.self.now in
    sym (failing_none (λ (q : ℕ). is_some (byte_at p s q)) c.args.addr c.args.len (λ k low high. c.loop-at.invariant.all k low (omega (arith, high, c.loop-at-test.false))))
