use Rattle.std.proofs.Common.{◌≡◌, ◌+◌, ◌*◌, ◌-◌, ◌/◌, ◌%◌, ℕ, ◌∙◌, ap, arith}
use Rattle.hm_model.proofs.Lists.{other_eq}
use Rattle.hm_class_book.proofs.Rows.{row_is, row_whole}
use Rattle.hm_class_book.proofs.book.index_from.Goals as goal
use Rattle.hm_class_book.proofs.book.index_from.Goals.{else-index-from-via-then-index-from+else-offset-shape-eq0, else-index-from-via-else-index-from}

pub returns-else-index-from-clause-exact : goal.returns-else-index-from-clause-exact
returns-else-index-from-clause-exact c = λ i lt. other_eq c.args.addr (c.args.start + i * c.args.shape.now.slot) (λ e.
    let row = row_is c.args.addr c.args.start c.args.shape.now.slot i (omega (arith, c.requires.slot_least)) e in
    let whole = row_whole c.args.addr c.args.start c.args.shape.now.slot i e in
    let is : c.in_ok-offset.offset ≡ c.args.addr - c.args.start = omega (arith, c.in_ok-offset.ensures) in
    let index : c.in_ok-offset.offset / c.args.shape.now.slot ≡ i = ap (λ (n : ℕ). n / c.args.shape.now.slot) is ∙ row in
    elim c.else-index-from.branch [
      | else-index-from-via-then-index-from+else-offset-shape-eq0 w ↦ w.if-offset-shape-eq0.false (ap (λ (n : ℕ). n % c.args.shape.now.slot) is ∙ whole)
      | else-index-from-via-else-index-from w ↦ omega (arith, w.if-index-from.false, c.from.ensures, index, lt)
    ])
