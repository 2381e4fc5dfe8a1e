use Rattle.std.proofs.Common.{◌≡◌, ℕ, length, ◌∙◌, ap, refl, arith}
use Rattle.hm_class_rules.specs.Draws.{Returned}
use Rattle.hm_class_rules.specs.Kinds.{kind}
use Rattle.hm_class_book.specs.Book.{state_in}
use Rattle.hm_class_book.specs.Kinds.{kind_in}
use Rattle.hm_class_book.specs.Said.{said}
use Rattle.hm_class_book.proofs.Founds.{found_freed}
use Rattle.hm_class_book.proofs.Reaching.{kept_after, empty_count_after, array_after}
use Rattle.hm_class_book.proofs.class_book.ClassBook.take_freed.Goals as goal

pub take_freed-requires-clause-kept : goal.take_freed-requires-clause-kept
take_freed-requires-clause-kept c = let b = said c.args.self.now in kept_after b.seed b.arena b.terms b.cells c.requires.asked.reached

pub take_freed-requires-clause-count : goal.take_freed-requires-clause-count
take_freed-requires-clause-count c =
    let b = said c.args.self.now in
    let count : c.len.result ≡ length c.args.self.now.lists.empty.items = omega (arith, c.len.ensures, c.args.self.now.lists.empty.ok.0) in
    count ∙ empty_count_after b.seed b.arena b.terms b.cells c.requires.asked.reached

pub settle_freed-requires-clause-array : goal.settle_freed-requires-clause-array
settle_freed-requires-clause-array c = let b = said c.args.self.now in array_after b.seed b.arena b.terms b.cells c.requires.asked.reached

pub returns : goal.returns
returns c =
    let b = said c.args.self.now in
    let e = c.args.entry.now in
    c.settle_freed.ensures b.cells.state
    (found_freed b e c.args.addr c.args.stated (kind_in c.kind-before.result) c.in_ok-legal.legal (state_in c.take_freed.new.self)
    c.requires.asked.reached c.requires.asked.follows c.requires.asked.call_is c.requires.reply
    (c.kind-before.ensures ∙ ap (λ (n : ℕ). kind b.terms.shape b.cells.state n) c.touched-slab.ensures)
    c.in_ok-legal.ensures.legal c.in_ok-legal.ensures.state)
