use Rattle.std.proofs.Common.{◌≡◌, Bool, not, take, ◌∙◌, sym}
use Rattle.std.specs.List.{list_any, list_all}
use Rattle.hm_class_book.specs.Book.{state_in}
use Rattle.hm_class_book.proofs.Rows.{has_free_is, is_empty_is, shut_free}
use Rattle.hm_class_book.proofs.book.Book.availability.Goals as goal

pub returns-then-not-is_open-clause-some : goal.returns-then-not-is_open-clause-some
returns-then-not-is_open-clause-some c =
    shut_free c.args.shape.now (state_in c.args.self.now) c.args.slab (sym c.is_open.ensures ∙ c.if-not-is_open.true)

pub returns-clause-some : goal.returns-clause-some
returns-clause-some c =
    let some : c.is_some_free.result ≡ list_any (λ (b : Bool). not b) (take c.args.shape.now.slots c.marks-marks.result) = c.is_some_free.ensures in
    some ∙ has_free_is c.args.shape.now (state_in c.args.self.now) c.args.slab c.marks-marks.result (sym c.is_open.ensures ∙ c.if-not-is_open.false) c.marks-marks.ensures.room c.marks-marks.ensures.marks

pub returns-clause-all : goal.returns-clause-all
returns-clause-all c =
    let all : c.are_all_free.result ≡ list_all (λ (b : Bool). not b) (take c.args.shape.now.slots c.marks-marks.result) = c.are_all_free.ensures in
    all ∙ is_empty_is c.args.shape.now (state_in c.args.self.now) c.args.slab c.marks-marks.result (sym c.is_open.ensures ∙ c.if-not-is_open.false) c.marks-marks.ensures.room c.marks-marks.ensures.marks
