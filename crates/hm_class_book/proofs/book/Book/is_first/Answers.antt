use Rattle.std.proofs.Common.{◌≡◌, ◌==◌, ℕ, Bool, Option, Some, None, true, false, sym, ◌∙◌, ap, subst, true≢false}
use Rattle.std.proofs.lemmas.Option.{none-some}
use Rattle.hm_sizes.specs.Shapes.{place, slab_of}
use Rattle.hm_class_rules.specs.Drawn.{first_free}
use Rattle.hm_class_rules.specs.State.{State, is_open, is_taken}
use Rattle.hm_class_book.specs.Book.{state_in, is_index, Marks}
use Rattle.hm_class_book.proofs.Rows.{first_is, first_shut, is_first_by}
use Rattle.hm_class_book.proofs.book.Book.is_first.Goals as goal

pub returns-then-not-is_open : goal.returns-then-not-is_open
returns-then-not-is_open c =
    let p = c.args.shape.now in
    let s = state_in c.args.self.now in (
      λ e. absurd (true≢false (sym e)),
      λ e. absurd (first_shut p s (slab_of p c.args.addr) c.args.from c.requires.from c.args.addr
          (ap (λ (n : ℕ). is_open s n) (sym c.slab_of-slab.ensures) ∙ sym c.is_open.ensures ∙ c.if-not-is_open.true) e),
    )

pub returns-in-Some : goal.returns-in-Some
returns-in-Some c =
    let p = c.args.shape.now in
    let s = state_in c.args.self.now in
    let n : ℕ = c.slab_of-slab.result in
    let found : first_free p s n c.args.from ≡ Some (place p n c.in-Some.first) =
    first_is p s n c.args.from c.requires.from c.marks-marks.result (Some c.in-Some.first) (sym c.is_open.ensures ∙ c.if-not-is_open.false) c.marks-marks.ensures.room c.marks-marks.ensures.marks c.in-Some.ensures.value in
    is_first_by p s (slab_of p c.args.addr) c.args.from c.args.addr c.in-Some.first c.is_index.result
    (subst (λ (m : ℕ). first_free p s m c.args.from ≡ Some (place p m c.in-Some.first)) c.slab_of-slab.ensures found)
    (c.is_index.ensures ∙ sym (c.index_of.ensures.exact n c.in-Some.first c.slab_start.ensures c.in-Some.ensures.below) ∙ ap (λ (m : ℕ). c.args.addr == place p m c.in-Some.first) c.slab_of-slab.ensures)

pub returns-in-None : goal.returns-in-None
returns-in-None c =
    let p = c.args.shape.now in
    let s = state_in c.args.self.now in
    let n : ℕ = c.slab_of-slab.result in
    let none : first_free p s n c.args.from ≡ None =
    first_is p s n c.args.from c.requires.from c.marks-marks.result None (sym c.is_open.ensures ∙ c.if-not-is_open.false) c.marks-marks.ensures.room c.marks-marks.ensures.marks c.in-None.ensures.value in (
      λ e. absurd (true≢false (sym e)),
      λ e. absurd (none-some c.args.addr (sym none ∙ ap (λ (m : ℕ). first_free p s m c.args.from) c.slab_of-slab.ensures ∙ e)),
    )
