use Rattle.std.proofs.Common.{◌≡◌, ℕ, List, Option, Some, sym, ◌∙◌, ap, true≢false}
use Rattle.hm_class_rules.specs.Kinds.{Kind, Partial, Empty, kind}
use Rattle.hm_class_rules.specs.Stepped.{listed}
use Rattle.hm_class_book.specs.Book.{state_in}
use Rattle.hm_class_book.specs.Kinds.{kind_in}
use Rattle.hm_class_book.specs.Said.{said}
use Rattle.hm_class_book.specs.Reached.{at_state}
use Rattle.hm_class_book.proofs.KeptSources.{three_parts, all_three}
use Rattle.hm_class_book.proofs.Settled.{picked_parts, picked_taken, counted}
use Rattle.hm_class_book.proofs.class_book.ClassBook.end_picked.Goals as goal

pub returns-then-not-drawn : goal.returns-then-not-drawn
returns-then-not-drawn c = λ s f. (
  f.judged.0,
  λ d.
      let h = picked_parts (at_state (said c.args.self.now) s) (state_in c.args.self.now.book) c.args.entry.now c.args.addr (kind_in c.args.before) c.args.first f d in
      true≢false (sym (all_three c.are_words-words.result c.is_canary-canary.result c.is_front-source.result c.args.first
      (c.are_words-words.ensures.same.1 (h.0.0 ∙ sym c.picking_words-count.ensures.value, h.0.1))
      (c.is_canary-canary.ensures.1 h.1)
      (c.is_front-source.ensures.1 (λ none. h.2 none ∙ ap (λ (n : ℕ). Some n) (sym c.slab_of-slab.ensures)))
      h.3)
      ∙ c.if-not-drawn.true),
)

pub returns : goal.returns
returns c = λ s f.
    (let parts = three_parts c.are_words-words.result c.is_canary-canary.result c.is_front-source.result c.args.first c.if-not-drawn.false in
    let words = c.are_words-words.ensures.same.0 parts.0 in
    let k : Kind = kind_in c.args.before in
    let j : Kind = kind_in c.kind-after.result in
    picked_taken (at_state (said c.args.self.now) s) (state_in c.args.self.now.book) c.args.entry.now c.args.addr k c.args.first f
    c.are_words-words.new.stream c.file.new.self.partial.items c.file.new.self.empty.items j
    (words.0 ∙ c.picking_words-count.ensures.value, words.1)
    (c.is_canary-canary.ensures.0 parts.1)
    (λ none. c.is_front-source.ensures.0 parts.2 none ∙ ap (λ (n : ℕ). Some n) c.slab_of-slab.ensures)
    parts.3
    (c.are_words-words.ensures.taken parts.0)
    (c.in_ok-file.ensures.partial ∙ ap (λ (n : ℕ). listed Partial n k j c.args.self.now.lists.partial.items) c.slab_of-slab.ensures)
    (c.in_ok-file.ensures.empty ∙ ap (λ (n : ℕ). listed Empty n k j c.args.self.now.lists.empty.items) c.slab_of-slab.ensures)
    (c.kind-after.ensures ∙ ap (λ (n : ℕ). kind c.args.self.now.region.shape (counted (state_in c.args.self.now.book) c.args.entry.now.faults_after) n) c.slab_of-slab.ensures))
