use Rattle.std.proofs.Common.{◌≡◌, ◌&&◌, ℕ, List, Option, Some, None, sym, ◌∙◌, ap, subst, true≢false}
use Rattle.std.specs.Prelude.{slice_index_or}
use Rattle.std.proofs.lemmas.Bool.{and_parts}
use Rattle.hm_quarantine.specs.Quarantine.{IsArrayIndex, let_go, kept_with}
use Rattle.hm_class_rules.specs.Kinds.{Kind, Partial, Empty, kind}
use Rattle.hm_class_rules.specs.Drawn.{unparked_by}
use Rattle.hm_class_rules.specs.Stepped.{listed, parking_with}
use Rattle.hm_class_book.specs.Book.{state_in}
use Rattle.hm_class_book.specs.Kinds.{kind_in}
use Rattle.hm_class_book.specs.Said.{said}
use Rattle.hm_class_book.specs.Reached.{at_state}
use Rattle.hm_class_book.proofs.Settled.{freed_illegal, freed_parts, freed_taken, counted}
use Rattle.hm_class_book.proofs.class_book.ClassBook.settle_freed.Goals as goal

pub returns-then-not-legal : goal.returns-then-not-legal
returns-then-not-legal c = λ s f. freed_illegal (at_state (said c.args.self.now) s) (state_in c.args.self.now.book) c.args.entry.now c.args.addr (kind_in c.args.before) c.args.legal f c.if-not-legal.true

pub returns-then-not-are_words : goal.returns-then-not-are_words
returns-then-not-are_words c = λ s f. (
  f.allows.0 c.if-not-legal.false,
  λ d.
      let h = freed_parts (at_state (said c.args.self.now) s) (state_in c.args.self.now.book) c.args.entry.now c.args.addr (kind_in c.args.before) c.args.legal f d in
      true≢false (sym (c.are_words.ensures.same.1 (h.0.0 ∙ sym c.free_words-count.ensures.value, h.0.1)) ∙ c.if-not-are_words.true),
)

pub pass-released-requires : goal.pass-released-requires
pass-released-requires c = subst (λ (n : ℕ). IsArrayIndex n c.array_index-kept_at.result) (sym c.requires.array) c.array_index-kept_at.ensures.index

pub returns-then-not-drawn : goal.returns-then-not-drawn
returns-then-not-drawn c = λ s f. (
  f.allows.0 c.if-not-legal.false,
  λ d.
      let h = freed_parts (at_state (said c.args.self.now) s) (state_in c.args.self.now.book) c.args.entry.now c.args.addr (kind_in c.args.before) c.args.legal f d in
      let leaves = c.is_option-leaves.ensures.1 (h.1 ∙ sym (c.pass-released.ensures.released ∙ ap (let_go c.args.self.now.quarantine c.args.addr) c.array_index-kept_at.ensures.value)) in
      let unparks = c.is_option-unparks.ensures.1 (h.2 ∙ sym (c.park-unparked.ensures.stood
      ∙ ap (λ (n : ℕ). unparked_by c.args.entry.now.choices.retired (slice_index_or c.args.self.now.parking.items n None)) c.parking_index-parked_at.ensures.value)) in
      true≢false (sym (λ i. leaves i && unparks i) ∙ c.if-not-drawn.true),
)

pub returns : goal.returns
returns c = λ s f.
    (let parts = and_parts c.is_option-leaves.result c.is_option-unparks.result c.if-not-drawn.false in
    let words = c.are_words.ensures.same.0 c.if-not-are_words.false in
    let k : Kind = kind_in c.args.before in
    let j : Kind = kind_in c.kind-after.result in
    let e = c.args.entry.now in
    freed_taken (at_state (said c.args.self.now) s) (state_in c.args.self.now.book) e c.args.addr k c.args.legal f
    c.are_words.new.stream c.file.new.self.partial.items c.file.new.self.empty.items c.pass-released.new.self c.park-unparked.new.parking.items j c.if-not-legal.false
    (words.0 ∙ c.free_words-count.ensures.value, words.1)
    (c.is_option-leaves.ensures.0 parts.0 ∙ c.pass-released.ensures.released ∙ ap (let_go c.args.self.now.quarantine c.args.addr) c.array_index-kept_at.ensures.value)
    (c.is_option-unparks.ensures.0 parts.1 ∙ c.park-unparked.ensures.stood
    ∙ ap (λ (n : ℕ). unparked_by e.choices.retired (slice_index_or c.args.self.now.parking.items n None)) c.parking_index-parked_at.ensures.value)
    (c.are_words.ensures.taken c.if-not-are_words.false)
    (c.in_ok-file.ensures.partial ∙ ap (λ (n : ℕ). listed Partial n k j c.args.self.now.lists.partial.items) c.touched-slab.ensures)
    (c.in_ok-file.ensures.empty ∙ ap (λ (n : ℕ). listed Empty n k j c.args.self.now.lists.empty.items) c.touched-slab.ensures)
    (c.pass-released.ensures.kept ∙ ap (kept_with c.args.self.now.quarantine c.args.addr) c.array_index-kept_at.ensures.value)
    (c.park-unparked.ensures.parking ∙ ap (λ (n : ℕ). parking_with n e.choices.retired c.args.self.now.parking.items) c.parking_index-parked_at.ensures.value)
    (c.kind-after.ensures ∙ ap (λ (n : ℕ). kind c.args.self.now.region.shape (counted (state_in c.args.self.now.book) e.faults_after) n) c.touched-slab.ensures))
