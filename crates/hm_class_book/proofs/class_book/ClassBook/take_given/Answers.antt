use Rattle.std.proofs.Common.{◌≡◌, ℕ, ◌∙◌, ap, subst, refl}
use Rattle.hm_model.specs.declared.entry.Call.TheVariants.{Allot}
use Rattle.hm_model.specs.declared.entry.Reply.TheVariants.{Given}
use Rattle.hm_class_rules.specs.Kinds.{kind}
use Rattle.hm_class_book.specs.Book.{state_in}
use Rattle.hm_class_rules.specs.Rules.{AllowsGiven}
use Rattle.hm_class_rules.specs.Steps.{gives}
use Rattle.hm_class_book.specs.Picks.{IsFirst, Judges, with_opened}
use Rattle.hm_class_book.specs.Kinds.{kind_in}
use Rattle.hm_class_book.specs.Said.{said}
use Rattle.hm_class_book.proofs.Founds.{found_picked}
use Rattle.hm_class_book.proofs.Reaching.{partial_after, empty_after}
use Rattle.hm_class_book.proofs.class_book.ClassBook.take_given.Goals as goal

pub take_given-requires-clause-partial : goal.take_given-requires-clause-partial
take_given-requires-clause-partial c = let b = said c.args.self.now in partial_after b.seed b.arena b.terms b.cells c.requires.asked.reached

pub take_given-requires-clause-empty : goal.take_given-requires-clause-empty
take_given-requires-clause-empty c = let b = said c.args.self.now in empty_after b.seed b.arena b.terms b.cells c.requires.asked.reached

pub returns : goal.returns
returns c =
    let b = said c.args.self.now in
    let e = c.args.entry.now in
    c.settle_picked.ensures b.cells.state
    (found_picked b e (Allot c.args.asked c.args.align) (Given c.args.addr c.args.usable) c.args.addr (kind_in c.kind-before.result) c.in_ok-picked.picked (state_in c.take_given.new.self)
    c.requires.asked.reached c.requires.asked.follows c.requires.asked.call_is c.requires.reply refl
    (c.kind-before.ensures ∙ ap (λ (n : ℕ). kind b.terms.shape b.cells.state n) c.slab_of-slab.ensures)
    (subst (λ (n : ℕ). Judges (AllowsGiven b.terms b.cells.state e.choices c.args.addr c.args.usable) (IsFirst b.terms.shape b.cells.state e.choices n c.args.addr)
    (state_in c.take_given.new.self ≡ gives b.terms.shape c.args.addr c.args.asked (with_opened b.terms.shape e.choices b.cells.state)) c.in_ok-picked.picked)
    c.start_slot-from.ensures.value c.in_ok-picked.ensures))
