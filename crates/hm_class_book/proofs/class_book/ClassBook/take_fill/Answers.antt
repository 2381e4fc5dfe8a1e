use Rattle.std.proofs.Common.{◌≡◌, refl, subst}
use Rattle.hm_model.specs.declared.entry.Call.{Call}
use Rattle.hm_model.specs.declared.entry.Call.TheVariants.{Fill}
use Rattle.hm_model.specs.declared.entry.Reply.TheVariants.{Filled}
use Rattle.hm_class_rules.specs.Rules.{Asks}
use Rattle.hm_class_book.specs.Book.{state_in}
use Rattle.hm_class_book.specs.Said.{said}
use Rattle.hm_class_book.proofs.Founds.{found, unfilled_moves}
use Rattle.hm_class_book.proofs.class_book.ClassBook.take_fill.Goals as goal

pub fill-legal-requires-clause-range : goal.fill-legal-requires-clause-range
fill-legal-requires-clause-range c = subst (λ (k : Call). Asks c.args.self.now.region.shape k) c.requires.call_is c.requires.follows.asks

pub may_trap-legal-requires-clause-range : goal.may_trap-legal-requires-clause-range
may_trap-legal-requires-clause-range c = subst (λ (k : Call). Asks c.args.self.now.region.shape k) c.requires.call_is c.requires.follows.asks

pub returns-in-Filled : goal.returns-in-Filled
returns-in-Filled c =
    let b = said c.args.self.now in
    let e = c.args.entry.now in
    c.settle.ensures b.cells.state (found b e (Fill c.args.addr c.args.runs.now) Filled c.fill-legal.result (state_in c.fill-legal.new.self) c.requires.reached c.requires.follows c.requires.call_is c.in-Filled.is refl
    (λ yes. c.fill-legal.ensures.state yes) (c.fill-legal.ensures.legal e.faults_before e.faults_after))

pub returns-in_default : goal.returns-in_default
returns-in_default c =
    let b = said c.args.self.now in
    let e = c.args.entry.now in
    c.settle-in_default.ensures b.cells.state (found b e (Fill c.args.addr c.args.runs.now) e.reply c.may_trap-legal.result (state_in c.args.self.now.book) c.requires.reached c.requires.follows c.requires.call_is refl refl
    (λ yes. unfilled_moves b.terms.shape e.choices c.args.addr c.args.runs.now e.reply b.cells.state c.in_default.not-Filled) (c.may_trap-legal.ensures e.faults_before e.faults_after))
