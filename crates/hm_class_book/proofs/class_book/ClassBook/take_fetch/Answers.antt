use Rattle.std.proofs.Common.{◌≡◌, refl, subst}
use Rattle.hm_model.specs.declared.entry.Call.{Call}
use Rattle.hm_model.specs.declared.entry.Call.TheVariants.{Fetch}
use Rattle.hm_class_rules.specs.Rules.{Asks}
use Rattle.hm_class_book.specs.Book.{state_in}
use Rattle.hm_class_book.specs.Said.{said}
use Rattle.hm_class_book.proofs.Founds.{found}
use Rattle.hm_class_book.proofs.class_book.ClassBook.take_fetch.Goals as goal

pub may_fetch-requires-clause-range : goal.may_fetch-requires-clause-range
may_fetch-requires-clause-range c = subst (λ (k : Call). Asks c.args.self.now.region.shape k) c.requires.call_is c.requires.follows.asks

pub returns : goal.returns
returns c =
    let b = said c.args.self.now in
    let e = c.args.entry.now in
    c.settle.ensures b.cells.state (found b e (Fetch c.args.addr c.args.len) e.reply c.in_ok-legal.legal (state_in c.args.self.now.book) c.requires.reached c.requires.follows c.requires.call_is refl refl (λ yes. refl)
    (c.in_ok-legal.ensures e.faults_before e.faults_after))
