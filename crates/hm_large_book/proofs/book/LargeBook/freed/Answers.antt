use Rattle.std.proofs.Common.{refl, subst}
use Rattle.hm_large_book.specs.Book.{blocks_in, Accepts}
use Rattle.hm_large_book.proofs.Freeing.{not_accepted}
use Rattle.hm_large_book.proofs.book.LargeBook.freed.Goals as goal

pub freed_block-requires-clause-accepts : goal.freed_block-requires-clause-accepts
freed_block-requires-clause-accepts c = subst (λ l. Accepts (blocks_in l) c.args.addr c.args.stated c.in-Some.extent) c.deref.ensures.value c.in-Some.ensures.some

pub returns-in-None : goal.returns-in-None
returns-in-None c = not_accepted c.args.self.now c.args.entry.now c.args.addr c.args.stated c.deref.result.now c.deref.ensures.value c.args.self.now refl refl c.in-None.ensures.none
