use Rattle.hm_large_book.proofs.Plain.{freed_wrong_is}
use Rattle.hm_large_book.proofs.book.LargeBook.freed_wrong.Goals as goal

pub returns : goal.returns
returns c = freed_wrong_is c.args.self.now c.args.entry.now c.is_wrong.result c.plain.result c.deref.result.now c.deref.ensures.value c.args.addr c.args.stated c.args.block c.args.other c.is_wrong.ensures c.plain.ensures
