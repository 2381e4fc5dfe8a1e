use Rattle.hm_large_book.proofs.Plain.{freed_none_is}
use Rattle.hm_large_book.proofs.book.LargeBook.freed_none.Goals as goal

pub returns : goal.returns
returns c = freed_none_is c.args.self.now c.args.entry.now c.is_live.result c.plain.result c.deref.result.now c.deref.ensures.value c.args.addr c.args.stated c.is_live.ensures c.plain.ensures
