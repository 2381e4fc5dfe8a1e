use Rattle.hm_large_book.proofs.Plain.{measured_none_is}
use Rattle.hm_large_book.proofs.book.LargeBook.measured_none.Goals as goal

pub returns : goal.returns
returns c = measured_none_is c.args.self.now c.args.entry.now c.is_live.result c.plain.result c.deref.result.now c.deref.ensures.value c.args.addr c.is_live.ensures c.plain.ensures
