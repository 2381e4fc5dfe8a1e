use Rattle.hm_large_book.proofs.Plain.{measured_is}
use Rattle.hm_large_book.proofs.book.LargeBook.measured.Goals as goal

pub returns : goal.returns
returns c = measured_is c.args.self.now c.args.entry.now c.is_size.result c.plain.result c.deref.result.now c.deref.ensures.value c.args.addr c.args.size c.is_size.ensures c.plain.ensures
