use Rattle.hm_large_book.proofs.Plain.{fetched_is}
use Rattle.hm_large_book.proofs.book.LargeBook.fetched.Goals as goal

pub returns : goal.returns
returns c = fetched_is c.args.self.now c.args.entry.now c.has_bytes.result c.plain.result c.deref.result.now c.deref.ensures.value c.args.addr c.args.len c.args.runs.now c.has_bytes.ensures c.plain.ensures
