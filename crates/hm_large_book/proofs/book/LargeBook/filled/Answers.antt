use Rattle.std.proofs.Common.{refl}
use Rattle.hm_large_book.proofs.Written.{filled_is}
use Rattle.hm_large_book.proofs.book.LargeBook.filled.Goals as goal

pub returns : goal.returns
returns c = filled_is c.args.self.now (record c.args.self.now.blocks { live = c.write_live.new.live }) c.args.entry.now c.write_live.result c.plain.result c.args.addr c.args.runs.now c.args.self.now.blocks.live.items refl refl refl refl c.write_live.ensures c.plain.ensures
