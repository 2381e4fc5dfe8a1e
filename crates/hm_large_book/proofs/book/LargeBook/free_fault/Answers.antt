use Rattle.std.proofs.Common.{refl}
use Rattle.hm_large_book.proofs.Written.{free_fault_is, both_is}
use Rattle.hm_large_book.proofs.book.LargeBook.free_fault.Goals as goal

pub returns : goal.returns
returns c = free_fault_is c.args.self.now (record c.args.self.now.blocks { live = c.mark_live.new.live }) c.args.entry.now _ c.plain.result c.args.addr c.args.stated refl refl refl c.mark_live.ensures
    (both_is c.args.self.now c.args.entry.now c.args.addr c.args.stated c.deref.result.now c.is_accepted-live.result c.rose-rose.result c.deref.ensures.value c.is_accepted-live.ensures c.rose-rose.ensures) c.plain.ensures
