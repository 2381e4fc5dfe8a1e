use Rattle.hm_model.specs.Maps.{at}
use Rattle.hm_large_book.specs.Book.{blocks_in}
use Rattle.hm_large_book.proofs.Sizes.{size_there, size_none}
use Rattle.hm_large_book.proofs.blocks.is_size.Goals as goal

pub returns-in-Some : goal.returns-in-Some
returns-in-Some c = size_there (at c.args.addr (blocks_in c.args.live.now)) c.in-Some.extent c.args.size c.in-Some.ensures

pub returns-in-None : goal.returns-in-None
returns-in-None c = size_none (at c.args.addr (blocks_in c.args.live.now)) c.args.size c.in-None.ensures
