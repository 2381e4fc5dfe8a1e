use Rattle.hm_model.specs.Maps.{at}
use Rattle.hm_large_book.specs.Book.{blocks_in}
use Rattle.hm_large_book.proofs.Sizes.{is_there}
use Rattle.hm_large_book.proofs.blocks.is_live.Goals as goal

pub returns : goal.returns
returns c = is_there (at c.args.addr (blocks_in c.args.live.now)) c.extent_at.result c.is_some.result c.extent_at.ensures c.is_some.ensures
