use Rattle.std.proofs.Common.{◌≡◌, ℕ, Option, Some, subst}
use Rattle.std.specs.Prelude.{IsTrue, ◌↔◌}
use Rattle.hm_model.specs.Maps.{at}
use Rattle.hm_large_book.specs.Book.{blocks_in}
use Rattle.hm_large_book.proofs.Sizes.{wrong_there, wrong_none}
use Rattle.hm_large_book.proofs.blocks.is_wrong.Goals as goal

pub returns-in-Some : goal.returns-in-Some
returns-in-Some c =
    subst (λ (w : Option (ℕ × ℕ)). IsTrue c.are_sizes.result ↔ (w ≡ Some (c.args.block, c.args.other)))
    (wrong_there (at c.args.addr (blocks_in c.args.live.now)) c.in-Some.extent c.args.stated c.wrong_size.result c.in-Some.ensures c.wrong_size.ensures) c.are_sizes.ensures

pub returns-in-None : goal.returns-in-None
returns-in-None c = wrong_none (at c.args.addr (blocks_in c.args.live.now)) c.args.stated (c.args.block, c.args.other) c.in-None.ensures
