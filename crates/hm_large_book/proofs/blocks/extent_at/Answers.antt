use Rattle.std.proofs.Common.{ap, ◌∙◌, sym, option_map, arith}
use Rattle.hm_large_book.specs.Book.{block_of, extent_of}
use Rattle.hm_large_book.proofs.Finding.{passed, found, none_at, at_pairs}
use Rattle.hm_large_book.proofs.blocks.extent_at.Goals as goal

pub loop-start-preserved : goal.loop-start-preserved
loop-start-preserved c = passed c.args.addr c.args.live.now c.loop-start.start-index c.loop-start-item.result c.loop-start-item.is c.loop-start.invariant c.loop-start-test.true c.if-start-addr.false

pub returns-then-start-addr : goal.returns-then-start-addr
returns-then-start-addr c = ap (option_map extent_of) (sym (at_pairs block_of c.args.addr c.args.live.now ∙ ap (option_map block_of) (found c.args.addr c.args.live.now c.loop-start.start-index c.loop-start-item.result c.loop-start-item.is c.loop-start.invariant c.loop-start-test.true c.if-start-addr.true)))

pub returns : goal.returns
returns c = ap (option_map extent_of) (sym (at_pairs block_of c.args.addr c.args.live.now ∙ ap (option_map block_of) (none_at c.args.addr c.args.live.now c.loop-start.start-index c.loop-start.invariant (omega (arith, c.loop-start-test.false)))))
