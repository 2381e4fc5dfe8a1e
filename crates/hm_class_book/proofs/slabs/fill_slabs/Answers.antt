use Rattle.std.proofs.Common.{replicate}
use Rattle.hm_class_book.proofs.SlabWrites.{next_front, next_rest, next_length}
use Rattle.hm_class_book.proofs.slabs.fill_slabs.Goals as goal

pub loop-entry-preserved : goal.loop-entry-preserved
loop-entry-preserved c =
    let i = c.loop-entry.invariant in
    record {
      front = next_front c.args.shape.now c.args.addr (replicate c.args.len c.args.byte) c.args.opens.now c.loop-entry.opens c.loop-entry.entry-index c.entry-item.result i.rest i.len c.loop-entry-test.true c.fill_slab.new.entry i.front c.fill_slab.ensures;
      rest = next_rest c.args.shape.now c.args.addr (replicate c.args.len c.args.byte) c.args.opens.now c.loop-entry.opens c.loop-entry.entry-index c.entry-item.result i.rest i.len c.loop-entry-test.true c.fill_slab.new.entry;
      len = next_length c.args.shape.now c.args.addr (replicate c.args.len c.args.byte) c.args.opens.now c.loop-entry.opens c.loop-entry.entry-index c.entry-item.result i.rest i.len c.loop-entry-test.true c.fill_slab.new.entry;
    }
