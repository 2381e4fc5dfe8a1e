use Rattle.hm_class_book.proofs.Lookups.{found_item, passed_item}
use Rattle.hm_class_book.proofs.bytes.find_slab.Goals as goal

pub returns-then-number-slab : goal.returns-then-number-slab
returns-then-number-slab c =
    found_item c.args.slab c.args.opens.now c.loop-number.number-index c.loop-number-item.result c.loop-number-test.true c.loop-number.invariant c.loop-number-item.is c.if-number-slab.true

pub loop-number-preserved : goal.loop-number-preserved
loop-number-preserved c =
    passed_item c.args.slab c.args.opens.now c.loop-number.number-index c.loop-number-item.result c.loop-number-test.true c.loop-number.invariant c.loop-number-item.is c.if-number-slab.false
