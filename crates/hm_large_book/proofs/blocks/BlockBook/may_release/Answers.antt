use Rattle.hm_large_book.proofs.Releasing.{may_leave}
use Rattle.hm_large_book.proofs.blocks.BlockBook.may_release.Goals as goal

pub returns-in-Some : goal.returns-in-Some
returns-in-Some c = λ config s shows. may_leave config s c.args.self.now c.args.released c.in-Some.addr c.deref.result.now c.deref-in-Some.result.now c.deref-in-Some-2.result.now c.quarantined_at.result c.is_some-quarantined.result c.contains-late.result c.count_others-left.result shows c.in-Some.is
    c.deref.ensures.value c.deref-in-Some.ensures.value c.deref-in-Some-2.ensures.value c.quarantined_at.ensures c.is_some-quarantined.ensures c.contains-late.ensures.value c.count_others-left.ensures.value
