use Rattle.std.proofs.Common.{◌≡◌, ◌+◌, ◌-◌, ◌++◌, ℕ, List, ◌∙◌, arith}
use Rattle.hm_class_rules.specs.Bytes.{byte_at}
use Rattle.hm_class_book.specs.Book.{state_in}
use Rattle.hm_class_book.proofs.Rests.{reads_on}
use Rattle.hm_class_book.proofs.book.Book.bytes_read.Goals as goal

pub loop-at-preserved : goal.loop-at-preserved
loop-at-preserved c = record {
  later = omega (arith, c.loop-at.invariant.later);
  within = omega (arith, c.in_ok-at.ensures.few, c.loop-at-test.true);
  read = c.in_ok-at.ensures.added
      ∙ reads_on (byte_at c.args.shape.now (state_in c.args.self.now)) c.args.addr c.loop-at.at c.in_ok-at.field-0 c.loop-at.bytes.items c.loop-at.invariant.later c.loop-at.invariant.read;
}
