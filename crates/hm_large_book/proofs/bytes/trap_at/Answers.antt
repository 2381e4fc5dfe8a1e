use Rattle.std.proofs.Common.{sym}
use Rattle.hm_large.proofs.Accessed.{trap_left, none_left}
use Rattle.hm_large_book.proofs.bytes.trap_at.Goals as goal

pub returns-then-left-len : goal.returns-then-left-len
returns-then-left-len c = λ config s sound guarded is. sym (trap_left config s c.args.addr c.args.len c.left_at-left.result sound guarded (c.left_at-left.ensures config s sound is) c.if-left-len.true)

pub returns-else-left-len : goal.returns-else-left-len
returns-else-left-len c = λ config s sound guarded is. sym (none_left config s c.args.addr c.args.len c.left_at-left.result sound c.requires.some (c.left_at-left.ensures config s sound is) c.if-left-len.false)
