use Rattle.std.proofs.Common.{sym}
use Rattle.hm_large.proofs.Accessed.{trap_left, none_left, left_held}
use Rattle.hm_large.proofs.access.first_trap.Goals as goal

pub returns-then-left-len-clause-value : goal.returns-then-left-len-clause-value
returns-then-left-len-clause-value c = λ config n s sound guarded shows. sym (trap_left config s c.args.addr c.args.len c.live_left-left.result sound guarded (c.live_left-left.ensures config n s sound shows) c.if-left-len.true)

pub returns-else-left-len-clause-value : goal.returns-else-left-len-clause-value
returns-else-left-len-clause-value c = λ config n s sound guarded shows. sym (none_left config s c.args.addr c.args.len c.live_left-left.result sound c.requires.0 (c.live_left-left.ensures config n s sound shows) c.if-left-len.false)

pub returns-else-left-len-clause-held : goal.returns-else-left-len-clause-held
returns-else-left-len-clause-held c = λ config n s sound shows none. absurd (left_held s.live c.args.addr c.args.len c.live_left-left.result c.requires.0 (c.live_left-left.ensures config n s sound shows) c.if-left-len.false none)
