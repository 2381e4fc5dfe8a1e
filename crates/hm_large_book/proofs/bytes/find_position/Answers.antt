use Rattle.std.proofs.Common.{◌≡◌, ℕ, ◌-◌, length, ap, refl, rules, arith}
use Rattle.hm_large_book.proofs.Reaching.{left_holder, left_none, trap_some, lies_at}
use Rattle.hm_large_book.proofs.bytes.find_position.Goals as goal

pub returns-then-left-len-clause-none : goal.returns-then-left-len-clause-none
returns-then-left-len-clause-none c = λ config s sound guarded is none.
    let count : c.len.result ≡ length c.index-live-index.result.1.bytes = search rules in
    trap_some config s c.args.live.now sound is guarded c.args.addr c.args.len _
    (left_holder config s c.args.live.now sound is c.args.addr c.in-Some.index _ c.index-live-index.result c.in-Some.ensures.within c.index-live-index.is c.in-Some.ensures.some
    (ap (λ (n : ℕ). n - (c.args.addr - c.index-live-index.result.0)) count)) c.if-left-len.true none

pub returns-else-left-len-clause-some : goal.returns-else-left-len-clause-some
returns-else-left-len-clause-some c =
    let count : c.len.result ≡ length c.index-live-index.result.1.bytes = search rules in
    lies_at c.args.live.now c.args.addr c.args.len c.in-Some.index _ c.index-live-index.result c.in-Some.ensures.within c.index-live-index.is c.in-Some.ensures.some refl (omega (arith, count, c.if-left-len.false)) c.requires.some

pub returns-in-None-clause-none : goal.returns-in-None-clause-none
returns-in-None-clause-none c = λ config s sound guarded is none. trap_some config s c.args.live.now sound is guarded c.args.addr c.args.len 0 (left_none config s c.args.live.now sound is c.args.addr c.in-None.ensures.none) (omega (arith, c.requires.some)) none
