use Rattle.std.proofs.Common.{◌≡◌, ℕ, ◌-◌, length, ap, rules}
use Rattle.hm_large_book.proofs.Reaching.{left_holder, left_none}
use Rattle.hm_large_book.proofs.bytes.left_at.Goals as goal

pub returns-in-Some : goal.returns-in-Some
returns-in-Some c = λ config s sound is.
    let count : c.len.result ≡ length c.index-live-index.result.1.bytes = search rules in
    left_holder config s c.args.live.now sound is c.args.addr c.in-Some.index _ c.index-live-index.result c.in-Some.ensures.within c.index-live-index.is c.in-Some.ensures.some
    (ap (λ (n : ℕ). n - (c.args.addr - c.index-live-index.result.0)) count)

pub returns-in-None : goal.returns-in-None
returns-in-None c = λ config s sound is. left_none config s c.args.live.now sound is c.args.addr c.in-None.ensures.none
