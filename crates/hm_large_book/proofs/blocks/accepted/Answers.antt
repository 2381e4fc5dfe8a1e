use Rattle.std.proofs.Common.{◌≡◌, ℕ, Bool, true, false, Option, Some, None, is_some, sym, ◌∙◌, ap, true≢false}
use Rattle.hm_large_book.specs.Book.{blocks_in}
use Rattle.hm_large_book.proofs.Sizes.{accepted_some, accepted_other, accepted_none}
use Rattle.hm_large_book.proofs.blocks.accepted.Goals as goal

nothing : (w : Option (ℕ × ℕ)) (b : Bool) → b ≡ is_some w → b ≡ false → w ≡ None
nothing None b is off = λ i. None
nothing (Some x) b is off = absurd (true≢false (sym is ∙ off))

something : (w : Option (ℕ × ℕ)) (b : Bool) → b ≡ is_some w → b ≡ true → w ≡ None → ⊥
something w b is on none = true≢false (sym on ∙ is ∙ ap is_some none)

pub returns-then-differs-clause-none : goal.returns-then-differs-clause-none
returns-then-differs-clause-none c =
    accepted_other (blocks_in c.args.live.now) c.args.addr c.args.stated c.in-Some.extent c.wrong_size.result c.in-Some.ensures c.wrong_size.ensures
    (something c.wrong_size.result c.is_some-differs.result c.is_some-differs.ensures c.if-differs.true)

pub returns-else-differs-clause-some : goal.returns-else-differs-clause-some
returns-else-differs-clause-some c =
    accepted_some (blocks_in c.args.live.now) c.args.addr c.args.stated c.in-Some.extent c.wrong_size.result c.in-Some.ensures c.wrong_size.ensures
    (nothing c.wrong_size.result c.is_some-differs.result c.is_some-differs.ensures c.if-differs.false)

pub returns-in-None-clause-none : goal.returns-in-None-clause-none
returns-in-None-clause-none c = accepted_none (blocks_in c.args.live.now) c.args.addr c.args.stated c.in-None.ensures
