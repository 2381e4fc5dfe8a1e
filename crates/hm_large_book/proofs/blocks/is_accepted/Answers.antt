use Rattle.std.proofs.Common.{true, true≢false, sym}
use Rattle.hm_large_book.proofs.blocks.is_accepted.Goals as goal

pub returns-in-Some : goal.returns-in-Some
returns-in-Some c = ((λ t. (c.in-Some.field-0, c.in-Some.ensures.some)), (λ h i. true))

pub returns-in-None : goal.returns-in-None
returns-in-None c = ((λ t. absurd (true≢false (sym t))), (λ h. absurd (c.in-None.ensures.none h.0 h.1)))
