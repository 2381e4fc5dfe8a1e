use Rattle.std.proofs.Common.{◌≡◌, sym, ◌∙◌, true≢false}
use Rattle.hm_class_book.proofs.class_book.ClassBook.take.Goals as goal

pub returns-then-not-may_follow : goal.returns-then-not-may_follow
returns-then-not-may_follow c = λ al.
    true≢false (sym (c.may_follow.ensures.1 (record { draws = al.draws; asks = al.asks; follows = al.follows; later = al.later })) ∙ c.if-not-may_follow.true)
