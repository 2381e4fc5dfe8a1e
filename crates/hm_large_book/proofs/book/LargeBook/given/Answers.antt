use Rattle.std.proofs.Common.{refl}
use Rattle.hm_model.specs.declared.entry.Reply.TheVariants.{Given}
use Rattle.hm_large_book.proofs.Allotting.{not_legal, allot_judged, given_allows, given_refuses, given_space, given_shows}
use Rattle.hm_large_book.proofs.book.LargeBook.given.Goals as goal

pub returns-then-not-allowed : goal.returns-then-not-allowed
returns-then-not-allowed c = not_legal c.args.self.now c.args.entry.now c.args.asked c.args.align (Given c.args.addr c.args.usable) c.args.self.now refl refl
    (given_refuses c.args.self.now c.args.entry.now c.args.asked c.args.align c.unwrap_or-guard.result c.size_of_block-size.result c.least_address-least.result c.unwrap_or-guard.ensures c.size_of_block-size.ensures.value c.least_address-least.ensures c.chose-chosen.result c.chose-chosen.ensures c.args.addr c.args.usable c.is_same-sized.result c.is_found-placed.result c.is_same-sized.ensures c.is_found-placed.ensures c.if-not-allowed.true)

pub insert-requires-clause-space : goal.insert-requires-clause-space
insert-requires-clause-space c = given_space c.args.self.now c.args.entry.now c.args.asked c.args.align c.unwrap_or-guard.result c.size_of_block-size.result c.least_address-least.result c.unwrap_or-guard.ensures c.size_of_block-size.ensures.value c.least_address-least.ensures c.chose-chosen.result c.chose-chosen.ensures c.args.addr c.args.usable c.is_same-sized.result c.is_found-placed.result c.is_same-sized.ensures c.is_found-placed.ensures c.if-not-allowed.false c.requires.stands.0 c.requires.stands.1

pub returns : goal.returns
returns c = allot_judged c.args.self.now c.args.entry.now c.args.asked c.args.align (Given c.args.addr c.args.usable) c.insert.new.self c.guarded.new.words c.size_of_block-size.result c.guarded.result c.size_of_block-size.ensures.value c.guarded.ensures.taken
    (given_allows c.args.self.now c.args.entry.now c.args.asked c.args.align c.unwrap_or-guard.result c.size_of_block-size.result c.least_address-least.result c.unwrap_or-guard.ensures c.size_of_block-size.ensures.value c.least_address-least.ensures c.chose-chosen.result c.chose-chosen.ensures c.args.addr c.args.usable c.is_same-sized.result c.is_found-placed.result c.is_same-sized.ensures c.is_found-placed.ensures c.if-not-allowed.false)
    (given_shows c.args.self.now c.args.entry.now c.args.asked c.args.align c.unwrap_or-guard.result c.size_of_block-size.result c.least_address-least.result c.unwrap_or-guard.ensures c.size_of_block-size.ensures.value c.least_address-least.ensures c.chose-chosen.result c.chose-chosen.ensures c.args.addr c.args.usable c.is_same-sized.result c.is_found-placed.result c.is_same-sized.ensures c.is_found-placed.ensures c.if-not-allowed.false c.insert.new.self c.in_ok-insert.ensures)
    (λ s. (refl, refl)) c.guarded.ensures.judged
