use Rattle.std.proofs.Common.{refl}
use Rattle.hm_model.specs.declared.entry.Reply.TheVariants.{NoSpace}
use Rattle.hm_large_book.proofs.Allotting.{not_legal, allot_judged, space_allows, space_refuses, none_told}
use Rattle.hm_large_book.proofs.book.LargeBook.no_space.Goals as goal

pub returns-then-not-allowed : goal.returns-then-not-allowed
returns-then-not-allowed c = not_legal c.args.self.now c.args.entry.now c.args.asked c.args.align NoSpace c.args.self.now refl refl
    (space_refuses c.args.self.now c.args.entry.now c.args.asked c.args.align c.unwrap_or-guard.result c.size_of_block-size.result c.least_address-least.result c.unwrap_or-guard.ensures c.size_of_block-size.ensures.value c.least_address-least.ensures c.chose-chosen.result c.chose-chosen.ensures c.is_none-none.result (none_told c.least_address-least.result c.is_none-none.result c.is_none-none.ensures) c.if-not-allowed.true)

pub returns : goal.returns
returns c = allot_judged c.args.self.now c.args.entry.now c.args.asked c.args.align NoSpace c.args.self.now.blocks c.guarded.new.words c.size_of_block-size.result c.guarded.result c.size_of_block-size.ensures.value c.guarded.ensures.taken
    (space_allows c.args.self.now c.args.entry.now c.args.asked c.args.align c.unwrap_or-guard.result c.size_of_block-size.result c.least_address-least.result c.unwrap_or-guard.ensures c.size_of_block-size.ensures.value c.least_address-least.ensures c.chose-chosen.result c.chose-chosen.ensures c.is_none-none.result (none_told c.least_address-least.result c.is_none-none.result c.is_none-none.ensures) c.if-not-allowed.false) (λ s st. st.shows.blocks) (λ s. (refl, refl)) c.guarded.ensures.judged
