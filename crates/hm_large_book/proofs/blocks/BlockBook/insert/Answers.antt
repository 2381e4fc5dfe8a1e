use Rattle.std.proofs.Common.{ℕ, ◌+◌, ◌-◌, ◌*◌, ◌∷◌, List, subst, ◌∙◌, ap, refl, false}
use Rattle.hm_base.specs.Lists.{zeros}
use Rattle.hm_space.specs.Space.{TakesRange}
use Rattle.hm_large_book.specs.Book.{blocks_in}
use Rattle.hm_large_book.proofs.Changing.{shows_inserted, more_taken}
use Rattle.hm_large_book.proofs.blocks.BlockBook.insert.Goals as goal

pub returns : goal.returns
returns c = λ config s align shows fits.
    let size = c.size_of_block-size.result in
    shows_inserted config s c.args.self.now _ c.args.addr c.args.asked c.args.guard align shows fits
    (ap blocks_in c.in_ok-insert.ensures.items
    ∙ ap (λ (l : List ℕ). (c.args.addr, record { asked = c.args.asked; size = size; guard = c.args.guard; failed = false; bytes = l }) ∷ blocks_in c.args.self.now.live.items) c.in_ok-bytes.ensures
    ∙ ap (λ (n : ℕ). (c.args.addr, record { asked = c.args.asked; size = n; guard = c.args.guard; failed = false; bytes = zeros n }) ∷ blocks_in c.args.self.now.live.items) c.size_of_block-size.ensures.value)
    refl refl
    (subst (λ (n : ℕ). TakesRange c.args.self.now.space c.take.new.self (c.args.addr - 4096 * c.args.guard) n) (c.span.ensures ∙ ap (λ (n : ℕ). n + 2 * (4096 * c.args.guard)) c.size_of_block-size.ensures.value)
    (more_taken c.args.self.now.space c.reserve_two.new.self c.take.new.self (c.args.addr - 4096 * c.args.guard) c.span.result c.reserve_two.ensures.ranges c.take.ensures.taken))
    (c.take.ensures.out ∙ ap (λ n. n + 1) c.reserve_two.ensures.out)
