use Rattle.std.proofs.Common.{ℕ, ◌+◌, ◌-◌, ◌*◌, subst, sym, arith, refl}
use Rattle.hm_space.specs.Space.{MeetsNoFree, GivesRange}
use Rattle.hm_large_book.specs.declared.blocks.Extent.{Extent}
use Rattle.hm_large_book.proofs.Changing.{shows_left}
use Rattle.hm_large_book.proofs.Releasing.{live_goes}
use Rattle.hm_large_book.proofs.blocks.BlockBook.leave.Goals as goal

pub overflow_mul-extent : goal.overflow_mul-extent
overflow_mul-extent c = (let g = live_goes c.args.self.now c.args.addr c.args.extent c.requires in omega (arith, g.guard))

pub overflow_sub-addr : goal.overflow_sub-addr
overflow_sub-addr c = (let g = live_goes c.args.self.now c.args.addr c.args.extent c.requires in g.front)

pub span-requires-clause-size : goal.span-requires-clause-size
span-requires-clause-size c = (let g = live_goes c.args.self.now c.args.addr c.args.extent c.requires in omega (arith, g.most))

pub span-requires-clause-guard : goal.span-requires-clause-guard
span-requires-clause-guard c = (let g = live_goes c.args.self.now c.args.addr c.args.extent c.requires in g.guard)

pub put_back-requires-clause-some : goal.put_back-requires-clause-some
put_back-requires-clause-some c = (let g = live_goes c.args.self.now c.args.addr c.args.extent c.requires in omega (arith, g.some, c.span.ensures))

pub put_back-requires-clause-below : goal.put_back-requires-clause-below
put_back-requires-clause-below c = (let g = live_goes c.args.self.now c.args.addr c.args.extent c.requires in omega (arith, g.below, g.front, c.span.ensures))

pub put_back-requires-clause-apart : goal.put_back-requires-clause-apart
put_back-requires-clause-apart c = (let g = live_goes c.args.self.now c.args.addr c.args.extent c.requires in
    subst (λ (n : ℕ). MeetsNoFree c.args.self.now.space (c.args.addr - 4096 * c.args.extent.guard) n) (sym c.span.ensures) g.apart)

pub returns : goal.returns
returns c = λ config s x sound shows there reach. shows_left config s c.args.self.now c.args.addr x sound shows there _ c.remove_live.ensures refl refl
    (subst (λ (r : Extent). GivesRange c.args.self.now.space c.put_back.new.self (c.args.addr - 4096 * r.guard) (r.size + 2 * (4096 * r.guard))) reach
    (subst (λ (n : ℕ). GivesRange c.args.self.now.space c.put_back.new.self (c.args.addr - 4096 * c.args.extent.guard) n) c.span.ensures c.put_back.ensures.given)) c.put_back.ensures.out
