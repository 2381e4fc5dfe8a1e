use Rattle.std.proofs.Common.{ℕ, ◌-◌, ◌*◌, subst, sym, arith, refl}
use Rattle.hm_space.specs.Space.{MeetsNoFree, GivesRange}
use Rattle.hm_large_book.proofs.Releasing.{extent_goes, let_go_some, let_go_none}
use Rattle.hm_large_book.proofs.blocks.BlockBook.let_go.Goals as goal

pub overflow_mul-extent : goal.overflow_mul-extent
overflow_mul-extent c = (let g = extent_goes c.args.self.now c.args.addr c.in-Some.extent c.deref.result.now c.requires c.deref.ensures.value c.in-Some.ensures in omega (arith, g.guard))

pub overflow_sub-addr : goal.overflow_sub-addr
overflow_sub-addr c = (let g = extent_goes c.args.self.now c.args.addr c.in-Some.extent c.deref.result.now c.requires c.deref.ensures.value c.in-Some.ensures in g.front)

pub span-requires-clause-size : goal.span-requires-clause-size
span-requires-clause-size c = (let g = extent_goes c.args.self.now c.args.addr c.in-Some.extent c.deref.result.now c.requires c.deref.ensures.value c.in-Some.ensures in omega (arith, g.most))

pub span-requires-clause-guard : goal.span-requires-clause-guard
span-requires-clause-guard c = (let g = extent_goes c.args.self.now c.args.addr c.in-Some.extent c.deref.result.now c.requires c.deref.ensures.value c.in-Some.ensures in g.guard)

pub put_back-requires-clause-some : goal.put_back-requires-clause-some
put_back-requires-clause-some c = (let g = extent_goes c.args.self.now c.args.addr c.in-Some.extent c.deref.result.now c.requires c.deref.ensures.value c.in-Some.ensures in omega (arith, g.some, c.span.ensures))

pub put_back-requires-clause-below : goal.put_back-requires-clause-below
put_back-requires-clause-below c = (let g = extent_goes c.args.self.now c.args.addr c.in-Some.extent c.deref.result.now c.requires c.deref.ensures.value c.in-Some.ensures in omega (arith, g.below, g.front, c.span.ensures))

pub put_back-requires-clause-apart : goal.put_back-requires-clause-apart
put_back-requires-clause-apart c = (let g = extent_goes c.args.self.now c.args.addr c.in-Some.extent c.deref.result.now c.requires c.deref.ensures.value c.in-Some.ensures in
    subst (λ (n : ℕ). MeetsNoFree c.args.self.now.space (c.args.addr - 4096 * c.in-Some.extent.guard) n) (sym c.span.ensures) g.apart)

pub returns-in-Some : goal.returns-in-Some
returns-in-Some c = λ config s x sound shows there. let_go_some config s c.args.self.now _ c.args.addr x c.in-Some.extent c.deref.result.now sound shows there c.deref.ensures.value c.in-Some.ensures c.remove_quarantined.ensures
    (subst (λ (n : ℕ). GivesRange c.args.self.now.space c.put_back.new.self (c.args.addr - 4096 * c.in-Some.extent.guard) n) c.span.ensures c.put_back.ensures.given) c.put_back.ensures.out refl refl

pub returns-in_default : goal.returns-in_default
returns-in_default c = λ config s x sound shows there. absurd (let_go_none config s c.args.self.now c.args.addr x c.deref.result.now c.quarantined_at.result shows there c.deref.ensures.value c.quarantined_at.ensures c.in_default.not-Some)
