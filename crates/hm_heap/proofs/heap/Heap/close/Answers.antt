use Rattle.std.proofs.Common.{sym, subst}
use Rattle.hm_heap.specs.Closes.{Closes}
use Rattle.hm_heap.specs.Passes.{HeapView, PassView, AreOf}
use Rattle.hm_heap.proofs.Closing.{closes_heap}
use Rattle.hm_heap.proofs.heap.Heap.close.Goals as goal

pub returns : goal.returns
returns g c =
    let meaning = g.P.Pages in
    let h = c.self.inside in
    let turns = c.pass.inside.turns.items in
    let of : AreOf h.locks.items turns =
    subst (λ (z : HeapView). AreOf z.locks turns) (sym c.self.view_is) (subst (λ (z : PassView). AreOf c.args.self.locks z.turns) (sym c.pass.view_is) c.requires.of) in
    let all = closes_heap meaning h.config h.seed h.locks.items turns c.close_all.new.histories.items c.close_all.new.pages.items c.self.invariant of c.close_all.ensures in
    subst (λ (z : HeapView). Closes meaning z.config z.seed c.args.pass.turns c.of.result c.of-2.result) c.self.view_is
    (subst (λ (z : PassView). Closes meaning h.config h.seed z.turns c.of.result c.of-2.result) c.pass.view_is
    (subst (λ hs. Closes meaning h.config h.seed turns hs c.of-2.result) (sym c.of.ensures)
    (subst (λ ps. Closes meaning h.config h.seed turns c.close_all.new.histories.items ps) (sym c.of-2.ensures) all)))
