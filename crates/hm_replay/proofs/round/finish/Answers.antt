use Rattle.std.proofs.Common.{arith, ◌≡◌, ◌∷◌, ◌++◌, List, [], Option, Vec, append_assoc, map, ◌∙◌, ap, subst}
use Rattle.std.specs.declared.alloc.Global.{Global}
use Rattle.hm_replay.specs.declared.left.NameLeft.{NameLeft}
use Rattle.hm_report.specs.declared.results.Results.{Results}
use Rattle.hm_turn.specs.Known.{Lock}
use Rattle.hm_heap.specs.Passes.{PassView}
use Rattle.hm_replay.specs.declared.round.Worker.{Worker}
use Rattle.hm_replay.proofs.Finishes.{FinishingFrom, finishing_more}
use Rattle.hm_replay.proofs.round.finish.Goals as goal

pub loop-worker-preserved : goal.loop-worker-preserved
loop-worker-preserved g c = let i = c.loop-worker.invariant in
    let e : c.loop-worker.worker-iterator.rest.items ≡ c.in-Some.worker ∷ c.next.new.self.rest.items =
    c.in-Some.ensures.steps.0 in
    let locks : List Lock = c.args.heap.now.locks in
    let workers : List Worker = c.args.workers.items in
    let p : PassView = c.args.root.now in
    let q : PassView = c.loop-worker.root in
    let found : List (Option Results) = c.loop-worker.found.items in
    let lists : List (Option (Vec NameLeft Global)) = c.loop-worker.lists.items in (
      rw c.push_reserved.ensures.items
          (finishing_more locks p q c.join.new.root workers c.next.new.self.rest.items c.in-Some.worker found
          (subst (λ z. FinishingFrom locks p q workers z found) e i.0) c.join.ensures.root c.join.ensures.callers),
      grind arith,
      ap (λ (l : List (Option (Vec NameLeft Global))). l ++ map (λ (w : Worker). w.left) c.next.new.self.rest.items)
          c.push_reserved-in-loop-worker.ensures.items
          ∙ append_assoc lists (c.in-Some.worker.left ∷ []) (map (λ (w : Worker). w.left) c.next.new.self.rest.items)
          ∙ subst (λ (z : List Worker). lists ++ map (λ (w : Worker). w.left) z ≡ map (λ (w : Worker). w.left) workers)
          e i.2,
      grind arith,
      grind arith,
    )
