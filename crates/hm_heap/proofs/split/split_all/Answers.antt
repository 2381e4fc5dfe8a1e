use Rattle.std.proofs.Common.{arith, ◌≡◌, ◌<◌, slice_index_or, length, ◌∙◌, subst}
use Rattle.std.proofs.lemmas.List.{get_or_default}
use Rattle.std.proofs.lemmas.Bool.{cases_lt}
use mathlib.Core.Logic.{inl, inr}
use Rattle.hm_turn.specs.Known.{Known, KnowsCallers}
use Rattle.hm_heap.proofs.Maps.{map_at, changed_more}
use Rattle.hm_heap.specs.Passes.{cut, born}
use Rattle.hm_heap.proofs.split.split_all.Goals as goal

pub loop-r-preserved : goal.loop-r-preserved
loop-r-preserved g c =
    let i = c.loop-r.invariant in
    let x = c.index_mut.result.now in
    let start = c.args.roots.now.items in
    let now = c.loop-r.roots.items in
    let r = c.loop-r.r in
    let b : r < length start = grind arith in
    let at : x ≡ slice_index_or start r x = c.index_mut.ensures.value ∙ i.0.later r x (omega arith) in
    let this : KnowsCallers (slice_index_or start r x).knows = subst (λ (z : Known). KnowsCallers z.knows) at c.split.ensures.callers in (
      rw c.push_reserved.ensures.items (changed_more (cut c.args.caller) (born c.args.caller) start now c.loop-r.turns.items r x c.split.new.turn c.split.result i.0 b (grind arith) at c.split.ensures.left c.split.ensures.right),
      grind arith,
      λ k t l. elim (cases_lt k r) [
        | inl m ↦ i.2 k t m
        | inr m ↦ let e : r ≡ k = omega arith in subst (λ n. KnowsCallers (slice_index_or start n t).knows) e (subst (λ (z : Known). KnowsCallers z.knows) (get_or_default start r x t b) this)
      ],
    )

pub returns-clause-root : goal.returns-clause-root
returns-clause-root g c = map_at (cut c.args.caller) c.args.roots.now.items c.loop-r.roots.items (grind arith) (λ k t b. grind arith)
