use Rattle.std.proofs.Common.{◌≡◌, ◌∙◌, length, sym, ap, subst}
use Rattle.hm_slab_lists.specs.Table.{is_open}
use Rattle.hm_slab_meta.specs.Uses as meta
use Rattle.hm_class.specs.Slabs.{Slabs, IsFiled, uses_of, shown}
use Rattle.hm_class.specs.Uses.{with_canary, with_canary_at, live_count}
use Rattle.hm_class.proofs.Tables.{lent_is, none_lent, none_changed, uses_written, filed_written}
use Rattle.hm_class.proofs.Used.{live_sealed}
use Rattle.hm_class.proofs.slabs.Slabs.set_canary.Goals as goal
use Rattle.hm_class.proofs.slabs.Slabs.set_canary.Goals.{in-Some, in_default}

-- the slots, as the table has them
uses_now : (c : goal.Joined-meta_mut) → uses_of c.match-meta_mut.self-inside.lists ≡ with_canary_at (uses_of c.self.inside.lists) c.args.slab c.args.canary
uses_now c = elim c.match-meta_mut.branch as (λ _. uses_of c.match-meta_mut.self-inside.lists ≡ with_canary_at (uses_of c.self.inside.lists) c.args.slab c.args.canary) [
  | in-Some w ↦
      ap (λ i. uses_of i.lists) w.self-inside-is
      ∙ uses_written c.self.inside.lists c.args.slab w.in-Some.meta.now w.set_canary.new.self c.self.invariant.0
      (lent_is c.meta_mut.result w.in-Some.meta _ c.meta_mut.ensures.value w.in-Some.is) (with_canary c.args.canary)
      (ap (shown (is_open c.args.slab c.self.inside.lists)) (sym w.set_canary.ensures))
  | in_default w ↦
      ap (λ i. uses_of i.lists) w.self-inside-is
      ∙ sym (none_changed c.self.inside.lists c.args.slab c.self.invariant.0 (none_lent c.meta_mut.result _ c.meta_mut.ensures.value w.in_default.is) (with_canary c.args.canary))
]

live_now : (c : goal.Joined-meta_mut) → c.match-meta_mut.self-inside.live ≡ c.self.inside.live
live_now c = elim c.match-meta_mut.branch as (λ _. c.match-meta_mut.self-inside.live ≡ c.self.inside.live) [
  | in-Some w ↦ ap (λ i. i.live) w.self-inside-is
  | in_default w ↦ ap (λ i. i.live) w.self-inside-is
]

pub invariant_of-self : goal.invariant_of-self
invariant_of-self c = (
  elim c.match-meta_mut.branch as (λ _. IsFiled c.match-meta_mut.self-inside.lists) [
    | in-Some w ↦
        subst (λ i. IsFiled i.lists) (sym w.self-inside-is)
        (filed_written c.self.inside.lists c.args.slab w.in-Some.meta.now w.set_canary.new.self c.self.invariant.0
        (lent_is c.meta_mut.result w.in-Some.meta _ c.meta_mut.ensures.value w.in-Some.is) (ap (λ (m : meta.SlabUse). length m.slots) w.set_canary.ensures))
    | in_default w ↦ subst (λ i. IsFiled i.lists) (sym w.self-inside-is) c.self.invariant.0
  ],
  live_now c ∙ c.self.invariant.1 ∙ sym (ap live_count (uses_now c) ∙ live_sealed (uses_of c.self.inside.lists) c.args.slab c.args.canary),
)

pub returns-clause-slabs : goal.returns-clause-slabs
returns-clause-slabs c = uses_now c ∙ ap (λ (k : Slabs). with_canary_at k.slabs c.args.slab c.args.canary) c.self.view_is
