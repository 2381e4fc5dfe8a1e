use Rattle.std.proofs.Common.{◌≡◌, ◌-◌, ◌∙◌, length, sym, ap, subst, arith}
use Rattle.std.proofs.lemmas.List.{length-set}
use Rattle.hm_slab_lists.specs.Table.{is_open}
use Rattle.hm_slab_meta.specs.Uses as meta
use Rattle.hm_slab_meta.specs.Uses.{Live, Quarantined}
use Rattle.hm_class.specs.Slabs.{Slabs, IsFiled, uses_of, shown}
use Rattle.hm_class.specs.Uses.{use_at, with_slot, with_use, live_count}
use Rattle.hm_class.proofs.Tables.{lent_is, none_lent, none_used, same_slot, uses_written, filed_written}
use Rattle.hm_class.proofs.Used.{live_quarantined}
use Rattle.hm_class.proofs.slabs.Slabs.quarantine.Goals as goal
use Rattle.hm_class.proofs.slabs.Slabs.quarantine.Goals.{in-Some, in_default}

pub quarantine-requires : goal.quarantine-requires
quarantine-requires c =
    let was = ap (λ (k : Slabs). use_at k.slabs c.args.slot.slab c.args.slot.index) c.self.view_is ∙ c.requires.live in
    same_slot c.self.inside.lists c.args.slot.slab c.args.slot.index c.in-Some.meta.now c.self.invariant.0
    (lent_is c.meta_mut.result c.in-Some.meta _ c.meta_mut.ensures.value c.in-Some.is) Live was

-- the slots, as the table has them
uses_now : (c : goal.Joined-meta_mut) → uses_of c.match-meta_mut.self-inside.lists ≡ with_use (uses_of c.self.inside.lists) c.args.slot.slab c.args.slot.index Quarantined
uses_now c =
    let was = ap (λ (k : Slabs). use_at k.slabs c.args.slot.slab c.args.slot.index) c.self.view_is ∙ c.requires.live in
    elim c.match-meta_mut.branch as (λ _. uses_of c.match-meta_mut.self-inside.lists ≡ with_use (uses_of c.self.inside.lists) c.args.slot.slab c.args.slot.index Quarantined) [
      | in-Some w ↦
          ap (λ i. uses_of i.lists) w.self-inside-is
          ∙ uses_written c.self.inside.lists c.args.slot.slab w.in-Some.meta.now w.quarantine.new.self c.self.invariant.0
          (lent_is c.meta_mut.result w.in-Some.meta _ c.meta_mut.ensures.value w.in-Some.is) (with_slot c.args.slot.index Quarantined)
          (ap (shown (is_open c.args.slot.slab c.self.inside.lists)) (sym w.quarantine.ensures))
      | in_default w ↦
          absurd (none_used c.self.inside.lists c.args.slot.slab c.self.invariant.0 (none_lent c.meta_mut.result _ c.meta_mut.ensures.value w.in_default.is)
          c.args.slot.index Live was)
    ]

live_now : (c : goal.Joined-meta_mut) → c.match-meta_mut.self-inside.live ≡ c.self.inside.live - 1
live_now c = elim c.match-meta_mut.branch as (λ _. c.match-meta_mut.self-inside.live ≡ c.self.inside.live - 1) [
  | in-Some w ↦ ap (λ i. i.live) w.self-inside-is
  | in_default w ↦ ap (λ i. i.live) w.self-inside-is
]

pub invariant_of-self : goal.invariant_of-self
invariant_of-self c =
    let was = ap (λ (k : Slabs). use_at k.slabs c.args.slot.slab c.args.slot.index) c.self.view_is ∙ c.requires.live in (
      elim c.match-meta_mut.branch as (λ _. IsFiled c.match-meta_mut.self-inside.lists) [
        | in-Some w ↦
            subst (λ i. IsFiled i.lists) (sym w.self-inside-is)
            (filed_written c.self.inside.lists c.args.slot.slab w.in-Some.meta.now w.quarantine.new.self c.self.invariant.0
            (lent_is c.meta_mut.result w.in-Some.meta _ c.meta_mut.ensures.value w.in-Some.is)
            (ap (λ (m : meta.SlabUse). length m.slots) w.quarantine.ensures ∙ length-set w.in-Some.meta.now.slots c.args.slot.index _))
        | in_default w ↦ subst (λ i. IsFiled i.lists) (sym w.self-inside-is) c.self.invariant.0
      ],
      omega (arith, live_now c, c.self.invariant.1, ap live_count (uses_now c), live_quarantined (uses_of c.self.inside.lists) c.args.slot.slab c.args.slot.index was),
    )

pub returns-clause-slabs : goal.returns-clause-slabs
returns-clause-slabs c = uses_now c ∙ ap (λ (k : Slabs). with_use k.slabs c.args.slot.slab c.args.slot.index Quarantined) c.self.view_is

pub overflow_sub-self : goal.overflow_sub-self
overflow_sub-self c =
    let was = ap (λ (k : Slabs). use_at k.slabs c.args.slot.slab c.args.slot.index) c.self.view_is ∙ c.requires.live in
    omega (arith, c.self.invariant.1, live_quarantined (uses_of c.self.inside.lists) c.args.slot.slab c.args.slot.index was)
