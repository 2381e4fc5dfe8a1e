use Rattle.std.proofs.Common.{◌∙◌, ◌+◌, ◌-◌, ℕ, arith, sym}
use Rattle.hm_class.proofs.Accessed.{trap_on, trap_here}
use Rattle.hm_class.proofs.access.first_trap.Goals as goal

pub loop-at-preserved : goal.loop-at-preserved
loop-at-preserved c = record {
  later = omega (arith, c.loop-at.invariant.later, c.slab_end-at.ensures.later);
  same = c.loop-at.invariant.same
      ∙ trap_on c.args.identity.now.shape c.args.slabs.now.slabs c.loop-at.at (c.args.addr + c.args.len) c.slab_end-at.result c.args.identity.now.served.shape (sym c.is_accessible.ensures ∙ c.if-not-is_accessible.false) c.slab_end-at.ensures.value;
}

pub returns-then-not-is_accessible : goal.returns-then-not-is_accessible
returns-then-not-is_accessible c =
    let end : ℕ = c.args.addr + c.args.len in
    sym (c.loop-at.invariant.same ∙ trap_here c.args.identity.now.shape c.args.slabs.now.slabs c.loop-at.at (end - c.loop-at.at) (omega (arith, c.loop-at-test.true)) (sym c.is_accessible.ensures ∙ c.if-not-is_accessible.true))
