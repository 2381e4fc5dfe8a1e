use Rattle.std.proofs.Common.{◌≡◌, ◌∙◌, None, sym}
use Rattle.hm_class_rules.specs.Bytes.{first_trap}
use Rattle.hm_class.proofs.Accessed.{trap_told, trap_within, begins_inside}
use Rattle.hm_class.proofs.access.fetch.Goals as goal

pub returns-in-Some-clause-fetched : goal.returns-in-Some-clause-fetched
returns-in-Some-clause-fetched g c = λ told s shows h. trap_told c.args.identity.now.shape c.args.slabs.now.slabs s _ c.args.addr c.args.len c.args.identity.now.served.shape shows h ∙ sym c.in-Some.ensures

pub read-requires-clause-from : goal.read-requires-clause-from
read-requires-clause-from g c κs within = (begins_inside c.args.identity.now.shape c.args.slabs.now.slabs c.args.addr c.args.len c.requires.some (sym c.in_default.ensures)).from

pub returns-in-Some-2-clause-fetched : goal.returns-in-Some-2-clause-fetched
returns-in-Some-2-clause-fetched g c = (
  (let long = rw c.in-Some-2.is at c.in_ok-runs.ensures.length in long),
  λ told s shows h. (let none : first_trap c.args.identity.now.shape s c.args.addr c.args.len ≡ None = trap_told c.args.identity.now.shape c.args.slabs.now.slabs s _ c.args.addr c.args.len c.args.identity.now.served.shape shows h ∙ sym c.in_default.ensures in
      (none, (let read = rw c.in-Some-2.is at (c.in_ok-runs.ensures.bytes told s h none) in read))),
)

pub returns-in-None-clause-fetched : goal.returns-in-None-clause-fetched
returns-in-None-clause-fetched g c = λ told s shows h.
    (let none : first_trap c.args.identity.now.shape s c.args.addr c.args.len ≡ None = trap_told c.args.identity.now.shape c.args.slabs.now.slabs s _ c.args.addr c.args.len c.args.identity.now.served.shape shows h ∙ sym c.in_default.ensures in
    absurd (let read = rw c.in-None.is at (c.in_ok-runs.ensures.bytes told s h none) in read))

pub returns-in-Some-clause-within : goal.returns-in-Some-clause-within
returns-in-Some-clause-within g c = trap_within c.args.identity.now.shape c.args.slabs.now.slabs c.args.addr c.args.len _ (sym c.in-Some.ensures)

pub returns-in-Some-2-clause-trap : goal.returns-in-Some-2-clause-trap
returns-in-Some-2-clause-trap g c = sym c.in_default.ensures

pub returns-in-Some-2-clause-within : goal.returns-in-Some-2-clause-within
returns-in-Some-2-clause-within g c = (let long = rw c.in-Some-2.is at c.in_ok-runs.ensures.length in long)
