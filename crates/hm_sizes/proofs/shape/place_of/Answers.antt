use Rattle.std.proofs.Common.{◌≡◌, ℕ, ◌/◌, ◌%◌, ◌==◌, true, sym, ◌∙◌, ap, arith}
use Rattle.std.proofs.lemmas.Bool.Decides.{nat_tests}
use Rattle.hm_sizes.specs.Shapes.{is_guard}
use Rattle.hm_sizes.proofs.PlaceTest.{IsRead, place_read}
use Rattle.hm_sizes.proofs.shape.place_of.Goals as goal
use Rattle.hm_sizes.proofs.shape.place_of.Goals.{then-slab-shape-via-then-slab-shape, then-slab-shape-via-else-slab-shape+then-is_guard, then-slot-from-via-then-slot-from, then-slot-from-via-else-slot-from+then-within-shape-ne0}

same : (a b : ℕ) → (a == b) ≡ true → a ≡ b
same a b e = grind (arith, nat_tests)

pub returns-then-slab-shape : goal.returns-then-slab-shape
returns-then-slab-shape c n i h =
    let p = c.args.shape.now in
    let read : IsRead p c.args.addr n i = place_read p c.args.addr n i (record { slot_some = c.requires.slot; slots_fit = c.requires.slots_fit }) h in
    let slab : c.in_ok-offset.offset / p.slab ≡ n = ap (λ (x : ℕ). x / p.slab) c.in_ok-offset.ensures.1 ∙ read.slab in
    elim c.then-slab-shape.branch [
      | then-slab-shape-via-then-slab-shape w ↦ omega (arith, h.below)
      | then-slab-shape-via-else-slab-shape+then-is_guard w ↦
          h.no_guard (same _ _ (ap (λ (x : ℕ). is_guard p x) (sym slab) ∙ sym w.is_guard.ensures ∙ w.if-is_guard.true))
    ]

pub returns-then-slot-from : goal.returns-then-slot-from
returns-then-slot-from c n i h =
    let p = c.args.shape.now in
    let read : IsRead p c.args.addr n i = place_read p c.args.addr n i (record { slot_some = c.requires.slot; slots_fit = c.requires.slots_fit }) h in
    let is = c.in_ok-offset.ensures.1 in
    let slot : c.in_ok-offset.offset % p.slab / p.slot ≡ i = ap (λ (x : ℕ). x % p.slab / p.slot) is ∙ read.slot in
    let whole : c.in_ok-offset.offset % p.slab % p.slot ≡ 0 = ap (λ (x : ℕ). x % p.slab % p.slot) is ∙ read.whole in
    elim c.then-slot-from.branch [
      | then-slot-from-via-then-slot-from w ↦ omega (arith, h.slot)
      | then-slot-from-via-else-slot-from+then-within-shape-ne0 w ↦ w.if-within-shape-ne0.true whole
    ]
